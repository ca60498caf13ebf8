use Rattle.lie_reply.proofs.FormLemmas.{replies_tell_words}
use Rattle.lie_reply.proofs.laws.replies_tell_words.Goals as goal

pub returns : goal.returns
returns c = replies_tell_words
