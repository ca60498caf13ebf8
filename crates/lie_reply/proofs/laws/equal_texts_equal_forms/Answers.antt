use Rattle.lie_reply.proofs.FormLemmas.{equal_texts_equal_forms}
use Rattle.lie_reply.proofs.laws.equal_texts_equal_forms.Goals as goal

pub returns : goal.returns
returns c = equal_texts_equal_forms
