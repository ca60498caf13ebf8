use Rattle.test_modules.proofs.WordLemmas.{weyl_word as is_word}
use Rattle.test_modules.proofs.words.weyl_word.Goals as goal

pub returns : goal.returns
returns c = is_word c.args.field.now c.args.roots.now.datum c.in_ok-i.i c.in_ok-word.word c.loaded.ensures c.in_ok-i.ensures.index c.in_ok-word.ensures
