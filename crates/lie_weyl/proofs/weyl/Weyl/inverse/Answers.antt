use Rattle.std.proofs.Common.{reverse, subst, sym}
use Rattle.lie_weyl.specs.WeylElement.{Spells}
use Rattle.lie_weyl.proofs.Words.{is_word, are_letters, IsWord-reverse}
use Rattle.lie_weyl.proofs.ElementLemmas.{respelled}
use Rattle.lie_weyl.proofs.weyl.Weyl.inverse.Goals as goal

pub returns-clause-word : goal.returns-clause-word
returns-clause-word c = λ w s.
    let d = c.args.datum.now in
    let p = c.inverse_word.result.items in
    let least = c.inverse_word.ensures.least w s in
    let h = subst (λ v. Spells d v c.from_word.result) c.deref.ensures.0 c.from_word.ensures in
    respelled d p (reverse w) c.from_word.result h (are_letters d.base (reverse w) (IsWord-reverse d.base w (is_word d.base w s.letters))) (λ r m. sym (least.same r m))

pub returns-clause-element : goal.returns-clause-element
returns-clause-element c = (reverse c.requires.0, returns-clause-word c c.requires.0 c.requires.1)
