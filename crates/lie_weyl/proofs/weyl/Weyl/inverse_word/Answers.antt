use Rattle.std.proofs.Common.{ℤ, List, subst, sym}
use Rattle.lie_weyl.specs.WeylElement.{Spells}
use Rattle.lie_weyl.proofs.ElementLemmas.{spelled_heights}
use Rattle.lie_weyl.proofs.weyl.Weyl.inverse_word.Goals as goal

pub returns-clause-least : goal.returns-clause-least
returns-clause-least c = λ w s.
    let d = c.args.datum.now in
    c.descents.ensures.least w s.letters (spelled_heights d w c.images.result.now c.heights.result (subst (λ (x : List ℤ). Spells d w x) (sym c.images.ensures) s) c.heights.ensures.heights)
