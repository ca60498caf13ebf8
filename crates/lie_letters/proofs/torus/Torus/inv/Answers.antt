use Rattle.std.proofs.Common.{[], ◌∷◌, sym, ap, ◌∙◌, subst, arith}
use Rattle.std.proofs.lemmas.Grind.{common_steps}
use Rattle.lie_letters.specs.Entries.{AreUnits, inverses}
use Rattle.lie_letters.specs.Spelled.{JoinedSpelled}
use Rattle.lie_letters.specs.declared.letter.Letter.TheVariants.{H}
use Rattle.lie_letters.proofs.TorusLemmas.{inverse_joined}
use Rattle.lie_letters.proofs.torus.Torus.inv.Goals as goal

pub returns-clause-entries : goal.returns-clause-entries
returns-clause-entries c = grind (arith, common_steps)

pub returns-clause-joined : goal.returns-clause-joined
returns-clause-joined c = λ f e d.
    let units = subst (λ F. AreUnits F c.args.self.now) (sym e) c.requires in
    subst (λ t. JoinedSpelled f (H c.args.self.now ∷ H t ∷ []) [])
    (ap (λ F. inverses F c.args.self.now) e ∙ sym (returns-clause-entries c))
    (inverse_joined f c.args.self.now units d)
