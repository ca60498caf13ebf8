use Rattle.std.proofs.Common.{[], ◌∷◌, sym, ap, ◌∙◌, subst, arith}
use Rattle.std.proofs.lemmas.Grind.{common_steps}
use Rattle.lie_letters.specs.Entries.{AreUnits, times_each}
use Rattle.lie_letters.specs.Spelled.{JoinedSpelled}
use Rattle.lie_letters.specs.declared.letter.Letter.TheVariants.{H}
use Rattle.lie_letters.proofs.TorusLemmas.{product_joined}
use Rattle.lie_letters.proofs.torus.Torus.mul.Goals as goal

pub returns-clause-entries : goal.returns-clause-entries
returns-clause-entries c = grind (arith, common_steps)

pub returns-clause-joined : goal.returns-clause-joined
returns-clause-joined c = λ f e d.
    let left = subst (λ F. AreUnits F c.args.self.now) (sym e) c.requires.left in
    let right = subst (λ F. AreUnits F c.args.b.now) (sym e) c.requires.right in
    subst (λ t. JoinedSpelled f (H c.args.self.now ∷ H c.args.b.now ∷ []) (H t ∷ []))
    (ap (λ F. times_each F c.args.self.now c.args.b.now) e ∙ sym (returns-clause-entries c))
    (product_joined f c.args.self.now c.args.b.now left right d (d ∙ c.requires.same))
