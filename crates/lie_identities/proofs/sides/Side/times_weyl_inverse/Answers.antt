-- The three factors stand one behind the other.
use Rattle.std.proofs.Common.{◌≡◌, [], ◌∷◌, ◌++◌, ℤ, pos, negsuc, List, IfOk, ap, subst, ◌∙◌}
use Rattle.lie_poly.specs.Polynomials.{Polynomial, constant}
use Rattle.lie_identities.specs.AuditRelations.{Factor, RootElement}
use Rattle.lie_identities.proofs.Appended.{appended}
use Rattle.lie_identities.proofs.sides.Side.times_weyl_inverse.Goals as goal

pub returns : goal.returns
returns c =
    let a = c.args.self.factors.items in
    let x : Factor Polynomial = RootElement c.args.r (constant (negsuc 0)) in
    let y : Factor Polynomial = RootElement c.opposite.result (constant (pos 1)) in
    let second = c.in_ok-second.ensures ∙ appended a c.in_ok-first.first.factors.items (x ∷ []) (y ∷ []) c.in_ok-first.ensures in
    subst (λ (l : List (Factor Polynomial)). IfOk c.times_root-3.result (λ s. s.factors.items ≡ l))
    (appended a c.in_ok-second.second.factors.items (x ∷ (y ∷ [])) (x ∷ []) second
    ∙ ap (λ (k : ℤ). a ++ x ∷ (RootElement k (constant (pos 1)) ∷ (x ∷ []))) c.opposite.ensures)
    c.times_root-3.ensures
