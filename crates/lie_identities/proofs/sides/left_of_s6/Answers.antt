-- The factors stand one behind the other.
use Rattle.std.proofs.Common.{◌≡◌, [], ◌∷◌, ℤ, pos, negsuc, neg_ℤ, List, IfOk, ap, subst, ◌∙◌}
use Rattle.lie_poly.specs.Polynomials.{Polynomial, constant, monomial}
use Rattle.lie_identities.specs.AuditRelations.{Factor, RootElement}
use Rattle.lie_identities.proofs.Appended.{appended}
use Rattle.lie_identities.proofs.sides.left_of_s6.Goals as goal

pub returns : goal.returns
returns c =
    let r = c.args.r in
    let x : Factor Polynomial = RootElement r (monomial (pos 1) (pos 1) (pos 0)) in
    let y : Factor Polynomial = RootElement c.opposite.result (monomial (negsuc 0) (negsuc 0) (pos 0)) in
    let p : Factor Polynomial = RootElement r (constant (negsuc 0)) in
    let q : Factor Polynomial = RootElement (neg_ℤ r) (constant (pos 1)) in
    let first = c.in_ok-first.ensures ∙ appended [] c.one.result.factors.items [] (x ∷ []) c.one.ensures in
    let second = c.in_ok-second.ensures ∙ appended [] c.in_ok-first.first.factors.items (x ∷ []) (y ∷ []) first in
    let third = c.in_ok-third.ensures ∙ appended [] c.in_ok-second.second.factors.items (x ∷ (y ∷ [])) (x ∷ []) second in
    subst (λ (l : List (Factor Polynomial)). IfOk c.times_weyl_inverse.result (λ s. s.factors.items ≡ l))
    (appended [] c.in_ok-third.third.factors.items (x ∷ (y ∷ (x ∷ []))) (p ∷ (q ∷ (p ∷ []))) third
    ∙ ap (λ (k : ℤ). x ∷ (RootElement k (monomial (negsuc 0) (negsuc 0) (pos 0)) ∷ (x ∷ (p ∷ (q ∷ (p ∷ [])))))) c.opposite.ensures)
    c.times_weyl_inverse.ensures
