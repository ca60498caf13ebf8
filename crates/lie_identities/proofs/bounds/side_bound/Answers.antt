use Rattle.std.proofs.Common.{◌≡◌, ◌+◌, ◌-◌, ◌*◌, ◌∷◌, ℕ, List, length, drop, sym, ap, subst, ◌∙◌, arith, rules}
use Rattle.std.proofs.lemmas.List.{drop_more, drop_all}
use Rattle.lie_poly.specs.Polynomials.{Polynomial, laurent}
use Rattle.lie_identities.specs.AuditRelations.{Factor, side_size}
use Rattle.lie_identities.specs.Sizes.{HasColumnsWithin}
use Rattle.lie_identities.proofs.BoundLemmas.{unit-columns, side-columns}
use Rattle.lie_identities.proofs.bounds.side_bound.Goals as goal

pub loop-left-init : goal.loop-left-init
loop-left-init c =
    let v = c.args.steps.now.module.now in
    let xs = c.args.side.now.factors.items in
    let e : c.len-left.result ≡ length xs = let l = c.len-left.ensures in search rules in
    record {
      within = omega (arith, e);
      columns = subst (λ (ys : List (Factor Polynomial)). HasColumnsWithin (side_size laurent v ys) 1) (sym (drop_all c.len-left.result xs (omega (arith, e)))) (unit-columns laurent v);
    }

pub loop-left-preserved : goal.loop-left-preserved
loop-left-preserved c =
    let v = c.args.steps.now.module.now in
    let xs = c.args.side.now.factors.items in
    let x : Factor Polynomial = c.index.result.now in
    let k = c.loop-left.left - 1 in
    let some = c.loop-left-test.true in
    let within = c.loop-left.invariant.within in
    let next : k + 1 ≡ c.loop-left.left = omega (arith, some) in
    let rest : drop k xs ≡ x ∷ drop c.loop-left.left xs = drop_more xs k x (omega (arith, some, within)) ∙ ap (λ y. y ∷ drop (k + 1) xs) (sym c.index.ensures) ∙ ap (λ n. x ∷ drop n xs) next in
    record {
      within = omega (arith, within);
      columns = subst (λ (n : ℕ). HasColumnsWithin (side_size laurent v (drop k xs)) n) (sym c.in_ok-bound.ensures.1)
          (subst (λ (ys : List (Factor Polynomial)). HasColumnsWithin (side_size laurent v ys) (c.in_ok-factor_bound.field-0 * c.loop-left.bound)) (sym rest)
          (side-columns laurent v x (drop c.loop-left.left xs) c.in_ok-factor_bound.field-0 c.loop-left.bound c.in_ok-factor_bound.ensures c.loop-left.invariant.columns));
    }
