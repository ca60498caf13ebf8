-- The coefficients are small, and their difference is what the reflection adds.
use Rattle.std.proofs.Common.{◌-◌, ◌≤◌, ℤ, neg_ℤ, ◌+ℤ◌, unsigned_abs, sym, ap, subst, ◌∙◌, arith, lit<}
use Rattle.std.proofs.lemmas.Int.{ints}
use Rattle.lie_datum.specs.Vectors.{entry}
use Rattle.lie_datum.proofs.VectorLemmas.{fits, plain}
use Rattle.lie_datum.proofs.LoweredLemmas.{less_is}
use Rattle.lie_const.specs.StructureConstants.{coeffs_of}
use Rattle.lie_weight.proofs.PairingLemmas.{coefficient_small, pairing_change, pairing_small}
use Rattle.lie_weight.proofs.adjoint.negated_pairing.Goals as goal

image_small : (c : goal.After-result-2-1) → unsigned_abs (entry c.coeffs.result.now (c.args.i - 1)) ≤ 100
image_small c = subst (λ v. unsigned_abs (entry v (c.args.i - 1)) ≤ 100) (sym c.coeffs.ensures) (coefficient_small c.args.datum.now c.loaded.ensures c.reflect-image.result (c.args.i - 1) c.reflect-image.ensures.number)

own_small : (c : goal.After-result-2-1) → unsigned_abs (entry c.coeffs-2.result.now (c.args.i - 1)) ≤ 100
own_small c = subst (λ v. unsigned_abs (entry v (c.args.i - 1)) ≤ 100) (sym c.coeffs-2.ensures) (coefficient_small c.args.datum.now c.loaded.ensures c.args.r (c.args.i - 1) c.requires.number)

pub overflow_sub-result-3 : goal.overflow_sub-result-3
overflow_sub-result-3 c =
    let x = entry c.coeffs.result.now (c.args.i - 1) in
    let y = entry c.coeffs-2.result.now (c.args.i - 1) in
    rw (plain x 100 (image_small c) (lit< tt), plain y 100 (own_small c) (lit< tt)) (fits (x +ℤ neg_ℤ y) 200 (bound x y (image_small c) (own_small c)) (lit< tt))
  where
    bound : (x y : ℤ) → unsigned_abs x ≤ 100 → unsigned_abs y ≤ 100 → unsigned_abs (x +ℤ neg_ℤ y) ≤ 200
    bound x y p q = omega (arith, ints, p, q)

pub returns-clause-value : goal.returns-clause-value
returns-clause-value c =
    let x = entry c.coeffs.result.now (c.args.i - 1) in
    let y = entry c.coeffs-2.result.now (c.args.i - 1) in
    less_is x y (image_small c) (let l = own_small c in omega (arith, l))
    ∙ ap (λ v. entry v (c.args.i - 1) +ℤ neg_ℤ y) c.coeffs.ensures ∙ ap (λ v. entry (coeffs_of c.args.datum.now c.reflect-image.result) (c.args.i - 1) +ℤ neg_ℤ (entry v (c.args.i - 1))) c.coeffs-2.ensures
    ∙ pairing_change c.args.datum.now c.loaded.ensures c.args.r c.reflect-image.result c.args.i c.requires.index c.reflect-image.ensures.root

pub returns-clause-bound : goal.returns-clause-bound
returns-clause-bound c = subst (λ x. unsigned_abs x ≤ 200) (sym (returns-clause-value c))
    (pairing_small c.args.datum.now c.loaded.ensures c.args.r c.reflect-image.result c.args.i c.requires.index c.requires.number c.reflect-image.ensures.number c.reflect-image.ensures.root)
