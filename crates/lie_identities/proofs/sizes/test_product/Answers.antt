use Rattle.std.proofs.Common.{◌≡◌, ◌+◌, ◌-◌, ◌∷◌, List, Err, take, drop, sym, ap, subst, ◌∙◌, arith}
use Rattle.std.proofs.lemmas.List.{drop_more, take-append-drop}
use Rattle.lie_ring.specs.declared.rings.RingStop.{RingStop}
use Rattle.lie_ring.specs.Integers.{integers}
use Rattle.lie_ring.specs.Matrices.{product}
use Rattle.lie_mat.specs.Wide.{IsHugeMatrix}
use Rattle.lie_mat.proofs.KeptLemmas.{told-err}
use Rattle.lie_const.specs.Modules.{dimension}
use Rattle.lie_poly.specs.Polynomials.{Polynomial, laurent}
use Rattle.lie_identities.specs.AuditRelations.{Factor, factor_size, side_size}
use Rattle.lie_identities.specs.Sizes.{IsSizes}
use Rattle.lie_identities.proofs.NaturalSizes.{side-sizes, side-huge}
use Rattle.lie_identities.proofs.sizes.test_product.Goals as goal

pub times_factor-requires-clause-sizes : goal.times_factor-requires-clause-sizes
times_factor-requires-clause-sizes c =
    let v = c.args.steps.now.module.now in
    subst (IsSizes (dimension v)) (sym c.loop-left.invariant.value) (side-sizes laurent v (drop c.loop-left.left c.args.side.now.factors.items))

pub returns-in_err-product-2-clause-wide : goal.returns-in_err-product-2-clause-wide
returns-in_err-product-2-clause-wide c = λ is.
    let v = c.args.steps.now.module.now in
    let xs = c.args.side.now.factors.items in
    let x : Factor Polynomial = c.index.result.now in
    let k = c.loop-left.left - 1 in
    let some = c.loop-left-test.true in
    let within = c.loop-left.invariant.within in
    let next : k + 1 ≡ c.loop-left.left = omega (arith, some) in
    let stopped = told-err c.from_residual-in_err-product-2.result _ RingStop.Wide c.from_residual-in_err-product-2.ensures.1 is in
    let huge : IsHugeMatrix (product integers (factor_size laurent v x) c.loop-left.product) = c.times_factor.ensures.wide (c.in_err-product-2.was ∙ ap Err (sym stopped)) in
    let rest : drop k xs ≡ x ∷ drop c.loop-left.left xs = drop_more xs k x (omega (arith, some, within)) ∙ ap (λ y. y ∷ drop (k + 1) xs) (sym c.index.ensures) ∙ ap (λ n. x ∷ drop n xs) next in
    let there : IsHugeMatrix (side_size laurent v (x ∷ drop c.loop-left.left xs)) = subst (λ M. IsHugeMatrix (product integers (factor_size laurent v x) M)) c.loop-left.invariant.value huge in
    subst (λ (ys : List (Factor Polynomial)). IsHugeMatrix (side_size laurent v ys)) (take-append-drop k xs)
    (side-huge laurent v (take k xs) (drop k xs) (subst (λ (ys : List (Factor Polynomial)). IsHugeMatrix (side_size laurent v ys)) (sym rest) there))
