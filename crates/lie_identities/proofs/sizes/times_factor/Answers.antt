use Rattle.std.proofs.Common.{◌≡◌, ℕ, Err, refl, sym, ap, subst, ◌∙◌}
use Rattle.lie_ring.specs.declared.rings.RingStop.{RingStop}
use Rattle.lie_ring.specs.Integers.{integers}
use Rattle.lie_ring.specs.IntegerLaws.{integers_ring}
use Rattle.lie_ring.specs.Matrices.{identity, product}
use Rattle.lie_ring.specs.MatrixLaws.{one-product}
use Rattle.lie_mat.specs.Wide.{IsWideProduct, IsHugeMatrix}
use Rattle.lie_mat.proofs.KeptLemmas.{told-err}
use Rattle.lie_poly.specs.Polynomials.{Polynomial, laurent, size}
use Rattle.lie_identities.specs.AuditRelations.{Factor, factor_size, size_element}
use Rattle.lie_identities.specs.Sides.{factor_weight}
use Rattle.lie_identities.proofs.NaturalSizes.{factor-huge, product-huge}
use Rattle.lie_identities.proofs.sizes.times_factor.Goals as goal

pub returns-in_err-size-in-RootElement-clause-wide : goal.returns-in_err-size-in-RootElement-clause-wide
returns-in_err-size-in-RootElement-clause-wide c = λ is.
    let v = c.args.steps.now.module.now in
    let r = c.in-RootElement.r in
    let stopped = told-err c.from_residual.result _ RingStop.Wide c.from_residual.ensures.1 is in
    let huge : IsHugeMatrix (size_element v r c.args.weight) = c.root_size.ensures.wide (c.in_err-size-in-RootElement.was ∙ ap Err (sym stopped)) in
    let weight : c.args.weight ≡ size c.in-RootElement.field-1 = c.requires.weight ∙ ap factor_weight c.in-RootElement.is in
    factor-huge laurent v c.args.factor.now c.args.last c.requires.sizes
    (subst (λ (x : Factor Polynomial). IsHugeMatrix (factor_size laurent v x)) (sym c.in-RootElement.is) (subst (λ (n : ℕ). IsHugeMatrix (size_element v r n)) weight huge))

pub returns-in_ok-size-in-RootElement-clause-wide : goal.returns-in_ok-size-in-RootElement-clause-wide
returns-in_ok-size-in-RootElement-clause-wide c = λ is.
    let v = c.args.steps.now.module.now in
    let weight : c.args.weight ≡ size c.in-RootElement.field-1 = c.requires.weight ∙ ap factor_weight c.in-RootElement.is in
    let same = c.in_ok-size-in-RootElement.ensures.value ∙ ap (size_element v c.in-RootElement.r) weight ∙ sym (ap (factor_size laurent v) c.in-RootElement.is) in
    product-huge laurent v c.args.factor.now c.args.last c.requires.sizes
    (subst (λ M. IsWideProduct integers M c.args.last) same (c.mul.ensures.wide is))

pub returns-in-CorootElement-clause-value : goal.returns-in-CorootElement-clause-value
returns-in-CorootElement-clause-value c =
    let v = c.args.steps.now.module.now in
    let last = c.args.last in
    sym (ap (λ (x : Factor Polynomial). product integers (factor_size laurent v x) last) c.in-CorootElement.is
    ∙ ap (λ (n : ℕ). product integers (identity integers n) last) (sym c.requires.sizes.size.height)
    ∙ one-product integers integers_ring last c.rows.ensures.entries (λ i j _ _. refl))
