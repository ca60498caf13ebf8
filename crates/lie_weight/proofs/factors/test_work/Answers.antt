use Rattle.std.proofs.Common.{◌≡◌, ap, ◌∙◌, refl, subst, Err}
use Rattle.lie_ring.specs.declared.rings.RingStop.TheVariants.{Wide}
use Rattle.lie_ring.specs.Integers.{integers}
use Rattle.lie_ring.specs.Matrices.{product, AllFit}
use Rattle.lie_mat.specs.Wide.{IsWideProduct}
use Rattle.lie_weight.specs.Conjugation.{absolute}
use Rattle.lie_weight.specs.Factors.{IsOfSize, work_on}
use Rattle.lie_weight.proofs.FactorLemmas.{half_wide, work_wide, work_fits}
use Rattle.lie_weight.proofs.factors.test_work.Goals as goal

pub returns-in-Err-mul-clause-wide : goal.returns-in-Err-mul-clause-wide
returns-in-Err-mul-clause-wide c e =
    let M = c.args.matrix.now in
    let w = c.args.factors.now in
    let size : IsOfSize M.height M = record { height = refl; width = c.requires.square } in
    let stop : c.in-Err-mul.stop ≡ Wide = cc in
    half_wide M.height w c.requires.factors M size (subst (λ t. IsWideProduct integers w.absolute t) c.in-Ok.ensures.value (c.in-Err-mul.ensures.wide (ap Err stop)))

pub returns-in-Ok-mul-2-clause-small : goal.returns-in-Ok-mul-2-clause-small
returns-in-Ok-mul-2-clause-small c =
    let M = c.args.matrix.now in
    let w = c.args.factors.now in
    let size : IsOfSize M.height M = record { height = refl; width = c.requires.square } in
    let half : c.in-Ok-mul.half ≡ product integers w.absolute (absolute M) = c.in-Ok-mul.ensures.value ∙ ap (product integers w.absolute) c.in-Ok.ensures.value in
    let whole : c.in-Ok-mul-2.field-0 ≡ work_on w.absolute M = c.in-Ok-mul-2.ensures.value ∙ ap (λ t. product integers t w.absolute) half in
    work_fits M.height w c.requires.factors M size (subst (AllFit integers) whole c.in-Ok-mul-2.ensures.fit)

pub returns-clause-wide : goal.returns-clause-wide
returns-clause-wide c e =
    let M = c.args.matrix.now in
    let w = c.args.factors.now in
    let size : IsOfSize M.height M = record { height = refl; width = c.requires.square } in
    let stop : c.in-Err-mul-2.stop ≡ Wide = cc in
    let half : c.in-Ok-mul.half ≡ product integers w.absolute (absolute M) = c.in-Ok-mul.ensures.value ∙ ap (product integers w.absolute) c.in-Ok.ensures.value in
    work_wide M.height w c.requires.factors M size (subst (λ t. IsWideProduct integers t w.absolute) half (c.in-Err-mul-2.ensures.wide (ap Err stop)))
