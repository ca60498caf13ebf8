use Rattle.std.proofs.Common.{◌≡◌, ◌∙◌, ap, refl, sym, subst, length}
use Rattle.lie_ring.specs.Matrices.{identity}
use Rattle.lie_field.specs.FieldRing.{field_ring}
use Rattle.lie_const.specs.Modules.{dimension}
use Rattle.lie_reduce.specs.PeelSteps.{ArePeeled}
use Rattle.lie_reduce.specs.Reduction.{HasListMatrix}
use Rattle.lie_reduce.proofs.PeelLemmas.{peeled-all, peeled-none}
use Rattle.lie_reduce.proofs.CoefficientLemmas.{covering_for}
use Rattle.lie_reduce.proofs.coefficients.peel.Goals as goal

pub returns-then-same : goal.returns-then-same
returns-then-same c =
    let f = c.args.frame.now in
    let R = field_ring f.field in
    let a = c.args.audited.now in
    let M = c.args.m.now in
    let u = c.in_ok-entries.entries.items in
    let rest = c.in_ok-entries.rest in
    let ground = covering_for f a c.lawful.ensures c.module-space.ensures.audited c.requires.covers in
    let peeled = subst (λ s. ArePeeled f s M (length f.datum.positive) u rest) c.module-space.ensures.value c.in_ok-entries.ensures in
    let one = subst (λ z. c.in_ok-one.one ≡ identity (field_ring z.field) c.dim-2.result) c.frame.view_is c.in_ok-one.ensures.value
    ∙ ap (identity R) (c.dim-2.ensures.value ∙ ap dimension c.module-space.ensures.value) in
    subst (λ w. HasListMatrix f a.module w M) (sym c.of.ensures) (peeled-all f a.module ground M rest u peeled (c.if-same.ensures.0 refl ∙ one))

pub returns-else-same : goal.returns-else-same
returns-else-same c =
    let f = c.args.frame.now in
    let R = field_ring f.field in
    let a = c.args.audited.now in
    let M = c.args.m.now in
    let u = c.in_ok-entries.entries.items in
    let rest = c.in_ok-entries.rest in
    let ground = covering_for f a c.lawful.ensures c.module-space.ensures.audited c.requires.covers in
    let peeled = subst (λ s. ArePeeled f s M (length f.datum.positive) u rest) c.module-space.ensures.value c.in_ok-entries.ensures in
    let one = subst (λ z. c.in_ok-one.one ≡ identity (field_ring z.field) c.dim-2.result) c.frame.view_is c.in_ok-one.ensures.value
    ∙ ap (identity R) (c.dim-2.ensures.value ∙ ap dimension c.module-space.ensures.value) in
    peeled-none f a.module ground M rest u peeled (λ e. (let never = c.if-same.ensures.1 (e ∙ sym one) in cc))
