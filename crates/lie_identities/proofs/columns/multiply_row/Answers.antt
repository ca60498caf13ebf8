use Rattle.std.proofs.Common.{◌+◌, ◌<◌, ◌≤◌, ◌^◌, refl, sym, ap₂, subst, ◌∙◌, arith}
use Rattle.std.proofs.Math.Nat.{mul-le-mul_right}
use Rattle.lie_ring.specs.Rings.{Fits}
use Rattle.lie_ring.specs.Matrices.{entry}
use Rattle.lie_poly.specs.Polynomials.{laurent, product, size, degree}
use Rattle.lie_identities.specs.AuditRelations.{coroot_power}
use Rattle.lie_identities.specs.Audit.{laurent_variables}
use Rattle.lie_identities.proofs.ReadyLemmas.{coroot-small}
use Rattle.lie_identities.proofs.ColumnLemmas.{row-zero, row-written}
use Rattle.lie_identities.proofs.columns.multiply_row.Goals as goal

pub returns-in_default : goal.returns-in_default
returns-in_default c =
    row-zero c.args.steps.now.datum.now c.args.steps.now.module.now c.args.i c.args.column.now c.requires.column c.args.row c.requires.row (c.in_default.ensures.none.0 refl)

pub narrow_product-requires : goal.narrow_product-requires
narrow_product-requires c =
    let d = c.args.steps.now.datum.now in
    let v = c.args.steps.now.module.now in
    let V = c.args.column.now in
    let h = c.requires.column.height in
    let w = c.requires.column.width in
    let low = c.requires.row in
    let p = c.in_ok-power.ensures.value in
    let x = c.in-Some.ensures.some in
    let fits = let g : Fits laurent (entry laurent.zero V c.args.row 0) = c.requires.column.fit c.args.row 0 (omega (arith, low, h)) (omega (arith, w)) in g in
    let one = let g : size c.in_ok-power.power ≤ 1 = subst (λ y. size y ≤ 1) (sym p) (coroot-small d v c.args.i c.args.row) in g in
    let own = let g : Fits laurent c.in-Some.entry.now = subst (Fits laurent) (sym x) fits in g in
    let l = own.1 in
    let m = mul-le-mul_right (size c.in-Some.entry.now) one in
    record {
      a = c.in_ok-power.ensures.fits;
      b = own;
      small = omega (arith, l, m);
      shallow = subst (λ y. degree y + degree c.in-Some.entry.now < 2 ^ 30) (sym p) (subst (λ z. degree (coroot_power laurent_variables d v c.args.i c.args.row) + degree z < 2 ^ 30) (sym x) c.requires.shallow);
    }

pub returns : goal.returns
returns c =
    let d = c.args.steps.now.datum.now in
    let v = c.args.steps.now.module.now in
    let V = c.args.column.now in
    row-written d v c.args.i V c.requires.column c.args.row c.set.new.self c.in_ok-product.product c.requires.row
    (c.in_ok-set.ensures.fit c.requires.column.fit)
    c.in_ok-set.ensures.ok
    (c.in_ok-product.ensures.value ∙ ap₂ product c.in_ok-power.ensures.value c.in-Some.ensures.some)
