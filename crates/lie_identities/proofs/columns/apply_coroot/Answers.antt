use Rattle.std.proofs.Common.{◌≡◌, ◌+◌, ◌<◌, ◌^◌, sym, subst, arith}
use Rattle.lie_const.specs.Modules.{dimension}
use Rattle.lie_poly.specs.Polynomials.{degree}
use Rattle.lie_identities.specs.AuditRelations.{coroot_power}
use Rattle.lie_identities.specs.Audit.{laurent_variables}
use Rattle.lie_identities.specs.Moves.{AreRowsMultiplied}
use Rattle.lie_identities.proofs.ColumnLemmas.{multiplied-none, multiplied-next, multiplied-all}
use Rattle.lie_identities.proofs.columns.apply_coroot.Goals as goal

pub loop-row-init : goal.loop-row-init
loop-row-init c = multiplied-none c.args.steps.now.datum.now c.args.steps.now.module.now c.args.i c.args.column.now c.requires.ready.column

pub multiply_row-requires : goal.multiply_row-requires
multiply_row-requires c =
    let d = c.args.steps.now.datum.now in
    let v = c.args.steps.now.module.now in
    let l = c.loop-row-test.true in
    let e = c.dim-row-end.ensures.value in
    let low = let g : c.loop-row.row < dimension v = omega (arith, l, e) in g in
    record {
      i = c.requires.i;
      row = low;
      column = c.loop-row.invariant.column;
      shallow = subst (λ x. degree (coroot_power laurent_variables d v c.args.i c.loop-row.row) + degree x < 2 ^ 30) (sym (c.loop-row.invariant.rest c.loop-row.row (omega arith) low)) (c.requires.ready.shallow c.loop-row.row low);
    }

pub loop-row-preserved : goal.loop-row-preserved
loop-row-preserved c =
    let d = c.args.steps.now.datum.now in
    let v = c.args.steps.now.module.now in
    let l = c.loop-row-test.true in
    let e = c.dim-row-end.ensures.value in
    multiplied-next d v c.args.i c.args.column.now c.requires.ready.column c.loop-row.row c.loop-row.column c.multiply_row.new.column (omega (arith, l, e)) c.loop-row.invariant c.in_ok-multiply_row.ensures

pub returns : goal.returns
returns c =
    let d = c.args.steps.now.datum.now in
    let v = c.args.steps.now.module.now in
    let f = c.loop-row-test.false in
    let a = c.loop-row.auto.row-end in
    let e = c.dim-row-end.ensures.value in
    multiplied-all d v c.args.i c.args.column.now c.requires.ready.column c.loop-row.column
    (subst (λ n. AreRowsMultiplied d v c.args.i c.args.column.now n c.loop-row.column) (let g : c.loop-row.row ≡ dimension v = omega (arith, f, a, e) in g) c.loop-row.invariant)
