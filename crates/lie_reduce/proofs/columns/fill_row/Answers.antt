use Rattle.std.proofs.Common.{◌∙◌, ◌<◌, ap₂, arith}
use Rattle.lie_ring.specs.Matrices.{with_entry}
use Rattle.lie_mat.specs.PartLemmas.{partial-step}
use Rattle.lie_reduce.specs.Pivots.{without_column}
use Rattle.lie_reduce.proofs.columns.fill_row.Goals as goal

pub loop-j-preserved : goal.loop-j-preserved
loop-j-preserved c =
    let n = c.args.m.now.height in
    let row = c.args.row in
    let j = c.loop-j.j in
    let test = c.loop-j-test.true in
    let end = c.dim-j-end.ensures.rows in
    let low : j < n = omega (arith, test, end) in
    c.set.ensures
    ∙ ap₂ (λ M e. with_entry 0 M row j e) c.loop-j.invariant c.reduced_entry.ensures
    ∙ partial-step 0 n n (without_column c.args.field.now.given c.args.m.now c.args.inverse c.args.p c.args.col) row j c.requires.row low
