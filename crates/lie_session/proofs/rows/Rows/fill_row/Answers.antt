use Rattle.std.proofs.Common.{◌∙◌, ◌<◌, ap₂, length, arith}
use Rattle.lie_mat.specs.PartLemmas.{partial-step}
use Rattle.lie_ring.specs.Matrices.{entry, with_entry}
use Rattle.lie_session.specs.Outcomes.{matrix_of}
use Rattle.lie_session.proofs.rows.Rows.fill_row.Goals as goal

pub loop-col-preserved : goal.loop-col-preserved
loop-col-preserved c =
    let rows = c.args.self.now.rows in
    let n = length rows in
    let row = c.args.row in
    let col = c.loop-col.col in
    let test = c.loop-col-test.true in
    let end = c.count-col-end.ensures in
    let low : col < n = omega (arith, test, end) in
    c.set.ensures
    ∙ ap₂ (λ M e. with_entry 0 M row col e) c.loop-col.invariant c.entry.ensures
    ∙ partial-step 0 n n (entry 0 (matrix_of n rows)) row col c.requires.row low
