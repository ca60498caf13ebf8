use Rattle.std.proofs.Common.{◌≡◌, ◌∙◌, ap, refl, length, arith}
use Rattle.lie_mat.specs.Parts.{partial_table}
use Rattle.lie_mat.specs.PartLemmas.{partial-row, partial-all}
use Rattle.lie_ring.specs.Matrices.{entry}
use Rattle.lie_session.specs.Outcomes.{matrix_of}
use Rattle.lie_session.proofs.RowLemmas.{table_rows}
use Rattle.lie_session.proofs.rows.Rows.matrix.Goals as goal

pub loop-row-preserved : goal.loop-row-preserved
loop-row-preserved c =
    let rows = c.args.self.now.rows in
    let n = length rows in
    c.fill_row.ensures.partly ∙ partial-row 0 n n (entry 0 (matrix_of n rows)) c.loop-row.row

pub returns : goal.returns
returns c =
    let rows = c.args.self.now.rows in
    let n = length rows in
    let count = c.count-n.ensures in
    let last : c.loop-row.row ≡ n = omega (arith, c.loop-row-test.false, c.loop-row.auto.row-end, count) in
    c.loop-row.invariant ∙ ap (λ r. partial_table 0 n n (entry 0 (matrix_of n rows)) r 0) last ∙ partial-all 0 n n (entry 0 (matrix_of n rows)) ∙ table_rows n rows refl c.requires.rows
