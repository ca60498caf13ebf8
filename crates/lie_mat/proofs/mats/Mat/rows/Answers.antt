use Rattle.std.proofs.Common.{◌≡◌, sym, length, subst}
use Rattle.lie_ring.specs.Matrices.{table, entry}
use Rattle.lie_ring.specs.MatrixLemmas.{table-same}
use Rattle.lie_mat.specs.ColumnLemmas.{entry-matrix_of}
use Rattle.lie_mat.proofs.mats.Mat.rows.Goals as goal

pub returns-clause-entries : goal.returns-clause-entries
returns-clause-entries g c =
    let z = g.R.Ring.zero in
    let h = c.self.inside.height in
    let columns = c.self.inside.columns.items in
    subst (λ M. M ≡ table M.height M.width (entry z M)) c.self.view_is
    (table-same h (length columns) _ _ (λ i j p q. sym (entry-matrix_of z h columns i j p q)))
