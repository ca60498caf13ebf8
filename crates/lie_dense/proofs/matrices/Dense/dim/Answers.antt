use Rattle.std.proofs.Common.{subst}
use Rattle.lie_ring.specs.Matrices.{IsShaped}
use Rattle.lie_ring.specs.MatrixLemmas.{table-shaped}
use Rattle.lie_dense.specs.Flat.{place}
use Rattle.lie_dense.proofs.matrices.Dense.dim.Goals as goal

pub returns-clause-entries : goal.returns-clause-entries
returns-clause-entries c =
    let n = c.self.inside.dim in
    subst (IsShaped 0) c.self.view_is (table-shaped 0 n n (place n c.self.inside.entries.items))
