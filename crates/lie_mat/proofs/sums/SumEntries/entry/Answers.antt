use Rattle.std.proofs.Common.{refl}
use Rattle.lie_ring.specs.Matrices.{entry}
use Rattle.lie_mat.proofs.Products.{absent, sum-none}
use Rattle.lie_mat.proofs.sums.SumEntries.entry.Goals as goal

pub returns-in-None-None-clause-value : goal.returns-in-None-None-clause-value
returns-in-None-None-clause-value g c =
    let s = c.args.self.now in
    let R = g.R.Ring.ring s.ring.now in
    let ring = g.met.R.Ring.is_ring s.ring.now in
    let same = g.met.R.Ring.one_zero s.ring.now in
    let z = g.R.Ring.zero in
    let i = c.args.row in
    let j = c.args.col in
    sum-none R ring z same (entry R.zero s.first.now i j) (entry R.zero s.second.now i j)
    (absent R ring z same s.first.now i j (c.in-None-None.ensures.none.0 refl))
    (absent R ring z same s.second.now i j (c.in-None-None.ensures'.none.0 refl))
