use Rattle.std.proofs.Common.{◌≡◌, ◌≤◌, ◌*◌, take, unsigned_abs}
use Rattle.lie_datum.specs.Vectors.{pairing, total}
use Rattle.lie_datum.specs.RootDatum.{covector}
use Rattle.lie_reduce.proofs.places.level.Given as goal

abbrev pub invariant-loop-k : goal.invariant-loop-k
invariant-loop-k l = (l.sum ≡ total (λ r. pairing l.weight (covector l.datum.base r)) (take l.k l.datum.positive)) × (unsigned_abs l.sum ≤ l.k * 640000000000)
