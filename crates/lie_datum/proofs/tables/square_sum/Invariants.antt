use Rattle.std.proofs.Common.{◌≡◌, ◌≤◌, ◌*◌, take, unsigned_abs}
use Rattle.lie_datum.specs.Entries.{square_sum}
use Rattle.lie_datum.proofs.tables.square_sum.Given as goal

abbrev pub invariant-loop-y : goal.invariant-loop-y
invariant-loop-y l = (l.sum ≡ square_sum (take l.y-index l.covectors) l.x) × (unsigned_abs l.sum ≤ 2621440000000000000000 * l.y-index)
