use Rattle.std.proofs.Common.{◌≡◌, ℕ, ◌+◌, ◌<◌, length, get_or}
use Rattle.lie_datum.specs.Vectors.{unit}
use Rattle.lie_reduce.specs.TorusReading.{IsValueAt}
use Rattle.lie_reduce.proofs.torus_part.axis_values.Given as goal

abbrev pub invariant-loop-j : goal.invariant-loop-j
invariant-loop-j l = (length l.entries ≡ 8) × ((i : ℕ) → i < l.j → IsValueAt l.field l.audited.module l.d (unit 8 (i + 1)) (get_or l.entries i 0))
