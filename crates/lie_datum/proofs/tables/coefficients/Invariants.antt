use Rattle.std.proofs.Common.{◌≡◌, take, map}
use Rattle.lie_datum.proofs.tables.coefficients.Given as goal

abbrev pub invariant-loop-r : goal.invariant-loop-r
invariant-loop-r l = l.list.items ≡ map (λ r. r.coeffs) (take l.r-index l.roots)
