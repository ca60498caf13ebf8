use Rattle.std.proofs.Common.{◌≡◌, take, map, nat_abs}
use Rattle.lie_session.proofs.rows.elements.Given as goal

abbrev pub invariant-row : goal.invariant-row
invariant-row l = l.list.items ≡ map nat_abs (take l.n-index l.row)
