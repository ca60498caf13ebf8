use Rattle.std.proofs.Common.{◌≡◌, take, map, nat_abs}
use Rattle.lie_session.proofs.stage.residues.Given as goal

abbrev pub invariant-coeffs : goal.invariant-coeffs
invariant-coeffs l = l.list.items ≡ map nat_abs (take l.c-index l.coeffs)
