use Rattle.lie_audit.specs.SignParts.{AreTested}
use Rattle.lie_audit.proofs.sign_checks.signs.Given as goal

abbrev pub invariant-loop-i : goal.invariant-loop-i
invariant-loop-i l = AreTested l.datum l.adjoint l.table.items l.i 0
