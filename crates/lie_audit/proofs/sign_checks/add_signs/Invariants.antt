use Rattle.lie_audit.specs.SignParts.{AreTested}
use Rattle.lie_audit.proofs.sign_checks.add_signs.Given as goal

abbrev pub invariant-loop-place : goal.invariant-loop-place
invariant-loop-place l = AreTested l.datum l.adjoint l.table.items l.i l.place
