use Rattle.lie_identities.specs.Moves.{AreRowsMultiplied}
use Rattle.lie_identities.proofs.columns.apply_coroot.Given as goal

abbrev pub invariant-loop-row : goal.invariant-loop-row
invariant-loop-row l = AreRowsMultiplied l.steps.datum.now l.steps.module.now l.i l.fn.column l.row l.column
