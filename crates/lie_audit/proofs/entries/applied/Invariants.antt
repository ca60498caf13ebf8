use Rattle.lie_audit.specs.SignParts.{unit, Lists, row_value}
use Rattle.lie_audit.proofs.entries.applied.Given as goal

abbrev pub invariant-loop-row : goal.invariant-loop-row
invariant-loop-row l = Lists l.row (λ i. row_value l.adjoint l.r (unit l.minus) i l.fn.column) 100000000 l.image.items
