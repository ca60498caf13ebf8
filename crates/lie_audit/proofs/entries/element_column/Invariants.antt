use Rattle.lie_ring.specs.Integers.{integers}
use Rattle.lie_const.specs.Modules.{root_element_entry}
use Rattle.lie_audit.specs.SignParts.{unit, Lists}
use Rattle.lie_audit.proofs.entries.element_column.Given as goal

abbrev pub invariant-loop-row : goal.invariant-loop-row
invariant-loop-row l = Lists l.row (λ i. root_element_entry integers l.adjoint l.r (unit l.minus) i l.col) 601 l.column.items
