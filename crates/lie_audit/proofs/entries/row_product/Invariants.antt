use Rattle.std.proofs.Common.{◌≡◌, ◌*◌, ◌≤◌, pos, ◌*ℤ◌, unsigned_abs, get_or}
use Rattle.lie_ring.specs.Rings.{sum_below}
use Rattle.lie_ring.specs.Integers.{integers}
use Rattle.lie_const.specs.Modules.{root_element_entry}
use Rattle.lie_audit.specs.SignParts.{unit, IsWithinList}
use Rattle.lie_audit.proofs.entries.row_product.Given as goal

abbrev pub invariant-loop-j : goal.invariant-loop-j
invariant-loop-j l = record {
  sum_is : l.sum ≡ sum_below integers l.j (λ j. root_element_entry integers l.adjoint l.r (unit l.minus) l.row j *ℤ get_or l.column j (pos 0));
  small : unsigned_abs l.sum ≤ 60100000000 * l.j;
  smaller : IsWithinList 601 l.column → unsigned_abs l.sum ≤ 361201 * l.j;
}
