use Rattle.std.proofs.Common.{length, ◌-◌, ◌≡◌, ◌+◌, ◌≤◌, ◌++◌, drop}
use Rattle.lie_poly.specs.Terms.{collect}
use Rattle.lie_poly.proofs.sums.sum_of.Given as goal

abbrev pub invariant-merge : goal.invariant-merge
invariant-merge l = record {
  i_in : l.i ≤ length l.xs;
  j_in : l.j ≤ length l.ys;
  merged : l.sum.items ++ collect (drop l.i l.xs ++ drop l.j l.ys) ≡ collect (l.xs ++ l.ys);
}

abbrev pub decreases-merge : goal.decreases-merge
decreases-merge l = (length l.xs - l.i) + (length l.ys - l.j)
