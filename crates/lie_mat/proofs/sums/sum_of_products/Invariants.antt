use Rattle.std.proofs.Common.{◌≡◌, ◌≤◌, ◌-◌}
use Rattle.lie_ring.specs.Rings.{Fits, sum_below}
use Rattle.lie_ring.specs.Matrices.{product_term}
use Rattle.lie_mat.specs.Wide.{product_term_size, nat_sum_below}
use Rattle.lie_mat.proofs.sums.sum_of_products.Given as goal

abbrev pub invariant-loop-mid : goal.invariant-loop-mid
invariant-loop-mid g l =
    let R = g.R.Ring.ring l.ring in
    record {
      within : l.from ≤ l.second.height;
      value : l.sum ≡ sum_below R l.from (product_term R l.first l.second l.row l.col);
      fits : Fits R l.sum;
      size : R.size l.sum ≤ nat_sum_below l.from (product_term_size R l.first l.second l.row l.col);
    }

abbrev pub decreases-loop-mid : goal.decreases-loop-mid
decreases-loop-mid g l = l.second.height - l.from
