use Rattle.std.proofs.Common.{◌≡◌, map}
use Rattle.std.specs.List.{range_with_len}
use Rattle.lie_ring.specs.Matrices.{product_entry, column, EachFits}
use Rattle.lie_mat.proofs.mats.Mat.apply.Given as goal

abbrev pub invariant-loop-row : goal.invariant-loop-row
invariant-loop-row g l =
    let R = g.R.Ring.ring l.ring in
    record {
      value : l.image.items ≡ map (λ i. product_entry R l.self (column R.zero l.v) i 0) (range_with_len 0 l.row);
      fits : EachFits R l.image.items;
    }
