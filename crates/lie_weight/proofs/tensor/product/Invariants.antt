use Rattle.std.proofs.Common.{map}
use Rattle.lie_weight.proofs.TensorPlaces.{AreProducts}
use Rattle.lie_weight.proofs.tensor.product.Given as goal

abbrev pub invariant-loop-place : goal.invariant-loop-place
invariant-loop-place l = AreProducts l.datum l.first l.second l.place (map (λ w. w.items) l.powers.items)
