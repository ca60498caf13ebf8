use Rattle.std.proofs.Common.{◌≡◌, ◌+◌, map}
use Rattle.std.specs.List.{All, range_with_len}
use Rattle.lie_datum.specs.Numbers.{number_at}
use Rattle.lie_const.specs.Modules.{dimension}
use Rattle.lie_weight.specs.Kept.{ArePowers}
use Rattle.lie_weight.specs.CarrierParts.{sum_powers}
use Rattle.lie_weight.proofs.sums.sum.Given as goal

abbrev pub invariant-loop-place : goal.invariant-loop-place
invariant-loop-place l =
    (map (λ w. w.items) l.powers.items ≡ map (λ i. sum_powers l.a l.b (number_at l.positive i)) (range_with_len 0 l.place))
    × All (ArePowers (dimension l.a + dimension l.b)) (map (λ w. w.items) l.powers.items)
