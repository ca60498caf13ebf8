use Rattle.std.proofs.Common.{◌≡◌, suc, ◌+◌, map}
use Rattle.std.specs.List.{All, range_with_len}
use Rattle.lie_const.specs.Modules.{dimension}
use Rattle.lie_weight.specs.Kept.{IsSquare}
use Rattle.lie_weight.specs.CarrierParts.{sum_power}
use Rattle.lie_weight.proofs.sums.root_powers.Given as goal

abbrev pub invariant-loop-k : goal.invariant-loop-k
invariant-loop-k l =
    (l.powers.items ≡ map (λ i. sum_power l.a l.b l.r (suc i)) (range_with_len 0 l.k))
    × All (IsSquare (dimension l.a + dimension l.b)) l.powers.items
