use Rattle.std.proofs.Common.{◌≡◌, suc, map}
use Rattle.std.specs.List.{All, range_with_len}
use Rattle.lie_const.specs.Modules.{dimension}
use Rattle.lie_weight.specs.Kept.{IsSquare}
use Rattle.lie_weight.specs.Duals.{dual_power}
use Rattle.lie_weight.proofs.dual.root_powers.Given as goal

abbrev pub invariant-loop-k : goal.invariant-loop-k
invariant-loop-k l =
    (l.powers.items ≡ map (λ i. dual_power l.space l.r (suc i)) (range_with_len 0 l.k))
    × All (IsSquare (dimension l.space)) l.powers.items
