use Rattle.std.proofs.Common.{◌≡◌, map}
use Rattle.std.specs.List.{All, range_with_len}
use Rattle.lie_datum.specs.Numbers.{number_at}
use Rattle.lie_const.specs.Modules.{dimension}
use Rattle.lie_weight.specs.Kept.{ArePowers}
use Rattle.lie_weight.specs.Duals.{dual_powers}
use Rattle.lie_weight.proofs.dual.all_powers.Given as goal

abbrev pub invariant-loop-place : goal.invariant-loop-place
invariant-loop-place l =
    (map (λ w. w.items) l.powers.items ≡ map (λ i. dual_powers l.space (number_at l.positive i)) (range_with_len 0 l.place))
    × All (ArePowers (dimension l.space)) (map (λ w. w.items) l.powers.items)
