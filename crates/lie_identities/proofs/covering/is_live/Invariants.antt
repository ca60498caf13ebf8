use Rattle.std.proofs.Common.{ℕ, ◌<◌}
use Rattle.lie_const.specs.Modules.{divided_power}
use Rattle.lie_identities.specs.CoverParts.{IsLiveColumn}
use Rattle.lie_identities.proofs.covering.is_live.Given as goal

abbrev pub invariant-loop-col : goal.invariant-loop-col
invariant-loop-col l = (col : ℕ) → col < l.col → ¬ IsLiveColumn l.fn.field (divided_power l.fn.space l.fn.r 1) col
