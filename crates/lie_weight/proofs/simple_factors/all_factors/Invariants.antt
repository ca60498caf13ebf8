use Rattle.std.proofs.Common.{◌≡◌, ℕ, ◌+◌, ◌<◌, length, get_or}
use Rattle.lie_weight.specs.declared.factors.Factors.{Factors}
use Rattle.lie_weight.specs.Factors.{AreModuleFactors}
use Rattle.lie_weight.proofs.simple_factors.all_factors.Given as goal

abbrev pub invariant-loop-i : goal.invariant-loop-i
invariant-loop-i l = (length l.list.items ≡ l.i) × ((k : ℕ) (z : Factors) → k < l.i → AreModuleFactors l.space (k + 1) (get_or l.list.items k z))
