use Rattle.std.proofs.Common.{ℕ, ◌<◌}
use Rattle.lie_datum.specs.RootDatum.{IsSimpleIndex}
use Rattle.lie_const.specs.Signs.{eta_of}
use Rattle.lie_audit.specs.BraidParts.{HasBraidsFrom}
use Rattle.lie_audit.proofs.braids.braid.Given as goal

abbrev pub invariant-loop-i : goal.invariant-loop-i
invariant-loop-i l = (i : ℕ) → IsSimpleIndex l.datum.base i → i < l.i → HasBraidsFrom l.datum (eta_of l.signs) i
