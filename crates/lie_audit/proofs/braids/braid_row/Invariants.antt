use Rattle.std.proofs.Common.{ℕ, ◌<◌, pos}
use Rattle.lie_datum.specs.RootDatum.{IsSimpleIndex}
use Rattle.lie_const.specs.Signs.{eta_of}
use Rattle.lie_letters.specs.Braids.{IsBraidValue}
use Rattle.lie_audit.proofs.braids.braid_row.Given as goal

abbrev pub invariant-loop-j : goal.invariant-loop-j
invariant-loop-j l = (j : ℕ) → IsSimpleIndex l.datum.base j → l.i < j → j < l.j → IsBraidValue l.datum (eta_of l.signs) l.i j (pos 1)
