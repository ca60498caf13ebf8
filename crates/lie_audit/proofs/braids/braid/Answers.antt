-- One row more.
use Rattle.std.proofs.Common.{◌≡◌, subst, arith, ⊎_elim}
use Rattle.lie_datum.proofs.Entries.{within_or_past}
use Rattle.lie_const.specs.Signs.{eta_of}
use Rattle.lie_audit.specs.BraidParts.{HasBraidsFrom}
use Rattle.lie_audit.proofs.braids.braid.Goals as goal

pub loop-i-preserved : goal.loop-i-preserved
loop-i-preserved c = λ i h l. ⊎_elim
    (λ m. c.loop-i.invariant i h m)
    (λ m. (let e : c.loop-i.i ≡ i = omega (arith, l, m) in subst (HasBraidsFrom c.args.datum.now (eta_of c.args.signs.now)) e c.in_ok-braid_row.ensures))
    (within_or_past i c.loop-i.i)
