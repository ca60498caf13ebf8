use Rattle.std.proofs.Common.{◌≡◌, ◌-◌, pos, ◌*ℤ◌}
use Rattle.lie_datum.specs.RootDatum.{IsSimpleIndex}
use Rattle.lie_datum.specs.RootList.{IsNumber}
use Rattle.lie_const.specs.Signs.{eta_of}
use Rattle.lie_letters.specs.Braids.{carried_sign, alternating}
use Rattle.lie_audit.specs.SignParts.{unit}
use Rattle.lie_audit.proofs.braids.braid_value.Given as goal

abbrev pub invariant-loop-step : goal.invariant-loop-step
invariant-loop-step l = record {
  root : IsNumber l.datum l.root;
  letter : IsSimpleIndex l.datum.base l.letter;
  other : IsSimpleIndex l.datum.base l.other;
  carried : unit l.minus *ℤ carried_sign l.datum (eta_of l.signs) (alternating l.letter l.other (l._step-end - l._step)) l.root
      ≡ carried_sign l.datum (eta_of l.signs) (alternating l.j l.i (l._step-end - 1)) (pos l.i);
}
