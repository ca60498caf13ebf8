use Rattle.std.proofs.Common.{◌≡◌}
use Rattle.lie_ring.specs.Rings.{Fits}
use Rattle.lie_letters.specs.RingLetters.{power}
use Rattle.lie_unip.proofs.terms.power.Given as goal

abbrev pub invariant-loop : goal.invariant-loop
invariant-loop g l = record {
  value : l.product ≡ power (g.R.Ring.ring l.ring) l.a l.counter;
  fits : Fits (g.R.Ring.ring l.ring) l.product;
}
