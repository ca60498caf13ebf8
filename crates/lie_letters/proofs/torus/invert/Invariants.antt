use Rattle.std.proofs.Common.{◌≡◌, ◌++◌, take, drop}
use Rattle.lie_letters.specs.Entries.{AreUnits, inverses}
use Rattle.lie_letters.proofs.torus.invert.Given as goal

abbrev pub invariant-loop-i : goal.invariant-loop-i
invariant-loop-i l = (take l.i l.a ++ inverses l.field (drop l.i l.a) ≡ inverses l.field l.fn.a) × AreUnits l.field (drop l.i l.a)
