use Rattle.std.proofs.Common.{◌≡◌, ◌<◌, drop}
use Rattle.lie_field.specs.Quotient.{order, mul}
use Rattle.lie_letters.specs.Entries.{character}
use Rattle.lie_letters.proofs.torus.Torus.char_of.Given as goal

abbrev pub invariant-loop-j : goal.invariant-loop-j
invariant-loop-j l =
    (mul l.field.given l.value (character l.field (drop l.j l.entries) (drop l.j l.v)) ≡ character l.field l.entries l.v) × (l.value < order l.field.given)
