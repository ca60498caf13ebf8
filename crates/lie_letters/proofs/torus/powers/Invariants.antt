use Rattle.std.proofs.Common.{◌≡◌, ◌++◌, map, length, take, drop}
use Rattle.lie_field.specs.Quotient.{power_int}
use Rattle.lie_letters.proofs.torus.powers.Given as goal

abbrev pub invariant-loop-j : goal.invariant-loop-j
invariant-loop-j l =
    (take l.j l.powers ++ map (λ c. power_int l.field.given l.a c) (drop l.j l.exponents) ≡ map (λ c. power_int l.field.given l.a c) l.exponents) × (length l.powers ≡ 8)
