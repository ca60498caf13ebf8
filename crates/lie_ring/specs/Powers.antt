-- Powers in a ring.
-- Source: Lang, Algebra, II.1.
--
--   a^n    power R a n
use Rattle.std.specs.Prelude.{ℕ, zero, suc}
use Rattle.lie_ring.specs.Rings.{RingOn}

-- a^n
abbrev pub power : {A : Type 0} → RingOn A → A → ℕ → A
power R a zero = R.one
power R a (suc n) = R.mul (power R a n) a
