-- Numbers that are drawn, and texts that are drawn with them.
-- Source: Knuth, The Art of Computer Programming, volume 2, 3.2.1 (linear congruential sequences).
-- Own: the multiplier, the increment and the modulus, and which bits are taken.
--
--   the state after z               next z             (1103515245 z + 12345) mod 2^31
--   the number below m drawn at z   drawn m z          floor(next z / 65536) mod m
--   a text, from the state z on     f z                the text, and the state after it
--   f, and g behind it              f >> g
use Rattle.std.specs.Prelude.{◌≡◌, ℕ, zero, suc, ◌+◌, ◌*◌, ◌/◌, ◌%◌, List, [], ◌++◌, if◌then◌else◌, nat_eq, decimal}

-- the state after a state
abbrev pub next : ℕ → ℕ
next z = (1103515245 * z + 12345) % 2147483648

-- the number below m that is drawn at a state
abbrev pub drawn : ℕ → ℕ → ℕ
drawn m z = (next z / 65536) % m

-- a text that is drawn, and the state after it, by the state before it
abbrev pub Drawing : Type 0
Drawing = ℕ → List ℕ × ℕ

-- a text for which nothing is drawn
abbrev pub fixed : List ℕ → Drawing
fixed text z = (text, z)

infixr 5 ◌>>◌
-- a text, and another behind it
unfoldable pub ◌>>◌ : Drawing → Drawing → Drawing
(f >> g) z = ((f z).0 ++ (g (f z).1).0, (g (f z).1).1)

-- a number from 1 to m
abbrev pub number : ℕ → Drawing
number m z = (decimal (1 + drawn m z), next z)

-- the text, or none
abbrev pub chosen : List ℕ → Drawing
chosen text z = (if nat_eq (drawn 2 z) 1 then text else [], next z)

-- n texts, one after the other
abbrev pub times : ℕ → Drawing → Drawing
times zero f = fixed []
times (suc n) f = times n f >> f

-- the text is appended to the bytes, and the state is that after it
pub record Puts (f : Drawing) (before : List ℕ) (z : ℕ) (after : List ℕ) (y : ℕ) : Type 0 where
  pub text : after ≡ before ++ (f z).0
  pub state : y ≡ (f z).1
