-- The list that a word of positive root letters over a ring is collected to.
-- Source: Hall, The Theory of Groups, 11.1 (the collecting process); Carter, Simple Groups of Lie Type, 5.2 (the commutator formula).
-- Own: which pair of neighbours is replaced first, which fixes the list over every ring.
--
--   m                    how many positive roots there are
--   terms r s            the terms of the commutator of the roots r and s, for r < s
--   before r s           r comes before s in the order that the word is brought to
--   the order r_1, ..    nat_lt
use Rattle.std.specs.Prelude.{◌≡◌, ℕ, ◌<◌, ◌≤◌, Bool, true, false, cond, eqb, nat_lt, List, [], ◌∷◌, ◌++◌, map, length, Option, None, Some}
use Rattle.std.specs.Option.{option_map, unwrap_or}
use Rattle.std.specs.List.{range_with_len, All}
use Rattle.std.specs.Map.{lookup}
use Rattle.lie_ring.specs.Rings.{RingOn, Fits}
use Rattle.lie_letters.specs.RingLetters.{RingLetter, CommutatorTerm, term_word, inverse_word}

-- what takes the place of two neighbours: their sum at one root; else the two in the other order and the letters of their terms,
-- which are reversed where the first root has the lesser number
abbrev pub replacement : {A : Type 0} → RingOn A → (ℕ → ℕ → List CommutatorTerm) → RingLetter A → RingLetter A → List (RingLetter A)
replacement R terms x y =
    cond (eqb x.0 y.0) ((x.0, R.add x.1 y.1) ∷ [])
    (cond (nat_lt y.0 x.0) (y ∷ x ∷ term_word R (terms y.0 x.0) y.1 x.1)
    (y ∷ x ∷ inverse_word R (term_word R (terms x.0 y.0) x.1 y.1)))

-- the word x w after the first pair of neighbours that has one root, or whose second root is before its first, is replaced
abbrev pub next_word : {A : Type 0} → RingOn A → (ℕ → ℕ → List CommutatorTerm) → (ℕ → ℕ → Bool) → RingLetter A → List (RingLetter A) → Option (List (RingLetter A))
next_word R terms before x [] = None
next_word R terms before x (y ∷ w) =
    cond (cond (eqb x.0 y.0) true (before y.0 x.0)) (Some (replacement R terms x y ++ w)) (option_map (λ v. x ∷ v) (next_word R terms before y w))

-- the word after the first such pair is replaced, and None where there is none
abbrev pub rewritten : {A : Type 0} → RingOn A → (ℕ → ℕ → List CommutatorTerm) → (ℕ → ℕ → Bool) → List (RingLetter A) → Option (List (RingLetter A))
rewritten R terms before [] = None
rewritten R terms before (x ∷ w) = next_word R terms before x w

-- as long as there is one, the first pair is replaced
pub data Ends {A : Type 0} (R : RingOn A) (terms : ℕ → ℕ → List CommutatorTerm) (before : ℕ → ℕ → Bool) : List (RingLetter A) → List (RingLetter A) → Type 0 where
  at_end : {w : List (RingLetter A)} → rewritten R terms before w ≡ None → Ends R terms before w w
  by_step : {w v z : List (RingLetter A)} → rewritten R terms before w ≡ Some v → Ends R terms before v z → Ends R terms before w z

-- the elements of a word at the roots from 1 to m, and 0 for each missing root
abbrev pub elements : {A : Type 0} → RingOn A → ℕ → List (RingLetter A) → List A
elements R m w = map (λ r. unwrap_or (lookup (eqb r) w) R.zero) (range_with_len 1 m)

-- u is the list that the word w is collected to
pub record IsCollected {A : Type 0} (R : RingOn A) (terms : ℕ → ℕ → List CommutatorTerm) (before : ℕ → ℕ → Bool) (m : ℕ) (w : List (RingLetter A)) (u : List A) : Type 0 where
  pub last : List (RingLetter A)
  pub ends : Ends R terms before w last
  pub list : u ≡ elements R m last

-- an element that fits for each of the m positive roots
pub record AreEntries {A : Type 0} (R : RingOn A) (m : ℕ) (u : List A) : Type 0 where
  pub count : length u ≡ m
  pub fit : All (Fits R) u

-- the terms are at roots after s, up to m, and their exponents are positive
abbrev pub ComeAfter : ℕ → ℕ → List CommutatorTerm → Type 0
ComeAfter m s [] = Unit {0}
ComeAfter m s (c ∷ cs) = (s < c.root) × (c.root ≤ m) × (1 ≤ c.i) × (1 ≤ c.j) × ComeAfter m s cs

-- what collecting needs of the terms: those of r and s are at later roots, with positive exponents, and there are at most 7
pub record AreCollectable (m : ℕ) (terms : ℕ → ℕ → List CommutatorTerm) : Type 0 where
  pub later : (r s : ℕ) → 1 ≤ r → r < s → s ≤ m → ComeAfter m s (terms r s)
  pub few : (r s : ℕ) → 1 ≤ r → r < s → s ≤ m → length (terms r s) ≤ 7

-- what collecting needs of an order: it is a strict total one
pub record IsStrictOrder (before : ℕ → ℕ → Bool) : Type 0 where
  pub one_way : (r s : ℕ) → before r s ≡ true → before s r ≡ false
  pub total : (r s : ℕ) → eqb r s ≡ false → before s r ≡ false → before r s ≡ true
  pub trans : (r s t : ℕ) → before r s ≡ true → before s t ≡ true → before r t ≡ true
