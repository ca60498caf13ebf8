-- Words of positive root letters over a ring.
-- Source: Carter, Simple Groups of Lie Type, 5.2 (the letters of a commutator).
-- Own: a letter has the number of its root, so that a word over one ring becomes one over another by its elements alone.
--
--   r, s                                 numbers of positive roots, from 1 to m, in the order of the roots
--   x_r(a)                               (r, a)
--   a^n                                  power R a n
--   x_(ir+js)(C_ijrs (-t)^i u^j), ..     term_word R cs t u, where cs has the terms of r and s
--   the inverse word of w                inverse_word R w
--   x_1(a_1) x_2(a_2) .. x_m(a_m)        full_word [a_1, a_2, .., a_m]
use Rattle.std.specs.Prelude.{ℕ, zero, suc, ◌+◌, ◌≤◌, ℤ, List, [], ◌∷◌, ◌++◌, map}
use Rattle.lie_ring.specs.Rings.{RingOn, IsElem}
-- a^n
pub use Rattle.lie_ring.specs.Powers.{power}

-- the letter x_r(a): the number of the root r, and the element a
abbrev pub RingLetter : Type 0 → Type 0
RingLetter A = ℕ × A

-- a term of the commutator of r and s: the number of the root i r + j s, and the integer C_ijrs
pub record CommutatorTerm : Type 0 where
  pub i : ℕ
  pub j : ℕ
  pub root : ℕ
  pub value : ℤ

-- the letters that the terms of r and s give at t and u, in their order
abbrev pub term_word : {A : Type 0} → RingOn A → List CommutatorTerm → A → A → List (RingLetter A)
term_word R cs t u = map (λ c. (c.root, R.mul (R.of_int c.value) (R.mul (power R (R.neg t) c.i) (power R u c.j)))) cs

-- the inverse letters in reverse order
abbrev pub inverse_word : {A : Type 0} → RingOn A → List (RingLetter A) → List (RingLetter A)
inverse_word R [] = []
inverse_word R (x ∷ w) = inverse_word R w ++ (x.0, R.neg x.1) ∷ []

-- a letter for each element, zeros included, at the roots from r on
abbrev pub full_from : {A : Type 0} → ℕ → List A → List (RingLetter A)
full_from r [] = []
full_from r (a ∷ rest) = (r, a) ∷ full_from (r + 1) rest

-- a letter for each element, zeros included, at the roots from the first on
abbrev pub full_word : {A : Type 0} → List A → List (RingLetter A)
full_word u = full_from 1 u

-- each letter is at one of the first m roots
abbrev pub Within : {A : Type 0} → ℕ → List (RingLetter A) → Type 0
Within m [] = Unit {0}
Within m (x ∷ w) = (1 ≤ x.0) × (x.0 ≤ m) × Within m w

-- each letter has an element of the ring
abbrev pub OfElements : {A : Type 0} → RingOn A → List (RingLetter A) → Type 0
OfElements R [] = Unit {0}
OfElements R (x ∷ w) = IsElem R x.1 × OfElements R w

-- a word of letters over the ring, at the first m roots
abbrev pub IsRingWord : {A : Type 0} → RingOn A → ℕ → List (RingLetter A) → Type 0
IsRingWord R m w = OfElements R w × Within m w
