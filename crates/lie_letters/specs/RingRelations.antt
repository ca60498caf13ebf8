-- The relations between positive root letters over a ring, and words that are joined over the ring.
-- Source: Steinberg, Lectures on Chevalley Groups, 6 (generators and relations), on positive roots alone, with elements of any commutative ring.
-- Own: each element in a relation is one of the ring, so that a chain never leaves the ring.
use Rattle.std.specs.Prelude.{ℕ, ◌≤◌, ◌<◌, List, [], ◌∷◌}
use Rattle.lie_ring.specs.Rings.{RingOn, IsElem}
use Rattle.lie_letters.specs.Chains.{JoinedBy}
use Rattle.lie_letters.specs.RingLetters.{RingLetter, CommutatorTerm, term_word}

-- the two sides of a relation, where there are m positive roots and terms r s are the terms of the roots r and s
pub data RingRelation {A : Type 0} (R : RingOn A) (m : ℕ) (terms : ℕ → ℕ → List CommutatorTerm) : List (RingLetter A) → List (RingLetter A) → Type 0 where
  -- `x_r(0)` = empty
  S0-root : (r : ℕ) → 1 ≤ r → r ≤ m → RingRelation R m terms ((r, R.zero) ∷ []) []
  -- `x_r(a) x_r(b) = x_r(a+b)`
  S1 : (r : ℕ) (a b : A) → 1 ≤ r → r ≤ m → IsElem R a → IsElem R b
      → RingRelation R m terms ((r, a) ∷ (r, b) ∷ []) ((r, R.add a b) ∷ [])
  -- `x_s(u) x_r(t) = x_r(t) x_s(u)` times the letters of the terms, for r before s
  S2 : (r s : ℕ) (t u : A) → 1 ≤ r → r < s → s ≤ m → IsElem R t → IsElem R u
      → RingRelation R m terms ((s, u) ∷ (r, t) ∷ []) ((r, t) ∷ (s, u) ∷ term_word R (terms r s) t u)

-- a chain over the ring leads from one word to the other
abbrev pub RingJoined : {A : Type 0} → RingOn A → ℕ → (ℕ → ℕ → List CommutatorTerm) → List (RingLetter A) → List (RingLetter A) → Type 0
RingJoined R m terms v w = JoinedBy (RingRelation R m terms) v w
