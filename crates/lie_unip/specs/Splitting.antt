-- The order in which the roots that an element of the Weyl group keeps positive come first, and lists cut between the two groups.
-- Own: the cut, as it serves the products of Bruhat forms.
--
--   kept r                  the root r is of the first group
--   w r_1, w r_2, ..        kept_by d w has true where the image of the positive root is positive
use Rattle.std.specs.Prelude.{◌≡◌, ℕ, ◌+◌, ◌-◌, Bool, true, false, cond, not, nat_lt, List, [], ◌∷◌, map, slice_index_or}
use Rattle.lie_datum.specs.RootList.{RootDatum}
use Rattle.lie_weyl.specs.WeylElement.{moved, is_negative}
use Rattle.lie_ring.specs.Rings.{RingOn}
use Rattle.lie_letters.specs.RingLetters.{CommutatorTerm, full_word}
use Rattle.lie_unip.specs.Collection.{IsCollected}

-- the roots that are kept come first, each of the two groups in the order of the numbers
abbrev pub kept_first : (ℕ → Bool) → ℕ → ℕ → Bool
kept_first kept r s = cond (kept r) (cond (kept s) (nat_lt r s) true) (cond (kept s) false (nat_lt r s))

-- the answer of a list for the root r, which counts from 1; past its end no root is kept
abbrev pub kept_at : List Bool → ℕ → Bool
kept_at kept r = slice_index_or kept (r - 1) false

-- whether the word of an element of the Weyl group keeps each positive root positive, in order
abbrev pub kept_by : RootDatum → List ℕ → List Bool
kept_by d word = map (λ r. not (is_negative (moved d.base word r))) d.positive

-- the elements at the chosen roots, counted from r, and z elsewhere
abbrev pub chosen : {A : Type 0} → (ℕ → Bool) → A → ℕ → List A → List A
chosen choice z r [] = []
chosen choice z r (a ∷ u) = cond (choice r) a z ∷ chosen choice z (r + 1) u

-- v and w are the two parts of u
pub record IsSplit {A : Type 0} (R : RingOn A) (terms : ℕ → ℕ → List CommutatorTerm) (m : ℕ) (kept : ℕ → Bool) (u v w : List A) : Type 0 where
  pub whole : List A
  pub collected : IsCollected R terms (kept_first kept) m (full_word u) whole
  pub first : v ≡ chosen kept R.zero 1 whole
  pub second : w ≡ chosen (λ r. not (kept r)) R.zero 1 whole
