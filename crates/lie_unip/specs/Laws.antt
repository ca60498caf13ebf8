-- Laws on collected lists, over any ring and for any collectable terms.
-- Own: all of them, as the collected list is.
--
--   a word        a word of positive root letters over the ring, at the first m roots: IsRingWord R m w
--   h of a word   carried h w
use Rattle.std.specs.Prelude.{◌≡◌, ℕ, Bool, List, [], ◌∷◌, ◌++◌, map, nat_lt}
use Rattle.lie_ring.specs.Rings.{RingOn, IsElem}
use Rattle.lie_letters.specs.RingLetters.{RingLetter, CommutatorTerm, full_word, inverse_word, IsRingWord, OfElements}
use Rattle.lie_letters.specs.RingRelations.{RingJoined}
use Rattle.lie_unip.specs.Collection.{IsCollected, IsStrictOrder, AreEntries}
use Rattle.lie_unip.specs.Dropping.{Dropped}
use Rattle.lie_unip.specs.Splitting.{IsSplit}

-- each word has a collected list, and one alone, in each order
pub record CollectsOnce {A : Type 0} (R : RingOn A) (m : ℕ) (terms : ℕ → ℕ → List CommutatorTerm) : Type 0 where
  pub exists : (before : ℕ → ℕ → Bool) → IsStrictOrder before → (w : List (RingLetter A)) → IsRingWord R m w → (u : List A) × IsCollected R terms before m w u
  pub once : (before : ℕ → ℕ → Bool) (w : List (RingLetter A)) (u v : List A) → IsCollected R terms before m w u → IsCollected R terms before m w v → u ≡ v

-- a word with letters that are 0 has the collected list of the word without them, in each order
pub record DropsZeros {A : Type 0} (R : RingOn A) (m : ℕ) (terms : ℕ → ℕ → List CommutatorTerm) : Type 0 where
  pub without : (before : ℕ → ℕ → Bool) → IsStrictOrder before → (w v : List (RingLetter A)) (u : List A) → Dropped R w v → IsRingWord R m w
      → IsCollected R terms before m w u → IsCollected R terms before m v u
  pub with : (before : ℕ → ℕ → Bool) → IsStrictOrder before → (w v : List (RingLetter A)) (u : List A) → Dropped R w v → IsRingWord R m w
      → IsCollected R terms before m v u → IsCollected R terms before m w u

-- a word is joined, over the ring, to the full word of its collected list, and a full word to the full words of its two parts
pub record JoinsAnswers {A : Type 0} (R : RingOn A) (m : ℕ) (terms : ℕ → ℕ → List CommutatorTerm) : Type 0 where
  pub collected : (w : List (RingLetter A)) (u : List A) → IsRingWord R m w → IsCollected R terms nat_lt m w u → RingJoined R m terms w (full_word u)
  pub split : (kept : ℕ → Bool) (u v w : List A) → AreEntries R m u → IsSplit R terms m kept u v w → RingJoined R m terms (full_word u) (full_word v ++ full_word w)

-- the image of a word
abbrev pub carried : {A B : Type 0} → (A → B) → List (RingLetter A) → List (RingLetter B)
carried h [] = []
carried h (x ∷ w) = (x.0, h x.1) ∷ carried h w

-- the answer over the ring S to the images of the arguments is the image of the answer over the ring R
pub record CarriesAnswers {A B : Type 0} (R : RingOn A) (S : RingOn B) (h : A → B) (terms : ℕ → ℕ → List CommutatorTerm) : Type 0 where
  pub collected : (before : ℕ → ℕ → Bool) (m : ℕ) (w : List (RingLetter A)) (u : List A) (v : List B) → OfElements R w
      → IsCollected R terms before m w u → IsCollected S terms before m (carried h w) v → v ≡ map h u
  pub pushed : (m : ℕ) (u : List A) (r : ℕ) (a : A) (v : List A) (z : List B) → AreEntries R m u → IsElem R a
      → IsCollected R terms nat_lt m (full_word u ++ (r, a) ∷ []) v → IsCollected S terms nat_lt m (full_word (map h u) ++ (r, h a) ∷ []) z → z ≡ map h v
  pub multiplied : (m : ℕ) (u v w : List A) (z : List B) → AreEntries R m u → AreEntries R m v
      → IsCollected R terms nat_lt m (full_word u ++ full_word v) w → IsCollected S terms nat_lt m (full_word (map h u) ++ full_word (map h v)) z → z ≡ map h w
  pub inverted : (m : ℕ) (u v : List A) (z : List B) → AreEntries R m u
      → IsCollected R terms nat_lt m (inverse_word R (full_word u)) v → IsCollected S terms nat_lt m (inverse_word S (full_word (map h u))) z → z ≡ map h v
  pub split : (m : ℕ) (kept : ℕ → Bool) (u v w : List A) (x y : List B) → AreEntries R m u
      → IsSplit R terms m kept u v w → IsSplit S terms m kept (map h u) x y → (x ≡ map h v) × (y ≡ map h w)
