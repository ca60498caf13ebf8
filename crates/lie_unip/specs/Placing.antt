-- Placing a letter in a sorted word: what is moved to the letters that are still to be placed, and why it ends.
-- For proofs: no public clause cites it.
-- Own: the sorted word is kept as the elements at the roots of a list, and the letters still to be placed as a list with the next one last.
--
--   ks          the roots in the order of the sorted word; those with kept r come first
--   c, d        the elements at these roots before and after
--   w, v        the letters still to be placed before and after
--   n           the number of roots in ks; a letter counts (8 n + 2) ^ rank
use Rattle.std.specs.Prelude.{◌≡◌, ℕ, Bool, true, false, cond, not, ◌+◌, ◌*◌, ◌-◌, ◌^◌, ◌<◌, ◌≤◌, ◌⊎◌, List, [], ◌∷◌, ◌++◌, length, set, slice_index_or, reverse, nat_lt, IsTrue}
use Rattle.lie_const.specs.ConstantTables.{ConstantTable}
use Rattle.lie_ring.specs.Rings.{RingOn, Fits}
use Rattle.lie_letters.specs.RingLetters.{RingLetter, CommutatorTerm, IsRingWord, term_word, inverse_word}
use Rattle.lie_unip.specs.Collection.{IsCollected, AreEntries, AreCollectable}
use Rattle.lie_letters.specs.PositiveTerms.{positive_terms}
use Rattle.lie_unip.specs.Splitting.{kept_first, kept_at}

-- the collected list of v is that of w
abbrev pub Leads : {A : Type 0} → RingOn A → (ℕ → ℕ → List CommutatorTerm) → (ℕ → ℕ → Bool) → ℕ → List (RingLetter A) → List (RingLetter A) → Type 0
Leads {A} R terms before m w v = (u : List A) → IsCollected R terms before m v u → IsCollected R terms before m w u

-- the letters that arise where the letter at r and a passes y
abbrev pub crossing : {A : Type 0} → RingOn A → (ℕ → ℕ → List CommutatorTerm) → ℕ → A → RingLetter A → List (RingLetter A)
crossing R terms r a y = cond (nat_lt r y.0) (term_word R (terms r y.0) a y.1) (inverse_word R (term_word R (terms y.0 r) y.1 a))

-- a letter for each root of the list, with its element
abbrev pub letters_at : {A : Type 0} → List ℕ → List A → List (RingLetter A)
letters_at [] c = []
letters_at (k ∷ ks) [] = []
letters_at (k ∷ ks) (a ∷ c) = (k, a) ∷ letters_at ks c

-- r comes before each root of the list
abbrev pub BeforeRoots : (ℕ → ℕ → Bool) → ℕ → List ℕ → Type 0
BeforeRoots before r [] = Unit {0}
BeforeRoots before r (k ∷ ks) = (before r k ≡ true) × BeforeRoots before r ks

-- the roots stand in the order
abbrev pub AreSorted : (ℕ → ℕ → Bool) → List ℕ → Type 0
AreSorted before [] = Unit {0}
AreSorted before (k ∷ ks) = BeforeRoots before k ks × AreSorted before ks

-- each is one of the first m roots
abbrev pub AreRoots : ℕ → List ℕ → Type 0
AreRoots m [] = Unit {0}
AreRoots m (k ∷ ks) = (1 ≤ k) × (k ≤ m) × AreRoots m ks

-- none of the terms is at a root that is kept
abbrev pub NoneKept : (ℕ → Bool) → List CommutatorTerm → Type 0
NoneKept kept [] = Unit {0}
NoneKept kept (c ∷ cs) = (kept c.root ≡ false) × NoneKept kept cs

-- the terms of two roots that aren't kept aren't kept
abbrev pub StayApart : ℕ → (ℕ → ℕ → List CommutatorTerm) → (ℕ → Bool) → Type 0
StayApart m terms kept = (r s : ℕ) → 1 ≤ r → r < s → s ≤ m → kept r ≡ false → kept s ≡ false → NoneKept kept (terms r s)

-- the terms of two roots, in whichever order they are given
abbrev pub terms_between : (ℕ → ℕ → List CommutatorTerm) → ℕ → ℕ → List CommutatorTerm
terms_between terms r s = cond (nat_lt r s) (terms r s) (terms s r)

-- how often a letter at r may give way to others: roots that are kept have the higher ranks, and of each kind the earlier ones
abbrev pub rank_of : ℕ → (ℕ → Bool) → ℕ → ℕ
rank_of m kept r = cond (kept r) (2 * m + 2 - r) (m + 1 - r)

-- each letter counts 8 n + 2 times a letter of the next rank, so that it counts more than all that is put in its place
abbrev pub weight : {A : Type 0} → ℕ → ℕ → (ℕ → Bool) → List (RingLetter A) → ℕ
weight n m kept [] = 0
weight n m kept (x ∷ w) = (8 * n + 2) ^ rank_of m kept x.0 + weight n m kept w

-- each place from i up to k has 0, or a root without terms with r
abbrev pub IdleBetween : {A : Type 0} → RingOn A → (ℕ → ℕ → List CommutatorTerm) → ℕ → List ℕ → ℕ → ℕ → List A → Type 0
IdleBetween R terms r ks i k c = (j : ℕ) → i ≤ j → j < k → (slice_index_or c j R.zero ≡ R.zero) ⊎ (terms_between terms r (slice_index_or ks j 0) ≡ [])

-- the places from i up to n whose root has terms with r, in order
abbrev pub IsRow : (ℕ → ℕ → List CommutatorTerm) → ℕ → List ℕ → ℕ → ℕ → List ℕ → Type 0
IsRow terms r ks i n [] = (j : ℕ) → i ≤ j → j < n → terms_between terms r (slice_index_or ks j 0) ≡ []
IsRow terms r ks i n (q ∷ row) = (i ≤ q) × (q < n) × ((j : ℕ) → i ≤ j → j < q → terms_between terms r (slice_index_or ks j 0) ≡ []) × IsRow terms r ks (q + 1) n row

-- for each place of the first ones, the later places whose roots have terms with the root there
abbrev pub AreRows : (ℕ → ℕ → List CommutatorTerm) → List ℕ → List (List ℕ) → Type 0
AreRows terms ks rows = (p : ℕ) → p < length rows → IsRow terms (slice_index_or ks p 0) ks (p + 1) (length ks) (slice_index_or rows p [])

-- each place from i on has 0
abbrev pub ZeroFrom : {A : Type 0} → RingOn A → ℕ → List A → Type 0
ZeroFrom R i c = (j : ℕ) → i ≤ j → slice_index_or c j R.zero ≡ R.zero

-- the elements of a sorted word at n roots, of which those from the end on are 0
pub record IsSortedWord {A : Type 0} (R : RingOn A) (n end : ℕ) (c : List A) : Type 0 where
  pub entries : AreEntries R n c
  pub within : end ≤ n
  pub zeros : ZeroFrom R end c

-- the letter at r and a has passed place i, whose letter and terms join those still to be placed
pub record IsLifted {A : Type 0} (R : RingOn A) (terms : ℕ → ℕ → List CommutatorTerm) (m : ℕ) (kept : ℕ → Bool) (ks : List ℕ) (r : ℕ) (a : A) (i : ℕ) (c d : List A) (w v : List (RingLetter A)) : Type 0 where
  pub entries : d ≡ set c i R.zero
  pub lawful : IsRingWord R m (reverse v)
  pub leads : Leads R terms (kept_first kept) m (letters_at ks c ++ (r, a) ∷ reverse w) (letters_at ks d ++ (r, a) ∷ reverse v)
  pub lighter : weight (length ks) m kept (reverse v) ≤ weight (length ks) m kept (reverse w) + 8 * (8 * length ks + 2) ^ (rank_of m kept r - 1)

-- the letter at r and a has passed all places from i on
pub record AreLifted {A : Type 0} (R : RingOn A) (terms : ℕ → ℕ → List CommutatorTerm) (m : ℕ) (kept : ℕ → Bool) (ks : List ℕ) (r : ℕ) (a : A) (i : ℕ) (c d : List A) (w v : List (RingLetter A)) : Type 0 where
  pub entries : AreEntries R (length ks) d
  pub before : (j : ℕ) → j < i → slice_index_or d j R.zero ≡ slice_index_or c j R.zero
  pub after : ZeroFrom R i d
  pub lawful : IsRingWord R m (reverse v)
  pub leads : Leads R terms (kept_first kept) m (letters_at ks c ++ (r, a) ∷ reverse w) (letters_at ks d ++ (r, a) ∷ reverse v)
  pub lighter : weight (length ks) m kept (reverse v) ≤ weight (length ks) m kept (reverse w) + (8 * (length ks - i)) * (8 * length ks + 2) ^ (rank_of m kept r - 1)

-- the letter at r and a has its place
pub record IsPlaced {A : Type 0} (R : RingOn A) (terms : ℕ → ℕ → List CommutatorTerm) (m : ℕ) (kept : ℕ → Bool) (ks : List ℕ) (r : ℕ) (a : A) (c d : List A) (w v : List (RingLetter A)) : Type 0 where
  pub entries : AreEntries R (length ks) d
  pub lawful : IsRingWord R m (reverse v)
  pub leads : Leads R terms (kept_first kept) m (letters_at ks c ++ (r, a) ∷ reverse w) (letters_at ks d ++ reverse v)
  pub lighter : weight (length ks) m kept (reverse v) + 1 ≤ weight (length ks) m kept (reverse w) + (8 * length ks + 2) ^ rank_of m kept r

-- what a collector keeps: the terms can be collected, the roots stand in the order, and each root's place is known
pub record IsCollector {A : Type 0} (R : RingOn A) (zero : A) (t : ConstantTable) (kept : List Bool) (roots places : List ℕ) : Type 0 where
  pub roomy : IsTrue R.roomy
  pub zero_is : zero ≡ R.zero
  pub zero_fits : Fits R zero
  pub bound : t.positive ≤ 120
  pub count : length places ≡ t.positive
  pub collectable : AreCollectable t.positive (positive_terms t)
  pub apart : StayApart t.positive (positive_terms t) (kept_at kept)
  pub sorted : AreSorted (kept_first (kept_at kept)) roots
  pub within : AreRoots t.positive roots
  pub placed : (k : ℕ) → 1 ≤ k → k ≤ t.positive → (slice_index_or places (k - 1) 0 < length roots) × (slice_index_or roots (slice_index_or places (k - 1) 0) 0 ≡ k)

-- the roots of a group, by a list that says for each root, counted from s, whether it is of the first one
abbrev pub group_from : Bool → ℕ → List Bool → List ℕ
group_from first s [] = []
group_from first s (b ∷ bs) = cond (cond first b (not b)) (s ∷ group_from first (s + 1) bs) (group_from first (s + 1) bs)
