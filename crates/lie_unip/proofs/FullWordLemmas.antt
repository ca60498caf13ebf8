-- What becomes of the full word of a list of elements, when a letter is appended to it.
use Rattle.std.proofs.Common.{◌≡◌, ℕ, suc, ◌≤◌, ◌+◌, Bool, true, false, List, [], ◌∷◌, ◌++◌, map, length, Some, eqb, refl, sym, ap, ap₂, ◌∙◌, subst, arith}
use Rattle.std.specs.Map.{lookup}
use Rattle.std.specs.Option.{unwrap_or}
use Rattle.std.specs.List.{range_with_len}
use Rattle.std.proofs.lemmas.Bool.Decides.{nat_tests}
use Rattle.std.specs.Prelude.{nat_lt}
use Rattle.lie_unip.specs.Placing.{Leads}
use Rattle.lie_letters.specs.RingLetters.{IsRingWord}
use Rattle.lie_ring.specs.Rings.{RingOn, IsElem, IsRing}
use Rattle.lie_letters.specs.RingLetters.{RingLetter, CommutatorTerm, Within, full_from}
use Rattle.lie_unip.specs.Collection.{rewritten, by_step, elements, IsCollected, IsStrictOrder, AreCollectable}
use Rattle.lie_unip.proofs.CarriedLemmas.{IsCollected-once}
use Rattle.lie_unip.proofs.ElementLemmas.{OfElements-append}
use Rattle.lie_unip.proofs.BoundLemmas.{Within-append}
use Rattle.lie_unip.proofs.SortedLemmas.{BeforeAll, Sorted}
use Rattle.lie_unip.proofs.EndingLemmas.{ends}
use Rattle.lie_unip.specs.Dropping.{Dropped, nothing, dropped}
use Rattle.lie_unip.proofs.ZeroLemmas.{IsCollected-dropped}

-- each member is an element
abbrev pub AreElements : {A : Type 0} → RingOn A → List A → Type 0
AreElements R [] = Unit {0}
AreElements R (a ∷ c) = IsElem R a × AreElements R c

-- each member is 0
abbrev pub AreZero : {A : Type 0} → RingOn A → List A → Type 0
AreZero R [] = Unit {0}
AreZero R (a ∷ c) = (a ≡ R.zero) × AreZero R c

-- the full word of a list in two parts
pub full_append : {A : Type 0} (s : ℕ) (p q : List A) → full_from s (p ++ q) ≡ full_from s p ++ full_from (s + length p) q
full_append s [] q = ap (λ n. full_from n q) (omega arith)
full_append s (a ∷ p) q = ap (λ w. (s, a) ∷ w) (full_append (s + 1) p q ∙ ap (λ n. full_from (s + 1) p ++ full_from n q) (omega arith))

-- a full word is a word of letters over the ring
pub full_lawful : {A : Type 0} (R : RingOn A) (m s : ℕ) (c : List A) → 1 ≤ s → s + length c ≤ suc m → AreElements R c → IsRingWord R m (full_from s c)
full_lawful R m s [] a b e = (tt, tt)
full_lawful R m s (x ∷ c) a b e = let rest = full_lawful R m (s + 1) c (omega (arith, a)) (omega (arith, b)) e.1 in ((e.0, rest.0), (a, omega (arith, b), rest.1))

-- the order of the numbers is a strict total one
pub nat_lt_order : IsStrictOrder nat_lt
nat_lt_order = record {
  one_way = λ r s e. grind (arith, nat_tests);
  total = λ r s e f. grind (arith, nat_tests);
  trans = λ r s t e f. grind (arith, nat_tests);
}

module _ {A : Type 0} (R : RingOn A) (ring : IsRing R) (m : ℕ) (terms : ℕ → ℕ → List CommutatorTerm) (collectable : AreCollectable m terms) where
  module _ (before : ℕ → ℕ → Bool) (order : IsStrictOrder before) where
    -- a word has the collected list of the word without some letters that are 0
    pub IsCollected-added : (w v : List (RingLetter A)) (u : List A) → Dropped R w v → IsRingWord R m w → IsCollected R terms before m v u → IsCollected R terms before m w u
    IsCollected-added w v u d l c =
        let e = ends R m terms collectable before order w l.1 in
        let own : IsCollected R terms before m w (elements R m e.0) = record { last = e.0; ends = e.1; list = refl } in
        let same = IsCollected-once R terms before m v (elements R m e.0) u (IsCollected-dropped R ring m terms collectable before order w v (elements R m e.0) d l.0 l.1 own) c in
        subst (λ z. IsCollected R terms before m w z) same own

    -- each word of the first m roots has a collected list
    pub IsCollected-exists : (w : List (RingLetter A)) → Within m w → (u : List A) × IsCollected R terms before m w u
    IsCollected-exists w within = let e = ends R m terms collectable before order w within in (elements R m e.0, record { last = e.0; ends = e.1; list = refl })

    -- a word leads to the word after its first replacement
    pub step_leads : (w v : List (RingLetter A)) → rewritten R terms before w ≡ Some v → Leads R terms before m w v
    step_leads w v e u c = record { last = c.last; ends = by_step e c.ends; list = c.list }

    -- two words of letters over the ring, joined
    pub lawful_append : (v w : List (RingLetter A)) → IsRingWord R m v → IsRingWord R m w → IsRingWord R m (v ++ w)
    lawful_append v w p q = (OfElements-append R v w p.0 q.0, Within-append R m v w p.1 q.1)

  -- a full word of zeros may be dropped
  pub full_zero : (s : ℕ) (c : List A) → AreZero R c → Dropped R (full_from s c) []
  full_zero s [] z = nothing
  full_zero s (x ∷ c) z = subst (λ (y : A). Dropped R ((s, y) ∷ full_from (s + 1) c) []) (sym z.0) (dropped s (full_zero (s + 1) c z.1))

  -- the front of a sorted word is sorted
  pub sorted_front : (before : ℕ → ℕ → Bool) (P Q : List (RingLetter A)) → Sorted before (P ++ Q) → Sorted before P
  sorted_front before [] Q s = tt
  sorted_front before (x ∷ P) Q s = (before_front P s.0, sorted_front before P Q s.1)
    where
      before_front : (P : List (RingLetter A)) → BeforeAll before x.0 (P ++ Q) → BeforeAll before x.0 P
      before_front [] h = tt
      before_front (y ∷ P) h = (h.0, before_front P h.1)

  -- what stands at the roots from s on
  pub elements_full : (s : ℕ) (c : List A) (w : List (RingLetter A)) → ((r : ℕ) → s ≤ r → lookup (eqb r) w ≡ lookup (eqb r) (full_from s c))
      → map (λ r. unwrap_or (lookup (eqb r) w) R.zero) (range_with_len s (length c)) ≡ c
  elements_full s [] w h = refl
  elements_full s (x ∷ c) w h =
      let same : eqb s s ≡ true = grind (arith, nat_tests) in
      let here : lookup (eqb s) w ≡ Some x = h s (omega arith) ∙ rw same refl in
      ap₂ ◌∷◌ (ap (λ o. unwrap_or o R.zero) here)
      (elements_full (s + 1) c w (λ r l. let other : eqb r s ≡ false = grind (arith, nat_tests) in h r (omega (arith, l)) ∙ rw other refl))
