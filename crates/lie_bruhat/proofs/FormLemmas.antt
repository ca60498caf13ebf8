-- Lists of elements of positive root letters: what a word of positive root letters is collected to, without the letters that are 0.
use Rattle.std.proofs.Common.{◌≡◌, ℕ, ◌+◌, ◌^◌, ◌<◌, eqb, Bool, true, false, cond, not, Some, List, [], ◌∷◌, length, filter, refl, sym, subst, arith}
use Rattle.std.specs.Prelude.{nat_eq, nat_lt}
use Rattle.std.specs.Option.{unwrap_or}
use Rattle.std.specs.Map.{lookup}
use Rattle.std.proofs.lemmas.Bool.Decides.{nat_tests}
use Rattle.std.proofs.lemmas.Bool.{lt-ltb}
use Rattle.std.proofs.lemmas.List.FromFn.{get_or-map-range_with_len, length-map-range_with_len}
use Rattle.lie_base.specs.Below.{is_below}
use Rattle.lie_ring.specs.Rings.{IsElem, Fits}
use Rattle.lie_field.specs.FiniteField.{FiniteField}
use Rattle.lie_field.specs.Quotient.{order}
use Rattle.lie_field.specs.FieldRing.{field_ring, field_is_ring}
use Rattle.lie_letters.specs.Frames.{FrameData, setting, IsLawfulFrame}
use Rattle.lie_letters.specs.RingLetters.{RingLetter, IsRingWord, OfElements, full_word}
use Rattle.lie_letters.specs.PositiveTerms.{positive_terms}
use Rattle.lie_letters.specs.Spelled.{JoinedSpelled, root_letters}
use Rattle.lie_letters.proofs.ChainLemmas.{trans}
use Rattle.lie_letters.proofs.BridgeLemmas.{IsWordOver-ring, joined_over_ring}
use Rattle.lie_unip.specs.Collection.{at_end, IsCollected, AreEntries, AreCollectable, elements}
use Rattle.lie_unip.specs.Dropping.{Dropped, nothing, kept, dropped}
use Rattle.lie_unip.specs.Forms.{is_nonzero, nonzero_letters}
use Rattle.lie_unip.proofs.DatumLemmas.{table_collectable}
use Rattle.lie_unip.proofs.FullWordLemmas.{IsCollected-exists, nat_lt_order}
use Rattle.lie_unip.proofs.SortedLemmas.{Sorted, sorted_none}
use Rattle.lie_unip.proofs.JoinedLemmas.{ends_joined, collected_joined, dropped_joined, full_within}
use Rattle.lie_bruhat.proofs.ShapeLemmas.{RootLetters}
use Rattle.lie_bruhat.proofs.FrameSplits.{HaveNumbers, letters_of}

-- letters that are 0 are left out
pub dropped_zeros : (F : FiniteField) (w : List (RingLetter ℕ)) → Dropped (field_ring F) w (filter is_nonzero w)
dropped_zeros F [] = nothing
dropped_zeros F (x ∷ w) = by (nat_eq x.1 0) refl (dropped_zeros F w)
  where
    by : (t : Bool) → nat_eq x.1 0 ≡ t → Dropped (field_ring F) w (filter is_nonzero w) → Dropped (field_ring F) (x ∷ w) (cond (not t) (x ∷ filter is_nonzero w) (filter is_nonzero w))
    by true e rest = let none : x.1 ≡ 0 = grind (arith, nat_tests) in subst (λ n. Dropped (field_ring F) ((x.0, n) ∷ w) (filter is_nonzero w)) (sym none) (dropped x.0 rest)
    by false e rest = kept x rest

-- the element of a letter at r, or 0, is an element
element_at : (F : FiniteField) (r : ℕ) (w : List (RingLetter ℕ)) → OfElements (field_ring F) w → IsElem (field_ring F) (unwrap_or (lookup (eqb r) w) 0)
element_at F r [] h = (field_is_ring F).laws.zero_elem
element_at F r (x ∷ w) h = by (eqb r x.0) (element_at F r w h.1)
  where
    by : (b : Bool) → IsElem (field_ring F) (unwrap_or (lookup (eqb r) w) 0) → IsElem (field_ring F) (unwrap_or (cond b (Some x.1) (lookup (eqb r) w)) 0)
    by true e = h.0
    by false e = e

-- the elements of a word of letters over the field are entries
entries_of : (F : FiniteField) (m : ℕ) (w : List (RingLetter ℕ)) → OfElements (field_ring F) w → AreEntries (field_ring F) m (elements (field_ring F) m w)
entries_of F m w h =
    let value : ℕ → ℕ = λ r. unwrap_or (lookup (eqb r) w) 0 in
    let long = length-map-range_with_len value 1 m in
    let small : 0 < 2 ^ 126 = omega arith in
    record {
      count = long;
      fit = λ k e l.
          (let s : k < m = omega (arith, l, long) in
          let at = get_or-map-range_with_len value 1 m k (1 + k) e s refl in
          subst (Fits (field_ring F)) (sym at) (element_at F (1 + k) w h, small));
    }

module _ (f : FrameData) (lawful : IsLawfulFrame f) where
  abbrev m : ℕ
  m = length f.datum.positive

  collectable : AreCollectable m (positive_terms f.constants)
  collectable = subst (λ n. AreCollectable n (positive_terms f.constants)) lawful.constants.0 (table_collectable f.datum lawful.loaded f.constants lawful.constants)

  pub elements_have : (v : RootLetters (setting f)) (w : List (RingLetter ℕ)) → HaveNumbers f lawful v w → OfElements (field_ring f.field) w
  elements_have v [] h = tt
  elements_have [] (x ∷ w) h = absurd h
  elements_have (a ∷ v) (x ∷ w) h =
      (subst (IsElem (field_ring f.field)) h.0.1 (lt-ltb a.1.number (order f.field.given) (is_below (order f.field.given) a.1)), elements_have v w h.1)

  -- a word and what it is collected to
  pub record IsListed (w : List (RingLetter ℕ)) (u : List ℕ) : Type 0 where
    pub entries : AreEntries (field_ring f.field) m u
    pub joined : JoinedSpelled f (root_letters w) (root_letters (nonzero_letters u))

  -- a collected list has elements of the field, and its word without zeros is joined to the word
  pub listed : (w : List (RingLetter ℕ)) (u : List ℕ) → IsRingWord (field_ring f.field) m w → IsCollected (field_ring f.field) (positive_terms f.constants) nat_lt m w u → IsListed w u
  listed w u l c =
      let R = field_ring f.field in
      let terms = positive_terms f.constants in
      let ring = field_is_ring f.field in
      let over = ends_joined R ring m terms collectable nat_lt c.ends l.0 l.1 in
      let chain = joined_over_ring f lawful w c.last over.0 (IsWordOver-ring f w l) in
      let have = letters_of f lawful chain.right c.last chain.right_spelled in
      let entries = subst (AreEntries R m) (sym c.list) (entries_of f.field m c.last (elements_have have.0 c.last have.2)) in
      let full = collected_joined R ring m terms collectable w u l.0 l.1 c in
      let long = entries.count in
      let drop = dropped_joined R ring m terms (dropped_zeros f.field (full_word u)) (full_within R ring m terms 1 u (omega arith) (omega (arith, long))) in
      record { entries = entries; joined = joined_over_ring f lawful w (nonzero_letters u) (trans full drop) (IsWordOver-ring f w l) }

  -- each word has one
  pub listed_some : (w : List (RingLetter ℕ)) → IsRingWord (field_ring f.field) m w → (u : List ℕ) × IsListed w u
  listed_some w l =
      let c = IsCollected-exists (field_ring f.field) (field_is_ring f.field) m (positive_terms f.constants) collectable nat_lt nat_lt_order w l.1 in
      (c.0, listed w c.0 l c.1)

  -- a word in the order of the numbers has its elements
  pub listed_sorted : (w : List (RingLetter ℕ)) → IsRingWord (field_ring f.field) m w → Sorted nat_lt w → IsListed w (elements (field_ring f.field) m w)
  listed_sorted w l s =
      listed w (elements (field_ring f.field) m w) l
      (record { last = w; ends = at_end (sorted_none nat_lt nat_lt_order (field_ring f.field) (positive_terms f.constants) w s); list = refl })
