-- A product of simple reflections has one text alone.
use Rattle.std.proofs.Common.{◌≡◌, ◌≢◌, ℕ, ◌≤◌, List, length, map, refl, sym, ap, ap₂, ◌∙◌, subst, true, arith, ℤ, pos, negsuc, nat_abs, get_or}
use Rattle.std.specs.List.{All}
use Rattle.std.specs.Ordering.{nat_cmp, ordering_reverse}
use Rattle.std.specs.Cmp.Lexicographic.{slice_cmp}
use Rattle.std.specs.declared.cmp.Ordering.{Ordering}
use Rattle.std.specs.declared.cmp.Ordering.TheVariants.{Less, Equal, Greater}
use Rattle.std.proofs.lemmas.List.Elements.{All-map}
use Rattle.std.proofs.lemmas.Cmp.{nat_list_cmp_total}
use Rattle.std.proofs.lemmas.Map.Lookups.{exact_bytes}
use Rattle.lie_datum.specs.RootDatum.{IsSimpleIndex, rank}
use Rattle.lie_datum.specs.RootList.{RootDatum, IsLoaded}
use Rattle.lie_script.specs.Numbers.{is_within}
use Rattle.lie_weyl.specs.WeylElement.{AreLetters}
use Rattle.lie_weyl.proofs.ElementLemmas.{one_list}
use Rattle.lie_reply.specs.Commands.{AreIndices, TellsElement, WeylTextOf}
use Rattle.lie_reply.specs.Texts.{weyl_text}

-- an index of a simple root, as a letter
index_letter : (i : ℤ) (l : ℕ) → is_within (pos 1) (pos l) i ≡ true → (1 ≤ nat_abs i) × (nat_abs i ≤ l)
index_letter (pos i) l h = grind (arith, h)
index_letter (negsuc i) l h = absurd cc

wider : (i : ℤ) (l : ℕ) → l ≤ 8 → is_within (pos 1) (pos l) i ≡ true → is_within (pos 1) (pos 8) i ≡ true
wider (pos i) l low h = grind (arith, low, h)
wider (negsuc i) l low h = absurd cc

-- indices are at most 8
pub small_indices : (D : RootDatum) (indices : List ℤ) → rank D.base ≤ 8 → AreIndices D indices → All (λ i. is_within (pos 1) (pos 8) i ≡ true) indices
small_indices D indices low within k d lt = wider (get_or indices k d) (rank D.base) low (within k d lt)

-- the letters of indices are letters of words
pub letters_from : (D : RootDatum) (indices : List ℤ) (letters : List ℕ) → AreIndices D indices → letters ≡ map nat_abs indices → AreLetters D.base letters
letters_from D indices letters within is =
    subst (AreLetters D.base) (sym is) (All-map (IsSimpleIndex D.base) nat_abs indices (λ k d lt. index_letter (get_or indices k d) (rank D.base) (within k d lt)))

-- neither word is above the other
pub two_least : (w v : List ℕ) → slice_cmp nat_cmp w v ≢ Greater → slice_cmp nat_cmp v w ≢ Greater → w ≡ v
two_least w v p q = by (slice_cmp nat_cmp w v) refl
  where
    by : (o : Ordering) → slice_cmp nat_cmp w v ≡ o → w ≡ v
    by Less e = absurd (q (nat_list_cmp_total.antisymm v w ∙ ap ordering_reverse e))
    by Equal e = exact_bytes w v e
    by Greater e = absurd (p e)

-- an element has one text
one_element : (D : RootDatum) (images : List ℤ) (a b : List ℕ) → TellsElement D images a → TellsElement D images b → a ≡ b
one_element D images a b x y =
    let n : x.0 ≡ y.0 = x.2.counted x.1 x.3.spells ∙ sym (y.2.counted x.1 x.3.spells) in
    let long : length y.1 ≡ length x.1 = y.3.shortest ∙ sym (x.2.counted y.1 y.3.spells) ∙ x.2.counted x.1 x.3.spells ∙ sym x.3.shortest in
    let word : x.1 ≡ y.1 = two_least x.1 y.1 (x.3.least y.1 y.3.spells long) (y.3.least x.1 x.3.spells (sym long)) in
    x.4 ∙ ap₂ (λ (k : ℕ) (w : List ℕ). weyl_text k w images) n word ∙ sym y.4

-- a product has one text
pub one_weyl_text : (D : RootDatum) (indices : List ℤ) (a b : List ℕ) → IsLoaded D → WeylTextOf D indices a → WeylTextOf D indices b → a ≡ b
one_weyl_text D indices a b loaded x y =
    let same = one_list D loaded (map nat_abs indices) x.0 y.0 x.1 y.1 in
    one_element D x.0 a b x.2 (subst (λ (z : List ℤ). TellsElement D z b) (sym same) y.2)
