-- The terms of a loaded datum can be collected, and those of two roots that an element of the Weyl group makes negative it makes negative too.
use Rattle.std.proofs.Common.{◌≡◌, ℕ, zero, suc, ◌<◌, ◌≤◌, ◌+◌, ◌-◌, ℤ, pos, negsuc, ◌+ℤ◌, ◌*ℤ◌, ◌<ℤ◌, Bool, true, false, cond, not, List, [], ◌∷◌, ◌++◌, length, take, map, get_or, Ok, refl, sym, ap, ap₂, ◌∙◌, subst, arith}
use Rattle.std.specs.Prelude.{nat_abs, unsigned_abs, IsTrue}
use Rattle.std.specs.List.{AllByRecursion, filter, range_with_len}
use Rattle.std.specs.Option.{is_some}
use Rattle.std.proofs.lemmas.Int.{ints}
use Rattle.std.proofs.lemmas.List.{get_or-map, length-map, take_more}
use Rattle.std.proofs.lemmas.List.FromFn.{get_or-map-range_with_len, length-map-range_with_len}
use Rattle.std.proofs.lemmas.Slice.Zip.{AllZip-long}
use Rattle.std.proofs.lemmas.Option.{unwrap_or-slice_get}
use Rattle.lie_datum.specs.declared.root_pair.Root.{Root}
use Rattle.lie_datum.specs.Vectors.{total, times, pairing}
use Rattle.lie_datum.specs.RootDatum.{rank, IsRoot, simple}
use Rattle.lie_datum.specs.RootList.{RootDatum, IsLoaded, IsNumber, root_of, height}
use Rattle.lie_datum.proofs.NumberLemmas.{place_within, some_within}
use Rattle.lie_datum.proofs.SignedRoots.{root_is}
use Rattle.lie_datum.proofs.HeightLemmas.{total-plus, number_is_positive, positive_number}
use Rattle.lie_datum.proofs.Linear.{pairing-plus, pairing-times}
use Rattle.lie_weyl.specs.WeylElement.{moved, AreLetters, is_negative}
use Rattle.lie_weyl.proofs.Words.{is_word, IsRoot-moved}
use Rattle.lie_weyl.proofs.Signs.{test_positive, negative_test, positive_test}
use Rattle.lie_weyl.proofs.HeightSigns.{negative_by_height, height_negative, total-times}
use Rattle.lie_weyl.proofs.Linearity.{linear_image}
use Rattle.lie_const.specs.declared.term.Term.{Term}
use Rattle.lie_const.specs.StructureConstants.{coeffs_of, find_root}
use Rattle.lie_const.specs.ConstantTables.{ConstantTable, terms_of, LoadsConstants, value_of}
use Rattle.lie_const.specs.CommutatorTerms.{IsPair, IsTerm, exponents, term_exponents, term_vector}
use Rattle.lie_letters.specs.PositiveTerms.{positive_term, positive_terms}
use Rattle.lie_letters.proofs.TermLemmas.{IsTermAt, IsLaterTerm, terms_at-roots, later_terms}
use Rattle.lie_letters.proofs.CollectingLemmas.{positive_abs}
use Rattle.lie_unip.specs.Collection.{ComeAfter, AreCollectable}
use Rattle.lie_unip.specs.Splitting.{kept_at, kept_by}
use Rattle.lie_unip.specs.Placing.{NoneKept, StayApart}

filtered_few : {X : Type 0} (p : X → Bool) (xs : List X) → length (filter p xs) ≤ length xs
filtered_few p [] = omega arith
filtered_few p (x ∷ xs) = by (p x) (filtered_few p xs)
  where
    by : (b : Bool) → length (filter p xs) ≤ length xs → length (cond b (x ∷ filter p xs) (filter p xs)) ≤ suc (length xs)
    by true h = omega (arith, h)
    by false h = omega (arith, h)

times_negative : (k : ℕ) (z : ℤ) → 1 ≤ k → z <ℤ pos 0 → (pos k *ℤ z) <ℤ pos 0
times_negative zero z l h = absurd (omega (arith, l))
times_negative (suc k) (pos z) l h = absurd (omega (arith, ints, h))
times_negative (suc k) (negsuc z) l h = omega (arith, ints)

module _ (d : RootDatum) (loaded : IsLoaded d) (t : ConstantTable) (loads : LoadsConstants d (Ok t)) where
  -- the first m positive numbers name roots
  numbers : (r : ℕ) → 1 ≤ r → r ≤ t.positive → IsNumber d (pos r)
  numbers zero low high = absurd (omega (arith, low))
  numbers (suc k) low high = some_within d.positive k (let m = loads.0 in omega (arith, high, m))

  pair_of : (r s : ℕ) → 1 ≤ r → r < s → s ≤ t.positive → IsPair d (pos r) (pos s)
  pair_of r s low below high = record {
    left = numbers r low (omega (arith, below, high));
    right = numbers s (omega (arith, low, below)) high;
    unequal = λ e. absurd (omega (arith, ints, e, below));
    independent = λ e. absurd (omega (arith, ints, e, low, below));
  }

  at_terms : (r s : ℕ) → 1 ≤ r → r < s → s ≤ t.positive → AllByRecursion (IsTermAt d (pos r) (pos s)) (terms_of t (pos r) (pos s))
  at_terms r s low below high = terms_at-roots d loaded t (pos r) (pos s) loads (pair_of r s low below high)

  later_at : (r s : ℕ) → 1 ≤ r → r < s → s ≤ t.positive → AllByRecursion (IsLaterTerm d (pos r) (pos s)) (terms_of t (pos r) (pos s))
  later_at r s low below high =
      let pair = pair_of r s low below high in
      later_terms d loaded (pos r) (pos s) pair.left pair.right (omega (arith, ints, low)) (omega (arith, ints, low, below)) (terms_of t (pos r) (pos s)) (at_terms r s low below high)

  come_after : (r s : ℕ) (cs : List Term) → AllByRecursion (IsLaterTerm d (pos r) (pos s)) cs → ComeAfter t.positive s (map positive_term cs)
  come_after r s [] h = tt
  come_after r s (c ∷ cs) h =
      let here = h.0 in
      let bound = place_within d c.root here.at.number in
      let m = loads.0 in
      (after c.root s here.positive here.after_second, within c.root (omega (arith, bound.1, m)), here.at.first, here.at.second, come_after r s cs h.1)
    where
      after : (k : ℤ) (s : ℕ) → pos 0 <ℤ k → pos s <ℤ k → s < nat_abs k
      after (pos k) s p h = omega (arith, ints, h)
      after (negsuc k) s p h = absurd (omega (arith, ints, p))

      within : (k : ℤ) → unsigned_abs k ≤ t.positive → nat_abs k ≤ t.positive
      within (pos k) h = omega (arith, ints, h)
      within (negsuc k) h = omega (arith, ints, h)

  -- the terms of positive roots can be collected
  pub table_collectable : AreCollectable t.positive (positive_terms t)
  table_collectable = record {
    later = λ r s low below high. come_after r s (terms_of t (pos r) (pos s)) (later_at r s low below high);
    few = λ r s low below high.
        let long = AllZip-long (IsTerm d (value_of t) (pos r) (pos s)) (term_exponents d (pos r) (pos s)) (terms_of t (pos r) (pos s)) (loads.2 (pos r) (pos s) (pair_of r s low below high)) in
        let count = length-map (terms_of t (pos r) (pos s)) positive_term in
        let few = filtered_few (λ e. is_some (find_root d (term_vector d (pos r) (pos s) e))) exponents in
        omega (arith, long, count, few);
  }

  -- the same by the number of the datum's positive roots
  pub datum_collectable : AreCollectable (length d.positive) (positive_terms t)
  datum_collectable = subst (λ n. AreCollectable n (positive_terms t)) loads.0 table_collectable

  module _ (word : List ℕ) (letters : AreLetters d.base word) where
    -- the list at the number of a root
    kept_is : (k : ℕ) → 1 ≤ k → k ≤ t.positive → kept_at (kept_by d word) k ≡ not (is_negative (moved d.base word (root_of d (pos k))))
    kept_is zero low high = absurd (omega (arith, low))
    kept_is (suc k) low high =
        let nothing : Root = record { coeffs = []; co_coeffs = [] } in
        let inside : k < length d.positive = let m = loads.0 in omega (arith, high, m) in
        let e : suc k - 1 ≡ k = omega arith in
        ap (λ i. get_or (kept_by d word) i false) e
        ∙ get_or-map (λ r. not (is_negative (moved d.base word r))) d.positive k nothing false inside
        ∙ ap (λ r. not (is_negative (moved d.base word r))) (sym (unwrap_or-slice_get d.positive k nothing))

    images : List ℤ
    images = map (λ i. height (moved d.base word (simple i))) (range_with_len 1 (rank d.base))

    height_image : (r : Root) → IsRoot d.base r → height (moved d.base word r) ≡ pairing r.coeffs images
    unfolding images
    height_image r p =
        linear_image d loaded (total (λ c. c)) (λ x y k. total-plus x (times k y) ∙ ap (λ z. total (λ c. c) x +ℤ z) (total-times k y)) word (is_word d.base word letters) images
        (let l = length-map-range_with_len (λ i. height (moved d.base word (simple i))) 1 (rank d.base) in omega (arith, l))
        (λ i s. (let low = s.0 in let high = s.1 in
        get_or-map-range_with_len (λ i. height (moved d.base word (simple i))) 1 (rank d.base) (i - 1) i (pos 0) (omega (arith, low, high)) (omega (arith, low)))) r p

    -- a root that isn't kept has an image of height below 0
    low_image : (k : ℕ) → 1 ≤ k → k ≤ t.positive → kept_at (kept_by d word) k ≡ false → height (moved d.base word (root_of d (pos k))) <ℤ pos 0
    low_image k low high e =
        let r = root_of d (pos k) in
        let root = IsRoot-moved d loaded word r (is_word d.base word letters) (root_is d loaded (pos k) (numbers k low high)) in
        height_negative d loaded (moved d.base word r) root (λ p. (let f = positive_test (moved d.base word r) p in let g = sym (kept_is k low high) ∙ e in cc))

    none_kept : (r s : ℕ) (cs : List Term) → 1 ≤ r → r < s → s ≤ t.positive → kept_at (kept_by d word) r ≡ false → kept_at (kept_by d word) s ≡ false
        → AllByRecursion (IsLaterTerm d (pos r) (pos s)) cs → NoneKept (kept_at (kept_by d word)) (map positive_term cs)
    none_kept r s [] low below high e f h = tt
    none_kept r s (c ∷ cs) low below high e f h = (here (nat_abs c.root) refl, none_kept r s cs low below high e f h.1)
      where
        at : IsTermAt d (pos r) (pos s) c
        at = h.0.at

        negative : height (moved d.base word (root_of d c.root)) <ℤ pos 0
        negative =
            let x = low_image r low (omega (arith, below, high)) e in
            let y = low_image s (omega (arith, low, below)) high f in
            let pair = pair_of r s low below high in
            let hr = height_image (root_of d (pos r)) (root_is d loaded (pos r) pair.left) in
            let hs = height_image (root_of d (pos s)) (root_is d loaded (pos s) pair.right) in
            let ht =
            height_image (root_of d c.root) (root_is d loaded c.root at.number) ∙ ap (λ v. pairing v images) at.coeffs
            ∙ pairing-plus (times (pos c.i) (coeffs_of d (pos r))) (times (pos c.j) (coeffs_of d (pos s))) images
            ∙ ap₂ ◌+ℤ◌ (pairing-times (pos c.i) (coeffs_of d (pos r)) images) (pairing-times (pos c.j) (coeffs_of d (pos s)) images)
            ∙ ap₂ (λ p q. pos c.i *ℤ p +ℤ pos c.j *ℤ q) (sym hr) (sym hs) in
            let first = times_negative c.i (height (moved d.base word (root_of d (pos r)))) at.first x in
            let second = times_negative c.j (height (moved d.base word (root_of d (pos s)))) at.second y in
            omega (arith, ints, ht, first, second)

        here : (k : ℕ) → nat_abs c.root ≡ k → kept_at (kept_by d word) k ≡ false
        here k g =
            let number = positive_abs c.root h.0.positive ∙ ap pos g in
            let bound = place_within d c.root at.number in
            let m = loads.0 in
            let size = ap unsigned_abs number in
            let image = moved d.base word (root_of d (pos k)) in
            let low_height : height image <ℤ pos 0 = subst (λ n. height (moved d.base word (root_of d n)) <ℤ pos 0) number negative in
            let root = IsRoot-moved d loaded word (root_of d (pos k)) (is_word d.base word letters) (subst (λ n. IsRoot d.base (root_of d n)) number (root_is d loaded c.root at.number)) in
            let down = negative_test image (negative_by_height d loaded image root low_height) in
            kept_is k (let b = bound.0 in omega (arith, b, size)) (let b = bound.1 in omega (arith, b, size, m)) ∙ ap not down

    -- the terms of two roots that aren't kept aren't kept
    pub kept_apart : StayApart t.positive (positive_terms t) (kept_at (kept_by d word))
    kept_apart r s low below high e f = none_kept r s (terms_of t (pos r) (pos s)) low below high e f (later_at r s low below high)

-- the number of a root, without its sign
pub number_within : (d : RootDatum) (k : ℤ) → IsNumber d k → (1 ≤ nat_abs k) × (nat_abs k ≤ length d.positive)
number_within d (pos k) n = let b = place_within d (pos k) n in let x = b.0 in let y = b.1 in (omega (arith, ints, x), omega (arith, ints, y))
number_within d (negsuc k) n = let b = place_within d (negsuc k) n in let x = b.0 in let y = b.1 in (omega (arith, ints, x), omega (arith, ints, y))

-- a list of the roots that are kept, one root more
pub kept_more : (d : RootDatum) → IsLoaded d → (word : List ℕ) (k : ℕ) (z : ℤ) (b : Bool) (old new : List Bool) → AreLetters d.base word → k < length d.positive → IsNumber d z
    → root_of d z ≡ moved d.base word (root_of d (pos (k + 1))) → (IsTrue b → pos 0 <ℤ z) → (pos 0 <ℤ z → IsTrue b) → old ≡ take k (kept_by d word) → new ≡ old ++ b ∷ []
    → new ≡ take (k + 1) (kept_by d word)
kept_more d loaded word k z b old new letters inside number image up down e f =
    let long : k < length (kept_by d word) = subst (λ n. k < n) (sym (length-map d.positive (λ r. not (is_negative (moved d.base word r))))) inside in
    f ∙ ap (λ l. l ++ b ∷ []) e ∙ ap (λ x. take k (kept_by d word) ++ x ∷ []) (value (is_negative (root_of d z)) refl b refl ∙ sym here) ∙ sym (take_more (kept_by d word) k false long)
  where
    root : root_of d (pos (k + 1)) ≡ get_or d.positive k (record { coeffs = []; co_coeffs = [] })
    root = let one : k + 1 ≡ suc k = omega arith in ap (λ n. root_of d (pos n)) one ∙ unwrap_or-slice_get d.positive k (record { coeffs = []; co_coeffs = [] })

    here : get_or (kept_by d word) k false ≡ not (is_negative (root_of d z))
    here =
        get_or-map (λ r. not (is_negative (moved d.base word r))) d.positive k (record { coeffs = []; co_coeffs = [] }) false inside
        ∙ ap (λ r. not (is_negative (moved d.base word r))) (sym root) ∙ ap (λ r. not (is_negative r)) (sym image)

    value : (n : Bool) → is_negative (root_of d z) ≡ n → (c : Bool) → b ≡ c → b ≡ not (is_negative (root_of d z))
    value true g true h = absurd (cc (sym (positive_test (root_of d z) (number_is_positive d loaded z number (up h))) ∙ g))
    value true g false h = h ∙ sym (ap not g)
    value false g true h = h ∙ sym (ap not g)
    value false g false h = down (positive_number d loaded z number (test_positive (root_of d z) g)) ∙ sym (ap not g)

-- there is an answer for each positive root
pub length-kept_by : (d : RootDatum) (word : List ℕ) → length (kept_by d word) ≡ length d.positive
length-kept_by d word = length-map d.positive (λ r. not (is_negative (moved d.base word r)))
