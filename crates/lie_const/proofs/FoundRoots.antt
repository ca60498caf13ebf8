-- What the search for a root by its coefficients finds.
use Rattle.std.proofs.Common.{subst, ◌≢◌, ◌⊎◌, inl, inr, ⊎_elim, ◌*ℤ◌, ◌≡◌, ℕ, zero, suc, ◌+◌, ◌<◌, ℤ, pos, negsuc, neg_ℤ, List, [], ◌∷◌, length, get_or, Bool, true, false, cond, Option, None, Some, refl, sym, ap, ◌∙◌, arith, slice_get}
use Rattle.std.proofs.lemmas.Int.{ints}
use Rattle.std.proofs.lemmas.Option.{unwrap_or-slice_get}
use Rattle.std.specs.List.{find, position}
use Rattle.std.specs.Option.{option_map, option_map_or}
use Rattle.lie_datum.specs.Vectors.{Vector, plus, minus}
use Rattle.lie_datum.specs.declared.root_pair.Root.{Root}
use Rattle.lie_datum.specs.RootDatum.{IsRoot}
use Rattle.lie_datum.specs.RootList.{RootDatum, IsLoaded, IsNumber, NamesRoot, root_of, all_roots, length2}
use Rattle.lie_base.proofs.Members.{In, here, there}
use Rattle.lie_datum.proofs.NumberLemmas.{within, some_within, some_map}
use Rattle.lie_datum.proofs.LoadedLaws.{all_only, all_in}
use Rattle.lie_datum.proofs.SignedRoots.{root_is, number_is, same_number, same_coeffs, opposite_number}
use Rattle.lie_datum.specs.RootDatum.{opposite}
use Rattle.lie_const.specs.StructureConstants.{coeffs_of, same_vector, find_root, norm, norm_or_one, gap}
use Rattle.lie_const.specs.CommutatorTerms.{number_of}
use Rattle.lie_const.proofs.Decisions.{root_or}
use Rattle.std.proofs.Common.{ltb}
use Rattle.std.proofs.lemmas.Bool.Decides.{nat_tests}
use Rattle.std.proofs.lemmas.List.Sums.{position_or_len_is}
use Rattle.std.proofs.lemmas.Cmp.{tied_itself}
use Rattle.std.specs.Ordering.{int_cmp, is_eq}
use Rattle.std.specs.Cmp.Lexicographic.{slice_cmp}
use Rattle.std.specs.declared.cmp.Ordering.{Ordering}
use Rattle.std.specs.declared.cmp.Ordering.TheVariants.{Less, Equal, Greater}
use Rattle.lie_datum.proofs.RootOrder.{slices_total, equal_slices}

-- ---- the first place and the first member that pass a test
pub not_passed : (b : Bool) → (b ≡ true → ⊥) → b ≡ false
not_passed true h = absurd (h refl)
not_passed false h = refl

pub position_is : {A : Type 0} (test : A → Bool) (xs : List A) (n : ℕ) (z : A) → n < length xs → test (get_or xs n z) ≡ true → ((k : ℕ) → k < length xs → test (get_or xs k z) ≡ true → k ≡ n) → position test xs ≡ Some n
position_is test xs n z l h only =
    let first = position_or_len_is test xs n z (omega (arith, l)) (λ k m. not_passed (test (get_or xs k z)) (λ e. (let s = only k (omega (arith, l, m)) e in absurd (omega (arith, m, s))))) (λ m. h) in
    let passes : ltb n (length xs) ≡ true = grind (arith, nat_tests) in
    ap (λ t. cond (ltb t (length xs)) (Some t) None) first ∙ ap (λ t. cond t (Some n) None) passes

pub position_none : {A : Type 0} (test : A → Bool) (xs : List A) (z : A) → ((k : ℕ) → k < length xs → test (get_or xs k z) ≡ true → ⊥) → position test xs ≡ None
position_none test xs z none =
    let last = position_or_len_is test xs (length xs) z (omega arith) (λ k m. not_passed (test (get_or xs k z)) (none k m)) (λ m. absurd (omega (arith, m))) in
    let fails : ltb (length xs) (length xs) ≡ false = grind (arith, nat_tests) in
    ap (λ t. cond (ltb t (length xs)) (Some t) None) last ∙ ap (λ t. cond t (Some (length xs)) None) fails

pub find_is : {A : Type 0} (test : A → Bool) (xs : List A) (x : A) → In x xs → test x ≡ true → ((y : A) → In y xs → test y ≡ true → y ≡ x) → find test xs ≡ Some x
find_is test [] x p h only = elim p [ ]
find_is test (y ∷ xs) x (here e) h only = let g = ap test (sym e) ∙ h in ap (λ t. cond t (Some y) (find test xs)) g ∙ ap Some (sym e)
find_is test (y ∷ xs) x (there p) h only = by (test y) refl (find_is test xs x p h (λ z q. only z (there q)))
  where
    by : (t : Bool) → test y ≡ t → find test xs ≡ Some x → cond t (Some y) (find test xs) ≡ Some x
    by true e f = ap Some (only y (here refl) e)
    by false e f = f

pub find_none : {A : Type 0} (test : A → Bool) (xs : List A) → ((y : A) → In y xs → test y ≡ true → ⊥) → find test xs ≡ None
find_none test [] none = refl
find_none test (y ∷ xs) none = ap (λ t. cond t (Some y) (find test xs)) (not_passed (test y) (none y (here refl))) ∙ find_none test xs (λ z q. none z (there q))

-- ---- vectors that are tested equal are equal
pub same_vector_refl : (v : Vector) → same_vector v v ≡ true
same_vector_refl v = ap is_eq (tied_itself slices_total v)

pub from_same_vector : (v w : Vector) → same_vector v w ≡ true → v ≡ w
from_same_vector v w e = by (slice_cmp int_cmp v w) refl e
  where
    by : (o : Ordering) → slice_cmp int_cmp v w ≡ o → is_eq o ≡ true → v ≡ w
    by Less f g = cc
    by Equal f g = equal_slices v w f
    by Greater f g = cc

-- ---- the root with given coefficients
abbrev no_root : Root
no_root = record { coeffs = []; co_coeffs = [] }

module _ (d : RootDatum) (loaded : IsLoaded d) where
  pub find_root_is : (r : Root) (v : Vector) → IsRoot d.base r → r.coeffs ≡ v → find_root d v ≡ Some r
  find_root_is r v p e = find_is (λ s. same_vector s.coeffs v) (all_roots d) r (all_in d loaded r p) (ap (λ t. same_vector t v) e ∙ same_vector_refl v)
      (λ s q h. same_coeffs d loaded s r (all_only d loaded s q) p (from_same_vector s.coeffs v h ∙ sym e))

  pub find_root_none : (v : Vector) → ((r : Root) → IsRoot d.base r → ¬ (r.coeffs ≡ v)) → find_root d v ≡ None
  find_root_none v none = find_none (λ s. same_vector s.coeffs v) (all_roots d) (λ s q h. none s (all_only d loaded s q) (from_same_vector s.coeffs v h))

  -- what a name for v says of the search
  pub find_root_named : (v : Vector) (o : Option ℤ) → NamesRoot d (λ t. t.coeffs ≡ v) o → find_root d v ≡ option_map (root_of d) o
  find_root_named v None h = find_root_none v h
  find_root_named v (Some k) h = find_root_is (root_of d k) v (root_is d loaded k h.0) h.1

  -- |s - r|^2, from a name for s + (-r)
  pub gap_named : (s r : ℤ) (o : Option ℤ) → IsNumber d r → NamesRoot d (λ t. t.coeffs ≡ plus (coeffs_of d s) (coeffs_of d (neg_ℤ r))) o → gap d s r ≡ option_map_or (norm d) o (pos 1)
  gap_named s r o n h =
      ap (λ t. norm_or_one d (plus (coeffs_of d s) t)) (sym (ap (λ t. t.coeffs) (opposite_number d r n).1))
      ∙ ap (λ t. option_map_or (length2 d) t (pos 1)) (find_root_named (plus (coeffs_of d s) (coeffs_of d (neg_ℤ r))) o h) ∙ through o
    where
      through : (o : Option ℤ) → option_map_or (length2 d) (option_map (root_of d) o) (pos 1) ≡ option_map_or (norm d) o (pos 1)
      through None = refl
      through (Some k) = refl

  -- the number of a root, from its coefficients
  positive_at : (k : ℕ) → k < length d.positive → (get_or d.positive k no_root ≡ root_of d (pos (suc k))) × IsNumber d (pos (suc k))
  positive_at k l = (sym (unwrap_or-slice_get d.positive k no_root), some_within d.positive k l)

  -- the places of the positive roots with these coefficients
  only_place : (v : Vector) (n : ℤ) → IsNumber d n → coeffs_of d n ≡ v → (k : ℕ) → k < length d.positive → same_vector (get_or d.positive k no_root).coeffs v ≡ true → pos (suc k) ≡ n
  only_place v n m e k l h =
      let p = positive_at k l in
      same_number d loaded (pos (suc k)) n p.1 m (same_coeffs d loaded (root_of d (pos (suc k))) (root_of d n) (root_is d loaded (pos (suc k)) p.1) (root_is d loaded n m)
      (ap (λ t. t.coeffs) (sym p.0) ∙ from_same_vector (get_or d.positive k no_root).coeffs v h ∙ sym e))

  pub number_of_is : (n : ℤ) (v : Vector) → IsNumber d n → coeffs_of d n ≡ v → number_of d v ≡ n
  number_of_is (pos zero) v m e = cc
  number_of_is (pos (suc k)) v m e =
      let l = within d.positive k m in
      let p = positive_at k l in
      let found = position_is (λ r. same_vector r.coeffs v) d.positive k no_root l (ap (λ t. same_vector t.coeffs v) p.0 ∙ ap (λ t. same_vector t v) e ∙ same_vector_refl v)
      (λ i q h. (let s = only_place v (pos (suc k)) m e i q h in omega (arith, ints, s))) in
      ap (λ t. option_map_or (λ i. pos (i + 1)) t (option_map_or negsuc (position (λ r. same_vector r.coeffs (minus v)) d.positive) (pos 0))) found ∙ ap pos (omega arith)
  number_of_is (negsuc k) v m e =
      let o = opposite_number d (negsuc k) m in
      let f : coeffs_of d (pos (suc k)) ≡ minus v = ap (λ t. t.coeffs) o.1 ∙ ap minus e in
      let l = within d.positive k (some_map opposite (slice_get d.positive k) m) in
      let p = positive_at k l in
      let none = position_none (λ r. same_vector r.coeffs v) d.positive no_root (λ i q h. (let s = only_place v (negsuc k) m e i q h in cc)) in
      let found = position_is (λ r. same_vector r.coeffs (minus v)) d.positive k no_root l (ap (λ t. same_vector t.coeffs (minus v)) p.0 ∙ ap (λ t. same_vector t (minus v)) f ∙ same_vector_refl (minus v))
      (λ i q h. (let s = only_place (minus v) (pos (suc k)) p.1 f i q h in omega (arith, ints, s))) in
      ap (λ t. option_map_or (λ i. pos (i + 1)) t (option_map_or negsuc (position (λ r. same_vector r.coeffs (minus v)) d.positive) (pos 0))) none
      ∙ ap (λ t. option_map_or negsuc t (pos 0)) found

  -- what is no root has the number 0
  number_of_none : (v : Vector) → ((k : ℤ) → IsNumber d k → coeffs_of d k ≢ v) → number_of d v ≡ pos 0
  number_of_none v none =
      let up = position_none (λ r. same_vector r.coeffs v) d.positive no_root (λ i q h. (let p = positive_at i q in none (pos (suc i)) p.1 (ap (λ t. t.coeffs) (sym p.0) ∙ from_same_vector (get_or d.positive i no_root).coeffs v h))) in
      let down = position_none (λ r. same_vector r.coeffs (minus v)) d.positive no_root (λ i q h. (let p = positive_at i q in let o = opposite_number d (pos (suc i)) p.1 in
      none (negsuc i) o.0 (ap (λ t. t.coeffs) o.1 ∙ ap minus (ap (λ t. t.coeffs) (sym p.0) ∙ from_same_vector (get_or d.positive i no_root).coeffs (minus v) h) ∙ minus_minus v))) in
      ap (λ t. option_map_or (λ i. pos (i + 1)) t (option_map_or negsuc (position (λ r. same_vector r.coeffs (minus v)) d.positive) (pos 0))) up ∙ ap (λ t. option_map_or negsuc t (pos 0)) down
    where
      minus_minus : (v : Vector) → minus (minus v) ≡ v
      minus_minus [] = refl
      minus_minus (a ∷ v) = let e : negsuc 0 *ℤ (negsuc 0 *ℤ a) ≡ a = omega (arith, ints) in let f = minus_minus v in cc

  -- a vector is that of a number, or its number is 0
  pub number_of_or : (v : Vector) → (IsNumber d (number_of d v) × (coeffs_of d (number_of d v) ≡ v)) ⊎ (number_of d v ≡ pos 0)
  number_of_or v = ⊎_elim
      (λ f. (let t = number_is d loaded f.0 f.1 in let e = ap (λ z. z.coeffs) t.2 ∙ f.2 in let g = number_of_is t.0 v t.1 e in
      inl (subst (IsNumber d) (sym g) t.1, ap (coeffs_of d) g ∙ e)))
      (λ f. inr (number_of_none v (λ k n e. f (root_of d k, root_is d loaded k n, e)))) (root_or d loaded v)
