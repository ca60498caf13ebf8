-- The number that a coefficient vector stands for, and tests of vectors.
use Rattle.std.proofs.Common.{◌≡◌, ◌≢◌, ℕ, zero, suc, ◌+◌, ◌<◌, ◌≤◌, ℤ, pos, negsuc, neg_ℤ, ◌<ℤ◌, ltb, List, [], length, get_or, slice_get, refl, sym, ap, subst, ◌∙◌, arith, Option, None, Some, Bool, true, false, cond}
use Rattle.std.specs.List.{position, position_or_len}
use Rattle.std.specs.Option.{option_map_or}
use Rattle.std.specs.Ordering.{int_cmp, is_eq, MatchOrdering}
use Rattle.std.specs.Cmp.Lexicographic.{slice_cmp}
use Rattle.std.specs.declared.cmp.Ordering.{Ordering}
use Rattle.std.specs.declared.cmp.Ordering.TheVariants.{Less, Equal, Greater}
use Rattle.std.proofs.lemmas.Cmp.{tied_itself, int_ranked}
use Rattle.std.proofs.lemmas.Option.{unwrap_or-slice_get}
use Rattle.std.proofs.lemmas.List.{get_or_default}
use Rattle.std.proofs.lemmas.List.Quantifiers.{position-Some}
use Rattle.std.proofs.lemmas.List.Sums.{fails_before_first}
use Rattle.std.proofs.lemmas.Bool.Decides.{nat_tests}
use Rattle.lie_datum.specs.declared.root_pair.Root.{Root}
use Rattle.lie_datum.specs.Vectors.{Vector, minus}
use Rattle.lie_datum.specs.RootDatum.{opposite}
use Rattle.lie_datum.specs.RootList.{RootDatum, IsLoaded, IsNumber, root_of, IsRootVector}
use Rattle.lie_datum.proofs.RootOrder.{equal_slices, slices_total}
use Rattle.lie_datum.proofs.NumberLemmas.{within, some_within, some_map}
use Rattle.lie_datum.proofs.LoadedLaws.{twice_opposite}
use Rattle.lie_datum.proofs.SignedRoots.{root_is, number_is, same_number, same_coeffs, opposite_number}
use Rattle.lie_const.specs.StructureConstants.{coeffs_of, same_vector}
use Rattle.lie_const.specs.CommutatorTerms.{number_of}

pub same_vector-true : (x y : Vector) → same_vector x y ≡ true → x ≡ y
same_vector-true x y e = by (slice_cmp int_cmp x y) refl e
  where
    by : (o : Ordering) → slice_cmp int_cmp x y ≡ o → is_eq o ≡ true → x ≡ y
    by Less f e = cc
    by Equal f e = equal_slices x y f
    by Greater f e = cc

pub same_vector-yes : (x y : Vector) → x ≡ y → same_vector x y ≡ true
same_vector-yes x y e = ap (same_vector x) (sym e) ∙ ap is_eq (tied_itself slices_total x)

pub same_vector-no : (x y : Vector) → x ≢ y → same_vector x y ≡ false
same_vector-no x y n = by (same_vector x y) refl
  where
    by : (t : Bool) → same_vector x y ≡ t → t ≡ false
    by true e = absurd (n (same_vector-true x y e))
    by false e = refl

pub is_eq-no : (a b : ℤ) → a ≢ b → is_eq (int_cmp a b) ≡ false
is_eq-no a b n = by (int_cmp a b) (int_ranked a b (int_cmp a b) refl)
  where
    by : (o : Ordering) → MatchOrdering o (a <ℤ b) (a ≡ b) (b <ℤ a) → is_eq o ≡ false
    by Less m = refl
    by Equal m = absurd (n m)
    by Greater m = refl

position-None : {A : Type 0} (p : A → Bool) (xs : List A) (k : ℕ) (x : A) → position p xs ≡ None → k < length xs → p (get_or xs k x) ≡ false
position-None p xs k x e l = by (ltb (position_or_len p xs) (length xs)) refl e
  where
    by : (t : Bool) → ltb (position_or_len p xs) (length xs) ≡ t → cond t (Some (position_or_len p xs)) None ≡ None → p (get_or xs k x) ≡ false
    by true f g = cc
    by false f g = let high : length xs ≤ position_or_len p xs = grind (arith, nat_tests) in fails_before_first p xs k x (omega (arith, high, l))

-- the number of a vector
pub data Numbering (d : RootDatum) (v : Vector) : ℤ → Type 0 where
  numbers : (k : ℤ) → IsNumber d k → coeffs_of d k ≡ v → Numbering d v k
  none : ¬ IsRootVector d v → Numbering d v (pos 0)

abbrev no_root : Root
no_root = record { coeffs = []; co_coeffs = [] }

module _ (d : RootDatum) (loaded : IsLoaded d) where
  -- the positive root at a place
  positive_root : (j : ℕ) (z : Root) → j < length d.positive → get_or d.positive j z ≡ root_of d (pos (suc j))
  positive_root j z l = get_or_default d.positive j z no_root l ∙ sym (unwrap_or-slice_get d.positive j no_root)

  opposite_coeffs : (k : ℤ) → IsNumber d k → coeffs_of d (neg_ℤ k) ≡ minus (coeffs_of d k)
  opposite_coeffs k n = ap (λ r. r.coeffs) (opposite_number d k n).1

  minus_minus : (v : Vector) → minus (minus v) ≡ v
  minus_minus v = ap (λ r. r.coeffs) (twice_opposite (record { coeffs = v; co_coeffs = v }))

  none_at : (v : Vector) → position (λ r. same_vector r.coeffs v) d.positive ≡ None → position (λ r. same_vector r.coeffs (minus v)) d.positive ≡ None → (k : ℤ) → IsNumber d k → coeffs_of d k ≢ v
  none_at v e f (pos zero) n q = cc
  none_at v e f (pos (suc j)) n q =
      let l = within d.positive j n in
      let fails = position-None (λ r. same_vector r.coeffs v) d.positive j no_root e l in
      let holds = same_vector-yes (get_or d.positive j no_root).coeffs v (ap (λ r. r.coeffs) (positive_root j no_root l) ∙ q) in
      cc
  none_at v e f (negsuc j) n q =
      let l = within d.positive j (some_map opposite (slice_get d.positive j) n) in
      let fails = position-None (λ r. same_vector r.coeffs (minus v)) d.positive j no_root f l in
      let turned = opposite_coeffs (negsuc j) n in
      let holds = same_vector-yes (get_or d.positive j no_root).coeffs (minus v) (ap (λ r. r.coeffs) (positive_root j no_root l) ∙ turned ∙ ap minus q) in
      cc

  -- what the two searches answer
  searched : (v : Vector) (o p : Option ℕ) → position (λ r. same_vector r.coeffs v) d.positive ≡ o → position (λ r. same_vector r.coeffs (minus v)) d.positive ≡ p →
      Numbering d v (option_map_or (λ k. pos (k + 1)) o (option_map_or negsuc p (pos 0)))
  searched v (Some i) p e f =
      let at = position-Some (λ r. same_vector r.coeffs v) d.positive i no_root e in
      let one : i + 1 ≡ suc i = omega arith in
      subst (λ k. Numbering d v (pos k)) (sym one) (numbers (pos (suc i)) (some_within d.positive i at.0)
      (ap (λ r. r.coeffs) (sym (positive_root i no_root at.0)) ∙ same_vector-true (get_or d.positive i no_root).coeffs v at.1))
  searched v None (Some i) e f =
      let at = position-Some (λ r. same_vector r.coeffs (minus v)) d.positive i no_root f in
      let up = some_within d.positive i at.0 in
      let down = opposite_number d (pos (suc i)) up in
      numbers (negsuc i) down.0
      (ap (λ r. r.coeffs) down.1 ∙ ap (λ r. minus r.coeffs) (sym (positive_root i no_root at.0)) ∙ ap minus (same_vector-true (get_or d.positive i no_root).coeffs (minus v) at.1) ∙ minus_minus v)
  searched v None None e f = none (λ h. (let k = number_is d loaded h.0 h.1 in none_at v e f k.0 k.1 (ap (λ r. r.coeffs) k.2 ∙ h.2)))

  -- the number of a vector names the root with these coefficients, and is 0 where there is none
  pub numbering : (v : Vector) → Numbering d v (number_of d v)
  numbering v = searched v (position (λ r. same_vector r.coeffs v) d.positive) (position (λ r. same_vector r.coeffs (minus v)) d.positive) refl refl

  -- roots with the same coefficients have one number
  pub one_number : (j k : ℤ) → IsNumber d j → IsNumber d k → coeffs_of d j ≡ coeffs_of d k → j ≡ k
  one_number j k m n e = same_number d loaded j k m n (same_coeffs d loaded (root_of d j) (root_of d k) (root_is d loaded j m) (root_is d loaded k n) e)

  pub number_of-root : (v : Vector) (k : ℤ) → IsNumber d k → coeffs_of d k ≡ v → number_of d v ≡ k
  number_of-root v k n e = by (number_of d v) (numbering v)
    where
      by : (j : ℤ) → Numbering d v j → j ≡ k
      by _ (numbers j m f) = one_number j k m n (f ∙ sym e)
      by _ (none f) = absurd (f (root_of d k, root_is d loaded k n, e))

  pub number_of-none : (v : Vector) → ¬ IsRootVector d v → number_of d v ≡ pos 0
  number_of-none v f = by (number_of d v) (numbering v)
    where
      by : (j : ℤ) → Numbering d v j → j ≡ pos 0
      by _ (numbers j m e) = absurd (f (root_of d j, root_is d loaded j m, e))
      by _ (none g) = refl
