-- Sums of roots, by signed numbers.
use Rattle.std.proofs.Common.{◌≡◌, ◌≢◌, ℕ, zero, suc, ℤ, pos, negsuc, neg_ℤ, ◌+ℤ◌, ◌*ℤ◌, ◌<ℤ◌, length, sym, ap, ◌∙◌, arith, ◌⊎◌, inl, inr}
use Rattle.std.proofs.lemmas.Int.{ints, by_lt_z}
use Rattle.std.proofs.Math.IntN.{+ℤ_comm}
use Rattle.lie_datum.specs.Vectors.{Vector, plus, times, entry}
use Rattle.lie_datum.specs.RootList.{RootDatum, IsLoaded, IsNumber, root_of, height}
use Rattle.lie_datum.proofs.Entries.{entry-plus, entry-times, length-plus, length-times, same_entries}
use Rattle.lie_datum.proofs.Roots.{root_lengths}
use Rattle.lie_datum.proofs.Turns.{not_even}
use Rattle.lie_datum.proofs.LoadedLaws.{short}
use Rattle.lie_datum.proofs.SignedRoots.{root_is, opposite_number}
use Rattle.lie_datum.proofs.HeightLemmas.{total-plus, height_positive, number_is_positive, positive_number, before_by_height, entries_not_negative, positive_from_entries}
use Rattle.lie_const.specs.StructureConstants.{coeffs_of, IsSum}

pub neg_neg : (k : ℤ) → neg_ℤ (neg_ℤ k) ≡ k
neg_neg k = omega (arith, ints)

-- u is v + w as entries
abbrev IsEntrySum : Vector → Vector → Vector → Type 0
IsEntrySum u v w = (j : ℕ) → entry u j ≡ entry v j +ℤ entry w j

from_entries : (u v w : Vector) → length u ≡ 8 → length v ≡ 8 → length w ≡ 8 → IsEntrySum u v w → u ≡ plus v w
from_entries u v w p q r h = same_entries u (plus v w) (p ∙ sym (length-plus v w 8 q r)) (λ j. h j ∙ sym (entry-plus v w j))

to_entries : (u v w : Vector) → u ≡ plus v w → IsEntrySum u v w
to_entries u v w e j = ap (λ t. entry t j) e ∙ entry-plus v w j

module _ (d : RootDatum) (loaded : IsLoaded d) where
  pub long : (k : ℤ) → IsNumber d k → length (coeffs_of d k) ≡ 8
  long k n = (root_lengths d.base (short d loaded) loaded.axioms.input.corank (root_of d k) (root_is d loaded k n)).0

  pub neg_number : (k : ℤ) → IsNumber d k → IsNumber d (neg_ℤ k)
  neg_number k n = (opposite_number d k n).0

  pub neg_entry : (k : ℤ) (j : ℕ) → IsNumber d k → entry (coeffs_of d (neg_ℤ k)) j ≡ neg_ℤ (entry (coeffs_of d k) j)
  neg_entry k j n = ap (λ r. entry r.coeffs j) (opposite_number d k n).1 ∙ entry-times (negsuc 0) (coeffs_of d k) j ∙ flip (entry (coeffs_of d k) j)
    where
      flip : (z : ℤ) → negsuc 0 *ℤ z ≡ neg_ℤ z
      flip z = omega (arith, ints)

  make : (r s k : ℤ) → IsNumber d r → IsNumber d s → IsNumber d k → IsEntrySum (coeffs_of d k) (coeffs_of d r) (coeffs_of d s) → IsSum d r s k
  make r s k m n o h = record { left = m; right = n; number = o; is = from_entries (coeffs_of d k) (coeffs_of d r) (coeffs_of d s) (long k o) (long r m) (long s n) h }

  entries : (r s k : ℤ) → IsSum d r s k → IsEntrySum (coeffs_of d k) (coeffs_of d r) (coeffs_of d s)
  entries r s k h = to_entries (coeffs_of d k) (coeffs_of d r) (coeffs_of d s) h.is

  pub sum_swap : (r s k : ℤ) → IsSum d r s k → IsSum d s r k
  sum_swap r s k h = make s r k h.right h.left h.number (λ j. entries r s k h j ∙ +ℤ_comm (entry (coeffs_of d r) j) (entry (coeffs_of d s) j))

  -- r = k + (-s)
  pub sum_turn : (r s k : ℤ) → IsSum d r s k → IsSum d k (neg_ℤ s) r
  sum_turn r s k h = make k (neg_ℤ s) r h.number (neg_number s h.right) h.left
      (λ j. let e = entries r s k h j in let f = neg_entry s j h.right in omega (arith, ints, e, f))

  pub sum_neg : (r s k : ℤ) → IsSum d r s k → IsSum d (neg_ℤ r) (neg_ℤ s) (neg_ℤ k)
  sum_neg r s k h = make (neg_ℤ r) (neg_ℤ s) (neg_ℤ k) (neg_number r h.left) (neg_number s h.right) (neg_number k h.number)
      (λ j. let e = entries r s k h j in let a = neg_entry r j h.left in let b = neg_entry s j h.right in let c = neg_entry k j h.number in omega (arith, ints, e, a, b, c))

  -- no root is twice a root
  pub not_double : (r k : ℤ) → ¬ IsSum d r r k
  not_double r k h = not_even d.base (short d loaded) loaded.axioms.input.corank loaded.axioms.twos (root_of d k) (coeffs_of d r) (root_is d loaded k h.number)
      (same_entries (coeffs_of d k) (times (pos 2) (coeffs_of d r)) (long k h.number ∙ sym (length-times (pos 2) (coeffs_of d r) ∙ long r h.left))
      (λ j. let e = entries r r k h j in let f = entry-times (pos 2) (coeffs_of d r) j in omega (arith, ints, e, f)))

  -- roots that are opposite have no sum
  pub not_opposite : (r s k : ℤ) → IsSum d r s k → s ≢ neg_ℤ r
  not_opposite r s k h q = not_even d.base (short d loaded) loaded.axioms.input.corank loaded.axioms.twos (root_of d k) (coeffs_of d k) (root_is d loaded k h.number)
      (same_entries (coeffs_of d k) (times (pos 2) (coeffs_of d k)) (sym (length-times (pos 2) (coeffs_of d k)))
      (λ j. let e = entries r s k h j in let f = entry-times (pos 2) (coeffs_of d k) j in let g = ap (λ t. entry (coeffs_of d t) j) q ∙ neg_entry r j h.left in omega (arith, ints, e, f, g)))

  pub height_sum : (r s k : ℤ) → IsSum d r s k → height (root_of d k) ≡ height (root_of d r) +ℤ height (root_of d s)
  height_sum r s k h = ap (λ v. height (record { coeffs = v; co_coeffs = v })) h.is ∙ total-plus (coeffs_of d r) (coeffs_of d s)

  -- a sum of positive roots is positive, and stands after both
  pub sum_positive : (r s k : ℤ) → IsSum d r s k → pos 0 <ℤ r → pos 0 <ℤ s → pos 0 <ℤ k
  sum_positive r s k h p q = positive_number d loaded k h.number
      (positive_from_entries (coeffs_of d k)
      (λ j. let a = entries_not_negative (coeffs_of d r) (number_is_positive d loaded r h.left p) j in
      let b = entries_not_negative (coeffs_of d s) (number_is_positive d loaded s h.right q) j in
      let e = entries r s k h j in omega (arith, ints, a, b, e)))

  pub left_before : (r s k : ℤ) → IsSum d r s k → pos 0 <ℤ r → pos 0 <ℤ s → r <ℤ k
  left_before r s k h p q = before_by_height d loaded r k h.left h.number p (sum_positive r s k h p q)
      (let e = height_sum r s k h in let f = height_positive d loaded (root_of d s) (root_is d loaded s h.right) (number_is_positive d loaded s h.right q) in omega (arith, ints, e, f))

  pub right_before : (r s k : ℤ) → IsSum d r s k → pos 0 <ℤ r → pos 0 <ℤ s → s <ℤ k
  right_before r s k h p q = left_before s r k (sum_swap r s k h) q p

-- a number of a root is positive or negative
pub sign_of : (d : RootDatum) (k : ℤ) → IsNumber d k → (pos 0 <ℤ k) ⊎ (k <ℤ pos 0)
sign_of d (pos zero) n = cc
sign_of d (pos (suc j)) n = inl (omega (arith, ints))
sign_of d (negsuc j) n = inr (omega (arith, ints))

pub compare_numbers : (r s : ℤ) → (r <ℤ s) ⊎ ((s <ℤ r) ⊎ (r ≡ s))
compare_numbers r s = by_lt_z r s (λ l. inl l) (λ l. by_lt_z s r (λ m. inr (inl m)) (λ m. inr (inr (omega (arith, ints, l, m)))))
