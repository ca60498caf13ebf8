-- Sums and products in which an entry is zero, and the size of a running sum.
use Rattle.std.proofs.Common.{◌≡◌, ℕ, zero, suc, ◌+◌, ◌*◌, ◌^◌, ◌<◌, ◌≤◌, ◌⊎◌, List, [], ◌∷◌, ◌++◌, length, length-append, sym, ap, ◌∙◌, inl, inr, subst, arith}
use Rattle.std.proofs.lemmas.Bool.{cases_lt}
use Rattle.std.proofs.lemmas.List.{get_or_append_left, get_or_push}
use Rattle.lie_ring.specs.Rings.{RingOn, IsElem, Fits, IsRing}
use Rattle.lie_ring.specs.RingLemmas.{mul_zero, zero_mul}
use Rattle.lie_ring.specs.Matrices.{Matrix, entry, EachFits}
use Rattle.lie_mat.specs.Wide.{nat_sum_below, product_size, product_term_size, IsDeepAt}

-- one more term of a sum is within the whole sum
pub term_within : (f : ℕ → ℕ) (n k : ℕ) → k < n → nat_sum_below k f + f k ≤ nat_sum_below n f
term_within f zero k h = absurd (let never : ⊥ = omega (arith, h) in never)
term_within f (suc n) k h = elim (cases_lt k n) [
  | inl low ↦ omega (arith, term_within f n k low)
  | inr high ↦ let e : k ≡ n = omega (arith, h, high) in rw e (omega arith)
]

module _ {A : Type 0} (R : RingOn A) (ring : IsRing R) (z : A) (same : R.zero ≡ z) where
  -- an entry that is not kept is zero
  pub absent : (M : Matrix A) (i j : ℕ) → entry z M i j ≡ z → entry R.zero M i j ≡ R.zero
  absent M i j h = ap (λ x. entry x M i j) same ∙ h ∙ sym same

  -- an entry that is kept
  pub present : (M : Matrix A) (i j : ℕ) (x : A) → x ≡ entry z M i j → x ≡ entry R.zero M i j
  present M i j x h = h ∙ ap (λ x. entry x M i j) (sym same)

  -- a product with zero on the left
  pub product-left : (x y : A) → x ≡ R.zero → IsElem R y → z ≡ R.mul x y
  product-left x y h p = sym (ap (λ e. R.mul e y) h ∙ zero_mul R ring.laws y p ∙ same)

  -- a product with zero on the right
  pub product-right : (x y : A) → y ≡ R.zero → IsElem R x → z ≡ R.mul x y
  product-right x y h p = sym (ap (R.mul x) h ∙ mul_zero R ring.laws x p ∙ same)

  -- a sum with zero on the right
  pub sum-right : (x y : A) → y ≡ R.zero → IsElem R x → x ≡ R.add x y
  sum-right x y h p = sym (ap (R.add x) h ∙ ring.laws.add_zero x p)

  -- the sum of zeros
  pub sum-none : (x y : A) → x ≡ R.zero → y ≡ R.zero → z ≡ R.add x y
  sum-none x y h k = sym same ∙ sum-right R.zero y k ring.laws.zero_elem ∙ ap (λ e. R.add e y) (sym h)

-- a step that is too wide makes the entry of the product too wide
pub wide_step : {A : Type 0} (R : RingOn A) (M N : Matrix A) (i j k : ℕ) (s : A) → k < M.width → R.size s ≤ nat_sum_below k (product_term_size R M N i j)
    → (2 ^ 126 ≤ R.size s + R.size (entry R.zero M i k) * R.size (entry R.zero N k j)) ⊎ (2 ^ 30 ≤ R.degree (entry R.zero M i k) + R.degree (entry R.zero N k j))
    → (2 ^ 126 ≤ product_size R M N i j) ⊎ IsDeepAt R M N i j
wide_step R M N i j k s h small (inl wide) = inl (omega (arith, small, wide, term_within (product_term_size R M N i j) M.width k h))
wide_step R M N i j k s h small (inr deep) = inr (record { mid = k; mid_within = h; deep = deep })

-- a list of which each element fits, with one more
pub push-fits : {A : Type 0} (R : RingOn A) (xs : List A) (x : A) → EachFits R xs → Fits R x → EachFits R (xs ++ x ∷ [])
push-fits R xs x each fits k p = elim (cases_lt k (length xs)) [
  | inl low ↦ subst (Fits R) (sym (get_or_append_left xs (x ∷ []) R.zero k low)) (each k low)
  | inr high ↦ subst (Fits R) (sym (get_or_push xs x R.zero k (let q = length-append xs (x ∷ []) in omega (arith, p, q, high)))) fits
]
