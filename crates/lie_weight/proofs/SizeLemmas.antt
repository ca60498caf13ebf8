-- The sizes of the entries of products of integer matrices.
use Rattle.std.proofs.Common.{◌≡◌, ℕ, zero, suc, ◌+◌, ◌*◌, ◌^◌, ◌<◌, ◌≤◌, ℤ, pos, ◌+ℤ◌, ◌*ℤ◌, nat_abs, refl, sym, ap, subst, ◌∙◌, arith, ◌⊎◌, inl, inr, ⊎_elim}
use Rattle.std.proofs.lemmas.Int.{unsigned_abs-mul}
use Rattle.std.proofs.Math.Nat.{mul-le-mul_left, mul-le-mul_right, le_trans}
use Rattle.lie_ring.specs.Rings.{sum_below}
use Rattle.lie_ring.specs.Integers.{integers}
use Rattle.lie_ring.specs.Matrices.{Matrix, entry, product, product_entry, product_term}
use Rattle.lie_ring.specs.MatrixLemmas.{entry-table}
use Rattle.lie_mat.specs.Wide.{nat_sum_below, product_size, product_term_size, IsWideProduct, IsDeepAt}
use Rattle.lie_datum.proofs.VectorLemmas.{abs_add}
use Rattle.lie_weight.specs.Factors.{IsOfSize, IsBelow, IsNatural, HasDiagonal, IsBoundedBy}

-- ---- sums of numbers
pub nat_sum-mono : (n : ℕ) (f g : ℕ → ℕ) → ((k : ℕ) → k < n → f k ≤ g k) → nat_sum_below n f ≤ nat_sum_below n g
nat_sum-mono zero f g h = omega arith
nat_sum-mono (suc n) f g h = let a = nat_sum-mono n f g (λ k l. h k (omega (arith, l))) in let b = h n (omega arith) in omega (arith, a, b)

pub nat_sum-same : (n : ℕ) (f g : ℕ → ℕ) → ((k : ℕ) → k < n → f k ≡ g k) → nat_sum_below n f ≡ nat_sum_below n g
nat_sum-same zero f g h = refl
nat_sum-same (suc n) f g h = let a = nat_sum-same n f g (λ k l. h k (omega (arith, l))) in let b = h n (omega arith) in omega (arith, a, b)

pub nat_sum-term : (n : ℕ) (f : ℕ → ℕ) (k : ℕ) → k < n → f k ≤ nat_sum_below n f
nat_sum-term zero f k l = absurd (omega (arith, l))
nat_sum-term (suc n) f k l = ⊎_elim (λ m. let a = nat_sum-term n f k m in omega (arith, a)) (λ e. subst (λ t. f t ≤ nat_sum_below n f + f n) (sym e) (omega arith)) (last k n l)
  where
    last : (k n : ℕ) → k < suc n → (k < n) ⊎ (k ≡ n)
    last zero zero l = inr refl
    last zero (suc n) l = inl (omega arith)
    last (suc k) zero l = absurd (omega (arith, l))
    last (suc k) (suc n) l = ⊎_elim (λ a. inl (omega (arith, a))) (λ a. inr (omega (arith, a))) (last k n (omega (arith, l)))

pub nat_sum-bound : (n : ℕ) (f : ℕ → ℕ) (m : ℕ) → ((k : ℕ) → k < n → f k ≤ m) → nat_sum_below n f ≤ n * m
nat_sum-bound zero f m h = omega arith
nat_sum-bound (suc n) f m h = let a = nat_sum-bound n f m (λ k l. h k (omega (arith, l))) in let b = h n (omega arith) in rw (suc-mul n m) (omega (arith, a, b))
  where
    suc-mul : (n m : ℕ) → suc n * m ≡ n * m + m
    suc-mul n m = omega arith

pub abs_sum : (n : ℕ) (f : ℕ → ℤ) → nat_abs (sum_below integers n f) ≤ nat_sum_below n (λ k. nat_abs (f k))
abs_sum zero f = omega arith
abs_sum (suc n) f = let a = abs_sum n f in let b = abs_add (sum_below integers n f) (f n) in omega (arith, a, b)

pub pos_sum : (n : ℕ) (f : ℕ → ℕ) → sum_below integers n (λ k. pos (f k)) ≡ pos (nat_sum_below n f)
pos_sum zero f = refl
pos_sum (suc n) f = ap (λ t. t +ℤ pos (f n)) (pos_sum n f)

-- ---- matrices of a size
module _ (n : ℕ) where
  pub product-size : (M N : Matrix ℤ) → IsOfSize n M → IsOfSize n N → IsOfSize n (product integers M N)
  product-size M N p q = record { height = p.height; width = q.width }

  entry-product : (M N : Matrix ℤ) → IsOfSize n M → IsOfSize n N → (i j : ℕ) → i < n → j < n → entry (pos 0) (product integers M N) i j ≡ product_entry integers M N i j
  entry-product M N p q i j a b = entry-table (pos 0) M.height N.width (product_entry integers M N) i j (subst (λ t. i < t) (sym p.height) a) (subst (λ t. j < t) (sym q.width) b)

  -- the size of a product is at most the product of the sizes
  pub abs_product : (M N : Matrix ℤ) → IsOfSize n M → IsOfSize n N → (i j : ℕ) → i < n → j < n → nat_abs (entry (pos 0) (product integers M N) i j) ≤ product_size integers M N i j
  abs_product M N p q i j a b =
      let s = abs_sum M.width (product_term integers M N i j) in
      let t = nat_sum-same M.width (λ k. nat_abs (product_term integers M N i j k)) (product_term_size integers M N i j) (λ k _. unsigned_abs-mul (entry (pos 0) M i k) (entry (pos 0) N k j)) in
      subst (λ e. nat_abs e ≤ product_size integers M N i j) (sym (entry-product M N p q i j a b)) (omega (arith, s, t))

  -- larger factors have a larger product of sizes
  pub product_size-mono : (M N A B : Matrix ℤ) → IsOfSize n M → IsOfSize n A → IsBelow n M A → IsBelow n N B → (i j : ℕ) → i < n → j < n → product_size integers M N i j ≤ product_size integers A B i j
  product_size-mono M N A B p q below below' i j a b =
      let w = p.width ∙ sym q.width in
      subst (λ t. nat_sum_below t (product_term_size integers M N i j) ≤ product_size integers A B i j) (sym w)
      (nat_sum-mono A.width (product_term_size integers M N i j) (product_term_size integers A B i j) (λ k l.
      (let m = subst (λ t. k < t) q.width l in
      le_trans (mul-le-mul_right (nat_abs (entry (pos 0) N k j)) (below i k a m)) (mul-le-mul_left (nat_abs (entry (pos 0) A i k)) (below' k j m b)))))

  -- a product of matrices with no entry below 0 has the product of the sizes
  natural_entry : (A B : Matrix ℤ) → IsOfSize n A → IsOfSize n B → IsNatural n A → IsNatural n B → (i j : ℕ) → i < n → j < n → entry (pos 0) (product integers A B) i j ≡ pos (product_size integers A B i j)
  natural_entry A B p q u v i j a b =
      entry-product A B p q i j a b
      ∙ sum-same' A.width (product_term integers A B i j) (λ k. pos (product_term_size integers A B i j k)) (λ k l.
      (let m = subst (λ t. k < t) p.width l in
      ap (λ t. t *ℤ entry (pos 0) B k j) (u i k a m) ∙ ap (λ t. pos (nat_abs (entry (pos 0) A i k)) *ℤ t) (v k j m b)))
      ∙ pos_sum A.width (product_term_size integers A B i j)
    where
      sum-same' : (m : ℕ) (f g : ℕ → ℤ) → ((k : ℕ) → k < m → f k ≡ g k) → sum_below integers m f ≡ sum_below integers m g
      sum-same' zero f g h = refl
      sum-same' (suc m) f g h = let x = sum-same' m f g (λ k l. h k (omega (arith, l))) in let y = h m (omega arith) in cc

  pub natural_size : (A B : Matrix ℤ) → IsOfSize n A → IsOfSize n B → IsNatural n A → IsNatural n B → (i j : ℕ) → i < n → j < n → nat_abs (entry (pos 0) (product integers A B) i j) ≡ product_size integers A B i j
  natural_size A B p q u v i j a b = ap nat_abs (natural_entry A B p q u v i j a b)

  pub natural-product : (A B : Matrix ℤ) → IsOfSize n A → IsOfSize n B → IsNatural n A → IsNatural n B → IsNatural n (product integers A B)
  natural-product A B p q u v i j a b = natural_entry A B p q u v i j a b ∙ ap pos (sym (natural_size A B p q u v i j a b))

  pub below-product : (M N A B : Matrix ℤ) → IsOfSize n M → IsOfSize n N → IsOfSize n A → IsOfSize n B → IsNatural n A → IsNatural n B → IsBelow n M A → IsBelow n N B → IsBelow n (product integers M N) (product integers A B)
  below-product M N A B p q p' q' u v below below' i j a b =
      let x = abs_product M N p q i j a b in
      let y = product_size-mono M N A B p p' below below' i j a b in
      let z = natural_size A B p' q' u v i j a b in
      omega (arith, x, y, z)

  -- an entry grows in a product with a matrix that has a diagonal
  pub grows_right : (B A : Matrix ℤ) → IsOfSize n B → IsOfSize n A → IsNatural n B → IsNatural n A → HasDiagonal n A → IsBelow n B (product integers B A)
  grows_right B A p q u v d i j a b =
      let z = natural_size B A p q u v i j a b in
      let t = nat_sum-term B.width (product_term_size integers B A i j) j (subst (λ t. j < t) (sym p.width) b) in
      let m = mul-le-mul_left (nat_abs (entry (pos 0) B i j)) (d j b) in
      let one : nat_abs (entry (pos 0) B i j) * 1 ≡ nat_abs (entry (pos 0) B i j) = omega arith in
      omega (arith, z, t, m, one)

  pub diagonal-product : (A B : Matrix ℤ) → IsOfSize n A → IsOfSize n B → IsNatural n A → IsNatural n B → HasDiagonal n A → HasDiagonal n B → HasDiagonal n (product integers A B)
  diagonal-product A B p q u v c d j l =
      let g = grows_right A B p q u v d j j l l in
      let o = c j l in
      omega (arith, g, o)

  pub bounded-product : (m k : ℕ) (A B : Matrix ℤ) → IsOfSize n A → IsBoundedBy n m A → IsBoundedBy n k B → (i j : ℕ) → i < n → j < n → product_size integers A B i j ≤ n * (m * k)
  bounded-product m k A B p a b i j l r =
      subst (λ t. nat_sum_below t (product_term_size integers A B i j) ≤ n * (m * k)) (sym p.width)
      (nat_sum-bound n (product_term_size integers A B i j) (m * k) (λ c h. le_trans (mul-le-mul_right (nat_abs (entry (pos 0) B c j)) (a i c l h)) (mul-le-mul_left m (b c j h r))))

  -- ---- where a product is too wide
  not_deep : (M N : Matrix ℤ) (i j : ℕ) → ¬ IsDeepAt integers M N i j
  not_deep M N i j h = let d = h.deep in absurd (omega (arith, d))

  pub wide_size : (M N : Matrix ℤ) → IsOfSize n M → IsOfSize n N → IsWideProduct integers M N → (i : ℕ) × (j : ℕ) × (i < n) × (j < n) × (2 ^ 126 ≤ product_size integers M N i j)
  wide_size M N p q w = (w.row, w.col, subst (λ t. w.row < t) p.height w.row_within, subst (λ t. w.col < t) q.width w.col_within, ⊎_elim (λ h. h) (λ h. absurd (not_deep M N w.row w.col h)) w.here)

  pub not_wide : (M N : Matrix ℤ) → IsOfSize n M → IsOfSize n N → ((i j : ℕ) → i < n → j < n → product_size integers M N i j < 2 ^ 126) → ¬ IsWideProduct integers M N
  not_wide M N p q small w =
      let h = wide_size M N p q w in
      let s = small h.0 h.1 h.2 h.3 in
      absurd (omega (arith, s, h.4))
