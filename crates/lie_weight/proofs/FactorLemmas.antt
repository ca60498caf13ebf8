-- The matrices that conjugate root vectors: their sizes, and that the work on a matrix bounds its conjugate.
use Rattle.std.proofs.Common.{◌≡◌, ℕ, ◌^◌, ◌<◌, ◌≤◌, ℤ, pos, ◌*ℤ◌, nat_abs, refl, sym, ap, subst, ◌∙◌, arith, ⊎_elim}
use Rattle.std.proofs.lemmas.Int.{ints}
use Rattle.lie_ring.specs.Rings.{Fits}
use Rattle.lie_ring.specs.Integers.{integers}
use Rattle.lie_ring.specs.IntegerLaws.{integers_ring}
use Rattle.lie_ring.specs.Matrices.{Matrix, entry, product, scaled, zero_matrix, AllElem, AllFit, IsShaped}
use Rattle.lie_ring.specs.MatrixLemmas.{entry-table, table-same, table-shaped}
use Rattle.lie_ring.specs.MatrixLaws.{zero-product, product-zero}
use Rattle.lie_weight.specs.Kept.{IsSquare}
use Rattle.lie_mat.specs.Wide.{product_size, IsWideProduct}
use Rattle.lie_datum.proofs.Entries.{within_or_past}
use Rattle.lie_weight.specs.declared.factors.Factors.{Factors}
use Rattle.lie_mat.specs.Wide.{IsHugeMatrix}
use Rattle.lie_weight.specs.Conjugation.{absolute}
use Rattle.lie_weight.specs.Factors.{IsOfSize, IsBelow, IsNatural, IsBoundedBy, sandwich, work_on, AreFactors}
use Rattle.lie_weight.proofs.SizeLemmas.{product-size, product_size-mono, natural_size, natural-product, below-product, grows_right, bounded-product, wide_size, not_wide}

-- ---- the absolute values of a matrix
module _ (n : ℕ) (M : Matrix ℤ) (size : IsOfSize n M) where
  entry-absolute : (i j : ℕ) → i < n → j < n → entry (pos 0) (absolute M) i j ≡ pos (nat_abs (entry (pos 0) M i j))
  entry-absolute i j a b = entry-table (pos 0) M.height M.width (λ k l. pos (nat_abs (entry (pos 0) M k l))) i j (subst (λ t. i < t) (sym size.height) a) (subst (λ t. j < t) (sym size.width) b)

  pub absolute-size : IsOfSize n (absolute M)
  absolute-size = record { height = size.height; width = size.width }

  pub absolute_natural : IsNatural n (absolute M)
  absolute_natural i j a b = let e = entry-absolute i j a b in e ∙ ap (λ t. pos (nat_abs t)) (sym e)

  pub below_absolute : IsBelow n M (absolute M)
  below_absolute i j a b = let e = ap nat_abs (entry-absolute i j a b) in omega (arith, e)

-- ---- products of three
pub below_itself : (n : ℕ) (A : Matrix ℤ) → IsBelow n A A
below_itself n A i j a b = omega arith

module _ (n : ℕ) (few : n ≤ 1024) (A B P Q : Matrix ℤ) (sA : IsOfSize n A) (sB : IsOfSize n B) (sP : IsOfSize n P) (sQ : IsOfSize n Q) (nA : IsNatural n A) (nB : IsNatural n B) (bA : IsBoundedBy n 1601 A) (bB : IsBoundedBy n 1601 B) (PA : IsBelow n P A) (QB : IsBelow n Q B) where
  -- the inner product is small
  pub inner_small : (i j : ℕ) → i < n → j < n → product_size integers Q P i j ≤ 2624717824
  inner_small i j a b =
      let m = product_size-mono n Q P B A sQ sB QB PA i j a b in
      let h = bounded-product n 1601 1601 B A sB bB bA i j a b in
      omega (arith, m, h, few)

  inner_bounded : IsBoundedBy n 2624717824 (product integers B A)
  inner_bounded i j a b =
      let h = bounded-product n 1601 1601 B A sB bB bA i j a b in
      let e = natural_size n B A sB sA nB nA i j a b in
      omega (arith, h, e, few)

  inner_below : IsBelow n (product integers Q P) (product integers B A)
  inner_below = below-product n Q P B A sQ sP sB sA nB nA QB PA

  -- and so is the outer one
  pub outer_small : (i j : ℕ) → i < n → j < n → product_size integers P (product integers Q P) i j ≤ 4303025393893376
  outer_small i j a b =
      let m = product_size-mono n P (product integers Q P) A (product integers B A) sP sA PA inner_below i j a b in
      let h = bounded-product n 1601 2624717824 A (product integers B A) sA bA inner_bounded i j a b in
      omega (arith, m, h, few)

  pub inner_narrow : ¬ IsWideProduct integers Q P
  inner_narrow = not_wide n Q P sQ sP (λ i j a b. let h = inner_small i j a b in omega (arith, h))

  pub outer_narrow : ¬ IsWideProduct integers P (product integers Q P)
  outer_narrow = not_wide n P (product integers Q P) sP (product-size n Q P sQ sP) (λ i j a b. let h = outer_small i j a b in omega (arith, h))

  pub sandwich_below : IsBelow n (sandwich P Q) (sandwich A B)
  sandwich_below = below-product n P (product integers Q P) A (product integers B A) sP (product-size n Q P sQ sP) sA (product-size n B A sB sA) nA (natural-product n B A sB sA nB nA) PA inner_below

-- ---- the work on a matrix bounds its conjugate
module _ (n : ℕ) (w : Factors) (f : AreFactors n w) (M : Matrix ℤ) (size : IsOfSize n M) where
  abbrev half : Matrix ℤ
  half = product integers w.absolute (absolute M)

  half_size : IsOfSize n half
  half_size = product-size n w.absolute (absolute M) f.absolute_size (absolute-size n M size)

  half_natural : IsNatural n half
  half_natural = natural-product n w.absolute (absolute M) f.absolute_size (absolute-size n M size) f.natural (absolute_natural n M size)

  half_grows : IsBelow n half (work_on w.absolute M)
  half_grows = grows_right n half w.absolute half_size f.absolute_size half_natural f.natural f.diagonal

  huge_at : (i j : ℕ) → i < n → j < n → 2 ^ 126 ≤ nat_abs (entry (pos 0) (work_on w.absolute M) i j) → IsHugeMatrix (work_on w.absolute M)
  huge_at i j a b h = record { row = i; col = j; row_within = subst (λ t. i < t) (sym f.absolute_size.height) a; col_within = subst (λ t. j < t) (sym f.absolute_size.width) b; huge = h }

  -- where one of the two products of absolute values is too wide, the work is huge
  pub half_wide : IsWideProduct integers w.absolute (absolute M) → IsHugeMatrix (work_on w.absolute M)
  half_wide wide =
      let h = wide_size n w.absolute (absolute M) f.absolute_size (absolute-size n M size) wide in
      let e = natural_size n w.absolute (absolute M) f.absolute_size (absolute-size n M size) f.natural (absolute_natural n M size) h.0 h.1 h.2 h.3 in
      let g = half_grows h.0 h.1 h.2 h.3 in
      huge_at h.0 h.1 h.2 h.3 (omega (arith, h.4, e, g))

  pub work_wide : IsWideProduct integers half w.absolute → IsHugeMatrix (work_on w.absolute M)
  work_wide wide =
      let h = wide_size n half w.absolute half_size f.absolute_size wide in
      let e = natural_size n half w.absolute half_size f.absolute_size half_natural f.natural h.0 h.1 h.2 h.3 in
      huge_at h.0 h.1 h.2 h.3 (omega (arith, h.4, e))

  -- where the work is a matrix that a call may be handed, it is not huge
  pub work_fits : AllFit integers (work_on w.absolute M) → ¬ IsHugeMatrix (work_on w.absolute M)
  work_fits fit h = let s = (fit h.row h.col h.row_within h.col_within).1 in let l = h.huge in absurd (omega (arith, s, l))

  -- and where it is not huge, the conjugate is not too wide
  module _ (narrow : ¬ IsHugeMatrix (work_on w.absolute M)) where
    work_small : (i j : ℕ) → i < n → j < n → nat_abs (entry (pos 0) (work_on w.absolute M) i j) < 2 ^ 126
    work_small i j a b = ⊎_elim (λ l. l) (λ l. absurd (narrow (huge_at i j a b l))) (within_or_past (nat_abs (entry (pos 0) (work_on w.absolute M) i j)) (2 ^ 126))

    pub left_narrow : ¬ IsWideProduct integers w.element M
    left_narrow = not_wide n w.element M f.element_size size (λ i j a b.
        (let m = product_size-mono n w.element M w.absolute (absolute M) f.element_size f.absolute_size f.element_below (below_absolute n M size) i j a b in
        let e = natural_size n w.absolute (absolute M) f.absolute_size (absolute-size n M size) f.natural (absolute_natural n M size) i j a b in
        let g = half_grows i j a b in
        let s = work_small i j a b in
        omega (arith, m, e, g, s)))

    pub whole_narrow : ¬ IsWideProduct integers (product integers w.element M) w.inverse
    whole_narrow = not_wide n (product integers w.element M) w.inverse (product-size n w.element M f.element_size size) f.inverse_size (λ i j a b.
        (let left = below-product n w.element M w.absolute (absolute M) f.element_size size f.absolute_size (absolute-size n M size) f.natural (absolute_natural n M size) f.element_below (below_absolute n M size) in
        let m = product_size-mono n (product integers w.element M) w.inverse half w.absolute (product-size n w.element M f.element_size size) half_size left f.inverse_below i j a b in
        let e = natural_size n half w.absolute half_size f.absolute_size half_natural f.natural i j a b in
        let s = work_small i j a b in
        omega (arith, m, e, s)))

-- ---- the zero matrix
all_elem : (M : Matrix ℤ) → AllElem integers M
all_elem M i j a b = refl

pub zero_not_huge : (n : ℕ) → ¬ IsHugeMatrix (zero_matrix (pos 0) n n)
zero_not_huge n h =
    let e = ap nat_abs (entry-table (pos 0) n n (λ _ _. pos 0) h.row h.col h.row_within h.col_within) in
    let l = h.huge in
    absurd (omega (arith, e, l))

absolute_zero : (n : ℕ) → absolute (zero_matrix (pos 0) n n) ≡ zero_matrix (pos 0) n n
absolute_zero n = table-same n n (λ i j. pos (nat_abs (entry (pos 0) (zero_matrix (pos 0) n n) i j))) (λ _ _. pos 0) (λ i j a b. ap (λ t. pos (nat_abs t)) (entry-table (pos 0) n n (λ _ _. pos 0) i j a b))

right_zero : (n : ℕ) (A : Matrix ℤ) → IsOfSize n A → product integers A (zero_matrix (pos 0) n n) ≡ zero_matrix (pos 0) n n
right_zero n A s =
    ap (λ t. product integers A (zero_matrix (pos 0) t n)) (sym s.width) ∙ product-zero integers integers_ring A n (all_elem A) ∙ ap (λ t. zero_matrix (pos 0) t n) s.height

left_zero : (n : ℕ) (A : Matrix ℤ) → IsOfSize n A → product integers (zero_matrix (pos 0) n n) A ≡ zero_matrix (pos 0) n n
left_zero n A s = zero-product integers integers_ring n n A (sym s.height) (all_elem A) ∙ ap (zero_matrix (pos 0) n) s.width

scaled_zero : (n : ℕ) (c : ℤ) → scaled integers c (zero_matrix (pos 0) n n) ≡ zero_matrix (pos 0) n n
scaled_zero n c = table-same n n (λ i j. c *ℤ entry (pos 0) (zero_matrix (pos 0) n n) i j) (λ _ _. pos 0) (λ i j a b. ap (λ t. c *ℤ t) (entry-table (pos 0) n n (λ _ _. pos 0) i j a b) ∙ (let h : c *ℤ pos 0 ≡ pos 0 = omega (arith, ints) in h))

-- the work on 0 is 0, and so are its conjugates
pub work_zero : (n : ℕ) (A : Matrix ℤ) → IsOfSize n A → work_on A (zero_matrix (pos 0) n n) ≡ zero_matrix (pos 0) n n
work_zero n A s = ap (λ t. product integers (product integers A t) A) (absolute_zero n) ∙ ap (λ t. product integers t A) (right_zero n A s) ∙ left_zero n A s

pub conjugate_zero : (n : ℕ) (A B : Matrix ℤ) (c : ℤ) → IsOfSize n A → IsOfSize n B → scaled integers c (product integers (product integers A (zero_matrix (pos 0) n n)) B) ≡ zero_matrix (pos 0) n n
conjugate_zero n A B c s t = ap (λ u. scaled integers c (product integers u B)) (right_zero n A s) ∙ ap (scaled integers c) (left_zero n B t) ∙ scaled_zero n c

pub zero_square : (n : ℕ) → IsSquare n (zero_matrix (pos 0) n n)
zero_square n = record {
  height = refl;
  width = refl;
  shaped = table-shaped (pos 0) n n (λ _ _. pos 0);
  fit = λ i j a b. subst (Fits integers) (sym (entry-table (pos 0) n n (λ _ _. pos 0) i j a b)) (refl, omega arith);
}

pub conjugate_size : (n : ℕ) (A M B : Matrix ℤ) (c : ℤ) → IsOfSize n A → IsOfSize n B → IsOfSize n (scaled integers c (product integers (product integers A M) B))
conjugate_size n A M B c s t = record { height = s.height; width = t.width }

pub conjugate_square : (n : ℕ) (A M B m : Matrix ℤ) (c : ℤ) → IsOfSize n A → IsOfSize n B → m ≡ scaled integers c (product integers (product integers A M) B) → AllFit integers m → IsSquare n m
conjugate_square n A M B m c s t e f = record {
  height = ap (λ (x : Matrix ℤ). x.height) e ∙ s.height;
  width = ap (λ (x : Matrix ℤ). x.width) e ∙ t.width;
  shaped = subst (λ (x : Matrix ℤ). IsShaped (pos 0) x) (sym e) (table-shaped (pos 0) A.height B.width (λ i j. c *ℤ entry (pos 0) (product integers (product integers A M) B) i j));
  fit = f;
}
