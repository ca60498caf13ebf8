-- The sizes of factors as matrices of natural numbers, and where their products are huge.
use Rattle.std.proofs.Common.{◌≡◌, ℕ, zero, suc, ◌+◌, ◌-◌, ◌*◌, ◌^◌, ◌<◌, ◌≤◌, ℤ, pos, negsuc, ◌+ℤ◌, ◌*ℤ◌, nat_abs, List, [], ◌++◌, cond, eqb, true, false, Bool, refl, sym, ap, ap₂, subst, ◌∙◌, arith}
use Rattle.std.specs.Prelude.{◌≤ℤ◌}
use Rattle.std.proofs.Math.Nat.{pow-zero, pow-suc}
use Rattle.std.proofs.lemmas.Int.{ints}
use Rattle.std.proofs.lemmas.List.{append-nil}
use Rattle.std.proofs.lemmas.Bool.{eq-eqb}
use Rattle.lie_ring.specs.Rings.{RingOn, sum_below}
use Rattle.lie_ring.specs.Integers.{integers}
use Rattle.lie_ring.specs.Powers.{power}
use Rattle.lie_ring.specs.Matrices.{Matrix, entry, identity, product, AllFit}
use Rattle.lie_ring.specs.MatrixLemmas.{entry-table}
use Rattle.lie_mat.specs.Wide.{nat_sum_below, IsWideProduct, IsSomewhere, IsHugeMatrix}
use Rattle.lie_const.specs.Modules.{Module, dimension, top, divided_power}
use Rattle.lie_weight.specs.Factors.{IsOfSize, IsNatural}
use Rattle.lie_weight.proofs.SizeLemmas.{natural_size, grows_right, wide_size}
use Rattle.lie_identities.specs.AuditRelations.{Factor, size_entry, size_element, factor_size, side_size}
use Rattle.lie_identities.specs.Sizes.{size_term, partial_size, IsSizes}
use Rattle.lie_identities.proofs.GrowingSizes.{factor_nonnegative, factor_tall, factor_broad, side_nonnegative, side_tall, side_broad, sides-grow}

-- ---- the entries as natural numbers
power-natural : (n k : ℕ) → power integers (pos n) k ≡ pos (n ^ k)
power-natural n zero = sym (ap pos (pow-zero n))
power-natural n (suc k) = ap (λ z. z *ℤ pos n) (power-natural n k) ∙ ap pos (sym (pow-suc n k))

terms-natural : (v : Module) (r : ℤ) (n a b m : ℕ) → sum_below integers m (λ k. power integers (pos n) (suc k) *ℤ pos (nat_abs (entry (pos 0) (divided_power v r (suc k)) a b))) ≡ pos (nat_sum_below m (size_term v r n a b))
terms-natural v r n a b zero = refl
terms-natural v r n a b (suc m) =
    ap₂ ◌+ℤ◌ (terms-natural v r n a b m) (ap (λ z. z *ℤ pos (nat_abs (entry (pos 0) (divided_power v r (suc m)) a b))) (power-natural n (suc m)))

pub size_entry-natural : (v : Module) (r : ℤ) (n a b : ℕ) → size_entry v r n a b ≡ pos (partial_size v r n a b (top v r))
size_entry-natural v r n a b = ap₂ ◌+ℤ◌ (chosen (eqb a b)) (terms-natural v r n a b (top v r))
  where
    chosen : (t : Bool) → cond t (pos 1) (pos 0) ≡ pos (cond t 1 0)
    chosen true = refl
    chosen false = refl

-- more terms make no smaller sum
pub partial-grows : (v : Module) (r : ℤ) (n a b m l : ℕ) → m ≤ l → partial_size v r n a b m ≤ partial_size v r n a b l
partial-grows v r n a b m l h =
    let e : m + (l - m) ≡ l = omega (arith, h) in
    subst (λ k. partial_size v r n a b m ≤ partial_size v r n a b k) e (by (l - m))
  where
    by : (k : ℕ) → partial_size v r n a b m ≤ partial_size v r n a b (m + k)
    by zero = let e : m + zero ≡ m = omega arith in subst (λ k. partial_size v r n a b m ≤ partial_size v r n a b k) (sym e) (omega arith)
    by (suc k) =
        let e : m + suc k ≡ suc (m + k) = omega arith in
        let g = by k in
        subst (λ j. partial_size v r n a b m ≤ partial_size v r n a b j) (sym e) (omega (arith, g))

-- where an entry of the size of X_r(f) is wide, the size is huge
pub root-huge : (v : Module) (r : ℤ) (n : ℕ) → IsSomewhere (dimension v) (dimension v) (λ a b. 2 ^ 126 ≤ partial_size v r n a b (top v r)) → IsHugeMatrix (size_element v r n)
root-huge v r n w =
    let e = entry-table (pos 0) (dimension v) (dimension v) (size_entry v r n) w.row w.col w.row_within w.col_within ∙ size_entry-natural v r n w.row w.col in
    record { row = w.row; col = w.col; row_within = w.row_within; col_within = w.col_within; huge = subst (λ z. 2 ^ 126 ≤ nat_abs z) (sym e) w.here }

-- ---- products
natural-from : (z : ℤ) → pos 0 ≤ℤ z → z ≡ pos (nat_abs z)
natural-from (pos n) h = refl
natural-from (negsuc n) h = absurd (omega (arith, ints, h))

module _ {A : Type 0} (R : RingOn A) (v : Module) where
  factor-size : (x : Factor A) → IsOfSize (dimension v) (factor_size R v x)
  factor-size x = record { height = factor_tall v R x; width = factor_broad v R x }

  factor-natural : (x : Factor A) → IsNatural (dimension v) (factor_size R v x)
  factor-natural x i j a b = natural-from (entry (pos 0) (factor_size R v x) i j) (factor_nonnegative v R x i j (subst (λ n. i < n) (sym (factor_tall v R x)) a) (subst (λ n. j < n) (sym (factor_broad v R x)) b))

  -- a product of sizes
  pub side-sizes : (xs : List (Factor A)) → IsSizes (dimension v) (side_size R v xs)
  side-sizes xs = record {
    size = record { height = side_tall v R xs; width = side_broad v R xs };
    natural = λ i j a b. natural-from (entry (pos 0) (side_size R v xs) i j) (side_nonnegative v R xs i j (subst (λ n. i < n) (sym (side_tall v R xs)) a) (subst (λ n. j < n) (sym (side_broad v R xs)) b));
    diagonal = λ j l. diagonal j l;
  }
    where
      diagonal : (j : ℕ) → j < dimension v → 1 ≤ nat_abs (entry (pos 0) (side_size R v xs) j j)
      diagonal j l =
          let g = subst (λ ys. entry (pos 0) (identity integers (dimension v)) j j ≤ℤ entry (pos 0) (side_size R v ys) j j) (append-nil xs) (sides-grow v R xs [] j j l l) in
          let one : entry (pos 0) (identity integers (dimension v)) j j ≡ pos 1 = entry-table (pos 0) (dimension v) (dimension v) (λ i j. cond (eqb i j) (pos 1) (pos 0)) j j l l ∙ ap (λ b. cond b (pos 1) (pos 0)) (eq-eqb j j refl) in
          omega (arith, ints, g, one)

  -- more factors in front
  pub side-huge : (ys xs : List (Factor A)) → IsHugeMatrix (side_size R v xs) → IsHugeMatrix (side_size R v (ys ++ xs))
  side-huge ys xs h =
      let a : h.row < dimension v = subst (λ n. h.row < n) (side_tall v R xs) h.row_within in
      let b : h.col < dimension v = subst (λ n. h.col < n) (side_broad v R xs) h.col_within in
      let g = sides-grow v R ys xs h.row h.col a b in
      let low = side_nonnegative v R xs h.row h.col h.row_within h.col_within in
      let huge = h.huge in
      record {
        row = h.row;
        col = h.col;
        row_within = subst (λ n. h.row < n) (sym (side_tall v R (ys ++ xs))) a;
        col_within = subst (λ n. h.col < n) (sym (side_broad v R (ys ++ xs))) b;
        huge = omega (arith, ints, g, low, huge);
      }

  module _ (x : Factor A) (N : Matrix ℤ) (sizes : IsSizes (dimension v) N) where
    tall : (product integers (factor_size R v x) N).height ≡ dimension v
    tall = factor_tall v R x

    broad : (product integers (factor_size R v x) N).width ≡ dimension v
    broad = sizes.size.width

    -- where the size of a factor is huge, so is its product
    pub factor-huge : IsHugeMatrix (factor_size R v x) → IsHugeMatrix (product integers (factor_size R v x) N)
    factor-huge h =
        let a : h.row < dimension v = subst (λ n. h.row < n) (factor_tall v R x) h.row_within in
        let b : h.col < dimension v = subst (λ n. h.col < n) (factor_broad v R x) h.col_within in
        let g = grows_right (dimension v) (factor_size R v x) N (factor-size x) sizes.size (factor-natural x) sizes.natural sizes.diagonal h.row h.col a b in
        let huge = h.huge in
        record {
          row = h.row;
          col = h.col;
          row_within = subst (λ n. h.row < n) (sym tall) a;
          col_within = subst (λ n. h.col < n) (sym broad) b;
          huge = omega (arith, g, huge);
        }

    -- where the product is too wide, it is huge
    pub product-huge : IsWideProduct integers (factor_size R v x) N → IsHugeMatrix (product integers (factor_size R v x) N)
    product-huge w =
        let h = wide_size (dimension v) (factor_size R v x) N (factor-size x) sizes.size w in
        let e = natural_size (dimension v) (factor_size R v x) N (factor-size x) sizes.size (factor-natural x) sizes.natural h.0 h.1 h.2 h.3 in
        let wide = h.4 in
        record {
          row = h.0;
          col = h.1;
          row_within = subst (λ n. h.0 < n) (sym tall) h.2;
          col_within = subst (λ n. h.1 < n) (sym broad) h.3;
          huge = omega (arith, e, wide);
        }

-- a matrix whose entries may be handed to a call is not huge
pub fit-small : (M : Matrix ℤ) → AllFit integers M → ¬ IsHugeMatrix M
fit-small M fit h =
    let l = (fit h.row h.col h.row_within h.col_within).1 in
    let g = h.huge in
    absurd (omega (arith, l, g))

-- ---- entries that are added
-- an entry that is 0 adds nothing
pub nothing-added : (s p : ℕ) (e : ℤ) → e ≡ pos 0 → s ≡ s + p * nat_abs e
nothing-added s p e h = none s p ∙ ap (λ z. s + p * nat_abs z) (sym h)
  where
    none : (s p : ℕ) → s ≡ s + p * 0
    none s p = omega arith

-- another has an absolute value of 1 at least
pub some-added : (e : ℤ) → ¬ (e ≡ pos 0) → 1 ≤ nat_abs e
some-added (pos zero) h = absurd (h refl)
some-added (pos (suc n)) h = omega arith
some-added (negsuc n) h = omega arith

-- one term more
pub partial-more : (v : Module) (r : ℤ) (n a b k : ℕ) → partial_size v r n a b k + n ^ (k + 1) * nat_abs (entry (pos 0) (divided_power v r (k + 1)) a b) ≡ partial_size v r n a b (k + 1)
partial-more v r n a b k =
    let e : k + 1 ≡ suc k = omega arith in
    subst (λ j. partial_size v r n a b k + n ^ j * nat_abs (entry (pos 0) (divided_power v r j) a b) ≡ partial_size v r n a b j) (sym e) (last (cond (eqb a b) 1 0) (nat_sum_below k (size_term v r n a b)) (size_term v r n a b k))
  where
    last : (x y z : ℕ) → x + y + z ≡ x + (y + z)
    last x y z = omega arith
