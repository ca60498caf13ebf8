-- The next entry of a column that is kept, and sums over those that are kept.
use Rattle.std.proofs.Common.{◌≡◌, ℕ, zero, suc, ◌+◌, ◌-◌, ◌<◌, ◌≤◌, List, ◌∷◌, length, get_or, refl, sym, ap, ◌∙◌, subst, arith, Some, None, Option, Result, Err, false}
use Rattle.std.proofs.lemmas.Bool.Decides.{nat_tests}
use Rattle.std.specs.Option.{unwrap_or, IsSome, IfSome}
use Rattle.std.specs.List.{slice_get}
use Rattle.std.specs.Result.{IsErrAnd}
use Rattle.std.specs.Map.{lookup}
use Rattle.std.specs.BTreeMap.{BTreeMap, is_at}
use Rattle.std.specs.Ordering.{nat_cmp, is_gt}
use Rattle.lie_ring.specs.Rings.{RingOn, IsElem, IsRing, sum_below}
use Rattle.lie_ring.specs.RingLemmas.{mul_zero}
use Rattle.lie_ring.specs.Matrices.{Matrix, entry, product_term}
use Rattle.lie_mat.specs.Columns.{matrix_of, IsKept}
use Rattle.lie_mat.specs.ColumnLemmas.{entry-matrix_of, stored-read}
use Rattle.lie_mat.specs.Kept.{AreZeros, IsNextKept}
use Rattle.lie_mat.specs.Wide.{nat_sum_below, product_term_size}

-- an order that is not greater
pub not_greater : (a b : ℕ) → is_gt (nat_cmp a b) ≡ false → a ≤ b
not_greater a b h = grind (arith, nat_tests)

pub at_most : (a b : ℕ) → a ≤ b → is_gt (nat_cmp a b) ≡ false
at_most a b h = grind (arith, nat_tests)

-- what is told of the first of a list
pub head-has : {X : Type 0} (P : X → Type 0) (r : List X) (e : X) (rest : List X) → r ≡ e ∷ rest → IfSome (slice_get r 0) P → P e
head-has P r e rest same told = subst (λ xs. IfSome (slice_get xs 0) P) same told

module _ {A : Type 0} (z : A) (h : ℕ) (columns : List (BTreeMap ℕ A)) (M : Matrix A) (view : matrix_of z h columns ≡ M) (kept : IsKept z h columns)
    (col : ℕ) (left : col < M.width) (m : BTreeMap ℕ A) (read : m ≡ get_or columns col m) (from : ℕ) where
  within_columns : col < length columns
  within_columns = omega (arith, left, ap (λ N. N.width) view)

  -- an entry of the column
  at_row : (k : ℕ) → k < M.height → entry z M k col ≡ unwrap_or (lookup (is_at (nat_cmp k)) m.entries) z
  at_row k p =
      ap (λ N. entry z N k col) (sym view)
      ∙ entry-matrix_of z h columns k col (omega (arith, p, ap (λ N. N.height) view)) within_columns
      ∙ ap (λ o. unwrap_or o z) (stored-read columns k col m within_columns read)

  -- where nothing is found
  pub none-kept : ((k : ℕ) → from ≤ k → lookup (is_at (nat_cmp k)) m.entries ≡ None) → AreZeros z M col from M.height
  none-kept none k a b = at_row k b ∙ ap (λ o. unwrap_or o z) (none k a)

  -- a row before the first
  before_first : (o : Option A) (row k : ℕ) → (IsSome o → row ≤ k) → k < row → unwrap_or o z ≡ z
  before_first None row k f p = refl
  before_first (Some x) row k f p = absurd (let q = f refl in omega (arith, q, p))

  -- where an entry is found
  pub next-kept : (row : ℕ) (e : A) → from ≤ row → lookup (is_at (nat_cmp row)) m.entries ≡ Some e
      → ((k : ℕ) → from ≤ k → IsSome (lookup (is_at (nat_cmp k)) m.entries) → row ≤ k) → IsNextKept z M col from row e
  next-kept row e after found first =
      let stands = stored-read columns row col m within_columns read ∙ found in
      let low : row < h = kept.within row col e stands in
      let within : row < M.height = omega (arith, low, ap (λ N. N.height) view) in
      record {
        after = after;
        within = within;
        here = sym (at_row row within ∙ ap (λ o. unwrap_or o z) found);
        nonzero = kept.nonzero row col e stands;
        before = λ k a b. at_row k (omega (arith, b, within)) ∙ before_first (lookup (is_at (nat_cmp k)) m.entries) row k (first k a) b;
      }

  -- rows are few
  pub few-rows : (row : ℕ) → row < M.height → row < 1024
  few-rows row p = omega (arith, p, kept.height, ap (λ N. N.height) view)

-- terms that are zero add nothing
pub sum-skip : {A : Type 0} (R : RingOn A) (ring : IsRing R) (a n : ℕ) (f : ℕ → A) → IsElem R (sum_below R a f) → ((k : ℕ) → a ≤ k → k < a + n → f k ≡ R.zero) → sum_below R (a + n) f ≡ sum_below R a f
sum-skip R ring a zero f p z = let e : a + zero ≡ a = omega arith in ap (λ k. sum_below R k f) e
sum-skip R ring a (suc n) f p z =
    let e : a + suc n ≡ suc (a + n) = omega arith in
    let before = sum-skip R ring a n f p (λ k b c. z k b (omega (arith, c))) in
    ap (λ k. sum_below R k f) e ∙ ap (R.add (sum_below R (a + n) f)) (z (a + n) (omega arith) (omega arith))
    ∙ ring.laws.add_zero (sum_below R (a + n) f) (subst (IsElem R) (sym before) p) ∙ before

-- the terms before it are within a sum of numbers
pub nat_sum-le : (f : ℕ → ℕ) (a n : ℕ) → nat_sum_below a f ≤ nat_sum_below (a + n) f
nat_sum-le f a zero = let e : a + zero ≡ a = omega arith in rw e (omega arith)
nat_sum-le f a (suc n) = let e : a + suc n ≡ suc (a + n) = omega arith in rw e (omega (arith, nat_sum-le f a n))

-- the next entry of column j of N that is kept, in the sum for row i of M
module _ {A : Type 0} (R : RingOn A) (ring : IsRing R) (M N : Matrix A) (i j from mid : ℕ) (after : from ≤ mid) (before : AreZeros R.zero N j from mid)
    (elem : (k : ℕ) → k < M.width → IsElem R (entry R.zero M i k)) (within : mid ≤ M.width) where
  skipped : (k : ℕ) → from ≤ k → k < from + (mid - from) → product_term R M N i j k ≡ R.zero
  skipped k a b = ap (R.mul (entry R.zero M i k)) (before k a (omega (arith, b, after))) ∙ mul_zero R ring.laws (entry R.zero M i k) (elem k (omega (arith, b, after, within)))

  here : from + (mid - from) ≡ mid
  here = omega (arith, after)

  -- the terms before it are zero
  pub sum-to : (s : A) → s ≡ sum_below R from (product_term R M N i j) → IsElem R s → sum_below R mid (product_term R M N i j) ≡ s
  sum-to s value p =
      ap (λ k. sum_below R k (product_term R M N i j)) (sym here)
      ∙ sum-skip R ring from (mid - from) (product_term R M N i j) (subst (IsElem R) value p) skipped ∙ sym value

  -- their sizes do not lessen the bound
  pub size-to : (s : A) → R.size s ≤ nat_sum_below from (product_term_size R M N i j) → R.size s ≤ nat_sum_below mid (product_term_size R M N i j)
  size-to s size = subst (λ k. R.size s ≤ nat_sum_below k (product_term_size R M N i j)) here (omega (arith, size, nat_sum-le (product_term_size R M N i j) from (mid - from)))

-- one more term
pub sum-more : {A : Type 0} (R : RingOn A) (n : ℕ) (f : ℕ → A) → sum_below R (n + 1) f ≡ R.add (sum_below R n f) (f n)
sum-more R n f = let e : n + 1 ≡ suc n = omega arith in ap (λ k. sum_below R k f) e

-- and its size
pub size-more : {A : Type 0} (R : RingOn A) (ring : IsRing R) (M N : Matrix A) (i j n : ℕ) (s : A) → IsElem R s → IsElem R (entry R.zero M i n) → IsElem R (entry R.zero N n j)
    → R.size s ≤ nat_sum_below n (product_term_size R M N i j) → R.size (R.add s (product_term R M N i j n)) ≤ nat_sum_below (n + 1) (product_term_size R M N i j)
size-more R ring M N i j n s p q r size =
    let x = entry R.zero M i n in
    let y = entry R.zero N n j in
    let e : n + 1 ≡ suc n = omega arith in
    let sum = ring.sized.size_add s (R.mul x y) p (ring.laws.mul_elem x y q r) in
    let product = ring.sized.size_mul x y q r in
    subst (λ k. R.size (R.add s (R.mul x y)) ≤ nat_sum_below k (product_term_size R M N i j)) (sym e) (omega (arith, sum, product, size))

-- what is told of an error
pub told-err : {T E : Type 0} (r : Result T E) (P : E → Type 0) (e : E) → IsErrAnd r P → r ≡ Err e → P e
told-err r P e told is = subst (λ x. IsErrAnd x P) is told
