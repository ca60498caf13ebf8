-- The matrices of a tensor product: their entries, their sizes, and that the sizes bound all that leads to them.
use Rattle.std.proofs.Common.{◌≡◌, ◌≢◌, ℕ, zero, suc, ◌+◌, ◌-◌, ◌*◌, ◌/◌, ◌%◌, ◌^◌, ◌<◌, ◌≤◌, ℤ, pos, ◌*ℤ◌, nat_abs, List, [], length, refl, sym, ap, ap₂, subst, ◌∙◌, arith, ⊎_elim, Bool, true, false, cond, eqb, Result, Ok, Err}
use Rattle.std.specs.Prelude.{IfOk}
use Rattle.std.proofs.lemmas.Bool.{eq-eqb, ne_eqb}
use Rattle.std.proofs.lemmas.Int.{ints, unsigned_abs-mul}
use Rattle.std.proofs.lemmas.Nat.{div_below, mod_below}
use Rattle.std.proofs.lemmas.List.{get_or_past}
use Rattle.std.specs.List.{All}
use Rattle.lie_ring.specs.Rings.{Fits}
use Rattle.lie_ring.specs.Integers.{integers}
use Rattle.lie_ring.specs.Matrices.{Matrix, table, entry, kronecker_entry, identity, zero_matrix, AllFit, IsShaped}
use Rattle.lie_ring.specs.MatrixLemmas.{entry-table, table-same, table-shaped}
use Rattle.lie_ring.specs.SumLemmas.{sum-same, factor_positive}
use Rattle.lie_mat.specs.Wide.{nat_sum_below, IsHugeMatrix}
use Rattle.lie_datum.specs.Numbers.{place}
use Rattle.lie_datum.proofs.Entries.{within_or_past}
use Rattle.lie_const.specs.Modules.{Module, dimension, divided_powers, divided_power, top}
use Rattle.lie_weight.specs.Kept.{IsSquare, ArePowers, IsKeptModule}
use Rattle.lie_weight.specs.Factors.{IsOfSize}
use Rattle.lie_weight.specs.Completion.{matrix_at, IsTrimmed}
use Rattle.lie_weight.specs.Tensors.{tensor_power, tensor_size}
use Rattle.lie_weight.specs.TensorParts.{factor, tensor_term, tensor_sum, tensor_entry, IsFirstHugeProduct, AreTensorPowers}
use Rattle.lie_weight.proofs.PowerLemmas.{int_sum-zeros}
use Rattle.lie_weight.proofs.SizeLemmas.{nat_sum-same, abs_sum, pos_sum}
use Rattle.lie_weight.proofs.FactorLemmas.{zero_square, zero_not_huge}
use Rattle.lie_weight.proofs.DraftLemmas.{past_end, past_top, AreFirst}

-- ---- what is told of a call
pub told_ok : {A E : Type 0} (P Q : A → Type 0) (r : Result A E) → IfOk r P → ((x : A) → P x → Q x) → IfOk r Q
told_ok P Q (Ok x) h f = f x h
told_ok P Q (Err e) h f = tt

pub le_product : (m a b c d t : ℕ) → m ≤ a * b → a ≡ c → b ≡ d → t ≡ c * d → m ≤ t
le_product m a b c d t h e f g = subst (λ u. m ≤ u) (ap₂ (λ x y. x * y) e f ∙ sym g) h

pub le_sum : (m a b c d : ℕ) → m ≤ a + b → a ≡ c → b ≡ d → m ≤ c + d
le_sum m a b c d h e f = subst (λ u. m ≤ u) (ap₂ (λ x y. x + y) e f) h

pub times_zero : (x y : ℤ) → x ≡ pos 0 → x *ℤ y ≡ pos 0
times_zero x y e = ap (λ t. t *ℤ y) e ∙ (let z : pos 0 *ℤ y ≡ pos 0 = omega (arith, ints) in z)

-- ---- the matrices of a module that is kept
unit_fits : (b : Bool) → Fits integers (cond b (pos 1) (pos 0))
unit_fits true = (refl, omega arith)
unit_fits false = (refl, omega arith)

one_square : (n : ℕ) → IsSquare n (identity integers n)
one_square n = record {
  height = refl;
  width = refl;
  shaped = table-shaped (pos 0) n n (λ i j. cond (eqb i j) (pos 1) (pos 0));
  fit = λ i j a b. subst (Fits integers) (sym (entry-table (pos 0) n n (λ k l. cond (eqb k l) (pos 1) (pos 0)) i j a b)) (unit_fits (eqb i j));
}

module _ (v : Module) (kept : IsKeptModule v) where
  kept_powers : (r : ℤ) → ArePowers (dimension v) (divided_powers v r)
  kept_powers r = ⊎_elim
      (λ l. kept.powers (place v.positive r) [] l)
      (λ l. subst (ArePowers (dimension v)) (sym (get_or_past v.powers (place v.positive r) [] l)) (record { few = omega arith; squares = λ k z m. absurd (omega (arith, m)) }))
      (within_or_past (place v.positive r) (length v.powers))

  pub top_few : (r : ℤ) → top v r ≤ 16 * (dimension v - 1)
  top_few r = (kept_powers r).few

  -- E_r^(k) is a square matrix
  pub power_square : (r : ℤ) (k : ℕ) → IsSquare (dimension v) (divided_power v r k)
  power_square r zero = one_square (dimension v)
  power_square r (suc k) = ⊎_elim
      (λ l. (kept_powers r).squares k (zero_matrix (pos 0) (dimension v) (dimension v)) l)
      (λ l. subst (IsSquare (dimension v)) (sym (past_top v r k l)) (zero_square (dimension v)))
      (within_or_past k (top v r))

  pub factor_size : (s : Bool) (r : ℤ) (k : ℕ) → IsOfSize (dimension v) (factor s v r k)
  factor_size true r k = let q = power_square r k in record { height = q.height; width = q.width }
  factor_size false r k = let q = power_square r k in record { height = q.height; width = q.width }

  module _ (r : ℤ) (k a b : ℕ) (p : a < dimension v) (q : b < dimension v) where
    -- the absolute value of an entry
    pub factor-sizes : entry (pos 0) (factor true v r k) a b ≡ pos (nat_abs (entry (pos 0) (divided_power v r k) a b))
    factor-sizes =
        let M = divided_power v r k in
        let s = power_square r k in
        entry-table (pos 0) M.height M.width (λ i j. pos (nat_abs (entry (pos 0) M i j))) a b (subst (λ t. a < t) (sym s.height) p) (subst (λ t. b < t) (sym s.width) q)

    -- has the same size
    factor_abs : (s : Bool) → nat_abs (entry (pos 0) (factor s v r k) a b) ≡ nat_abs (entry (pos 0) (factor true v r k) a b)
    factor_abs true = refl
    factor_abs false = sym (ap nat_abs factor-sizes)

    factor_none : (s : Bool) → divided_power v r k ≡ zero_matrix (pos 0) (dimension v) (dimension v) → entry (pos 0) (factor s v r k) a b ≡ pos 0
    factor_none s z = by s
      where
        plain : entry (pos 0) (divided_power v r k) a b ≡ pos 0
        plain = ap (λ M. entry (pos 0) M a b) z ∙ entry-table (pos 0) (dimension v) (dimension v) (λ _ _. pos 0) a b p q

        by : (s : Bool) → entry (pos 0) (factor s v r k) a b ≡ pos 0
        by true = factor-sizes ∙ ap (λ t. pos (nat_abs t)) plain
        by false = plain

    -- an entry that calls may be handed
    pub power_fits : nat_abs (entry (pos 0) (divided_power v r k) a b) < 2 ^ 126
    power_fits = let M = divided_power v r k in let s = power_square r k in (s.fit a b (subst (λ t. a < t) (sym s.height) p) (subst (λ t. b < t) (sym s.width) q)).1

-- an entry of E_r^(0), and of a power past the last
module _ (v : Module) (r : ℤ) (k a b : ℕ) (p : a < dimension v) (q : b < dimension v) where
  unit_entry : k ≡ 0 → entry (pos 0) (divided_power v r k) a b ≡ cond (eqb a b) (pos 1) (pos 0)
  unit_entry z = ap (λ t. entry (pos 0) (divided_power v r t) a b) z ∙ entry-table (pos 0) (dimension v) (dimension v) (λ i j. cond (eqb i j) (pos 1) (pos 0)) a b p q

  pub one_entry : k ≡ 0 → a ≡ b → pos 1 ≡ entry (pos 0) (divided_power v r k) a b
  one_entry z e = sym (unit_entry z ∙ ap (λ t. cond t (pos 1) (pos 0)) (eq-eqb a b e))

  pub off_entry : k ≡ 0 → a ≢ b → pos 0 ≡ entry (pos 0) (divided_power v r k) a b
  off_entry z e = sym (unit_entry z ∙ ap (λ t. cond t (pos 1) (pos 0)) (ne_eqb a b e))

  pub past_entry : top v r < k → pos 0 ≡ entry (pos 0) (divided_power v r k) a b
  past_entry l =
      let e : k ≡ suc (k - 1) = omega (arith, l) in
      let z = ap (divided_power v r) e ∙ past_top v r (k - 1) (omega (arith, l)) in
      sym (ap (λ M. entry (pos 0) M a b) z ∙ entry-table (pos 0) (dimension v) (dimension v) (λ _ _. pos 0) a b p q)

-- ---- one entry
module _ (v w : Module) (kv : IsKeptModule v) (kw : IsKeptModule w) (r : ℤ) (k a b : ℕ) (p : a < dimension v * dimension w) (q : b < dimension v * dimension w) where
  some : 0 < dimension w
  some = factor_positive (dimension v) (dimension w) a p

  pub row_block : a / dimension w < dimension v
  row_block = div_below a (dimension w) (dimension v) some p

  pub col_block : b / dimension w < dimension v
  col_block = div_below b (dimension w) (dimension v) some q

  pub row_in : a % dimension w < dimension w
  row_in = mod_below a (dimension w) some

  pub col_in : b % dimension w < dimension w
  col_in = mod_below b (dimension w) some

  -- a term is the product of an entry of each
  pub term-product : (s : Bool) (i : ℕ) →
      tensor_term s v w r k a b i ≡ entry (pos 0) (factor s v r i) (a / dimension w) (b / dimension w) *ℤ entry (pos 0) (factor s w r (k - i)) (a % dimension w) (b % dimension w)
  term-product s i =
      let M = factor s v r i in
      let N = factor s w r (k - i) in
      let m = factor_size v kv s r i in
      let n = factor_size w kw s r (k - i) in
      entry-table (pos 0) (M.height * N.height) (M.width * N.width) (kronecker_entry integers M N) a b
      (subst (λ t. a < t) (sym (ap₂ (λ x y. x * y) m.height n.height)) p) (subst (λ t. b < t) (sym (ap₂ (λ x y. x * y) m.width n.width)) q)
      ∙ ap₂ (λ x y. entry (pos 0) M (a / x) (b / y) *ℤ entry (pos 0) N (a % x) (b % y)) n.height n.width

  pub term_abs : (s : Bool) (i : ℕ) → nat_abs (tensor_term s v w r k a b i) ≡
      nat_abs (entry (pos 0) (factor s v r i) (a / dimension w) (b / dimension w)) * nat_abs (entry (pos 0) (factor s w r (k - i)) (a % dimension w) (b % dimension w))
  term_abs s i = ap nat_abs (term-product s i) ∙ unsigned_abs-mul (entry (pos 0) (factor s v r i) (a / dimension w) (b / dimension w)) (entry (pos 0) (factor s w r (k - i)) (a % dimension w) (b % dimension w))

  -- it has the size of the term of the absolute values
  pub term_same : (s : Bool) (i : ℕ) → nat_abs (tensor_term s v w r k a b i) ≡ nat_abs (tensor_term true v w r k a b i)
  term_same s i =
      term_abs s i
      ∙ ap₂ (λ x y. x * y) (factor_abs v kv r i (a / dimension w) (b / dimension w) row_block col_block s) (factor_abs w kw r (k - i) (a % dimension w) (b % dimension w) row_in col_in s)
      ∙ sym (term_abs true i)

  -- which is not below 0
  term_natural : (i : ℕ) → tensor_term true v w r k a b i ≡ pos (nat_abs (tensor_term true v w r k a b i))
  term_natural i =
      let e = term-product true i ∙ ap₂ ◌*ℤ◌ (factor-sizes v kv r i (a / dimension w) (b / dimension w) row_block col_block) (factor-sizes w kw r (k - i) (a % dimension w) (b % dimension w) row_in col_in) in
      e ∙ ap (λ t. pos (nat_abs t)) (sym e)

  abbrev size_below : ℕ → ℕ
  size_below n = nat_sum_below n (λ i. nat_abs (tensor_term true v w r k a b i))

  sizes_sum : (n : ℕ) → tensor_sum true v w r k a b n ≡ pos (size_below n)
  sizes_sum n = sum-same integers n (tensor_term true v w r k a b) (λ i. pos (nat_abs (tensor_term true v w r k a b i))) (λ i _. term_natural i) ∙ pos_sum n (λ i. nat_abs (tensor_term true v w r k a b i))

  -- the sum of the sizes bounds the sum
  pub sum_below_sizes : (s : Bool) (n : ℕ) → nat_abs (tensor_sum s v w r k a b n) ≤ nat_abs (tensor_sum true v w r k a b n)
  sum_below_sizes s n =
      let l = abs_sum n (tensor_term s v w r k a b) in
      let m = nat_sum-same n (λ i. nat_abs (tensor_term s v w r k a b i)) (λ i. nat_abs (tensor_term true v w r k a b i)) (λ i _. term_same s i) in
      let e = ap nat_abs (sizes_sum n) in
      omega (arith, l, m, e)

  sizes_grow : (m n : ℕ) → m ≤ n → size_below m ≤ size_below n
  sizes_grow m zero l = let e : m ≡ 0 = omega (arith, l) in subst (λ t. size_below t ≤ size_below 0) (sym e) (omega arith)
  sizes_grow m (suc n) l = ⊎_elim (λ h. (let g = sizes_grow m n (omega (arith, h)) in omega (arith, g))) (λ h. (let e : m ≡ suc n = omega (arith, l, h) in subst (λ t. size_below t ≤ size_below (suc n)) (sym e) (omega arith))) (within_or_past m (suc n))

  -- where a step is too wide, so is the size
  pub wide_sum : (s : Bool) (i : ℕ) → i ≤ k → 2 ^ 126 ≤ nat_abs (tensor_sum s v w r k a b i) + nat_abs (tensor_term s v w r k a b i) → 2 ^ 126 ≤ nat_abs (tensor_entry true v w r k a b)
  wide_sum s i l h =
      let x = sum_below_sizes s i in
      let e = ap nat_abs (sizes_sum i) in
      let t = term_same s i in
      let g = sizes_grow (suc i) (suc k) (omega (arith, l)) in
      let z = ap nat_abs (sizes_sum (suc k)) in
      omega (arith, h, x, e, t, g, z)

  pub wide_term : (s : Bool) (i : ℕ) → i ≤ k → 2 ^ 126 ≤ nat_abs (tensor_term s v w r k a b i) → 2 ^ 126 ≤ nat_abs (tensor_entry true v w r k a b)
  wide_term s i l h = wide_sum s i l (omega (arith, h))

  -- past the last matrices of both all terms are 0
  term_none : (s : Bool) (i : ℕ) → top v r + top w r < k → tensor_term s v w r k a b i ≡ pos 0
  term_none s i l = ⊎_elim
      (λ h. (let e : i ≡ suc (i - 1) = omega (arith, h) in
      let z = ap (divided_power v r) e ∙ past_top v r (i - 1) (omega (arith, h)) in
      term-product s i ∙ ap (λ t. t *ℤ entry (pos 0) (factor s w r (k - i)) (a % dimension w) (b % dimension w)) (factor_none v kv r i (a / dimension w) (b / dimension w) row_block col_block s z) ∙ zero_left (entry (pos 0) (factor s w r (k - i)) (a % dimension w) (b % dimension w))))
      (λ h. (let e : k - i ≡ suc (k - i - 1) = omega (arith, h, l) in
      let z = ap (divided_power w r) e ∙ past_top w r (k - i - 1) (omega (arith, h, l)) in
      term-product s i ∙ ap (λ t. entry (pos 0) (factor s v r i) (a / dimension w) (b / dimension w) *ℤ t) (factor_none w kw r (k - i) (a % dimension w) (b % dimension w) row_in col_in s z) ∙ zero_right (entry (pos 0) (factor s v r i) (a / dimension w) (b / dimension w))))
      (within_or_past (top v r) i)
    where
      zero_left : (x : ℤ) → pos 0 *ℤ x ≡ pos 0
      zero_left x = omega (arith, ints)

      zero_right : (x : ℤ) → x *ℤ pos 0 ≡ pos 0
      zero_right x = omega (arith, ints)

  pub entry_none : (s : Bool) → top v r + top w r < k → tensor_entry s v w r k a b ≡ pos 0
  entry_none s l = int_sum-zeros (suc k) (tensor_term s v w r k a b) (λ i _. term_none s i l)

-- ---- the matrices
module _ (v w : Module) (r : ℤ) (k : ℕ) where
  abbrev count : ℕ
  count = dimension v * dimension w

  pub size-table : table count count (tensor_entry true v w r k) ≡ tensor_size v w r k
  unfolding tensor_size
  size-table = refl

  pub power-table : table count count (tensor_entry false v w r k) ≡ tensor_power v w r k
  unfolding tensor_power
  power-table = refl

  pub product_square : (m : Matrix ℤ) → m ≡ table count count (tensor_entry false v w r k) → AllFit integers m → IsSquare count m
  product_square m e f = record {
    height = ap (λ (x : Matrix ℤ). x.height) e;
    width = ap (λ (x : Matrix ℤ). x.width) e;
    shaped = subst (λ (x : Matrix ℤ). IsShaped (pos 0) x) (sym e) (table-shaped (pos 0) count count (tensor_entry false v w r k));
    fit = f;
  }

  -- where an entry is too wide, the product is huge
  pub huge_at : (i j : ℕ) → i < count → j < count → 2 ^ 126 ≤ nat_abs (tensor_entry true v w r k i j) → IsHugeMatrix (tensor_size v w r k)
  huge_at i j a b h = subst IsHugeMatrix size-table (record {
    row = i;
    col = j;
    row_within = a;
    col_within = b;
    huge = subst (λ t. 2 ^ 126 ≤ nat_abs t) (sym (entry-table (pos 0) count count (tensor_entry true v w r k) i j a b)) h;
  })

  -- where the size is a matrix that calls may be handed, it is not
  pub size_fits : (m : Matrix ℤ) → m ≡ table count count (tensor_entry true v w r k) → AllFit integers m → ¬ IsHugeMatrix (tensor_size v w r k)
  size_fits m e f h =
      let x = subst IsHugeMatrix (sym (e ∙ size-table)) h in
      let s = (f x.row x.col x.row_within x.col_within).1 in
      let l = x.huge in
      absurd (omega (arith, s, l))

  -- past the last matrices of both the product is 0
  module _ (kv : IsKeptModule v) (kw : IsKeptModule w) (past : top v r + top w r < k) where
    pub power_none : tensor_power v w r k ≡ zero_matrix (pos 0) count count
    power_none = sym power-table ∙ table-same count count (tensor_entry false v w r k) (λ _ _. pos 0) (λ i j a b. entry_none v w kv kw r k i j a b false past)

    pub size_none : ¬ IsHugeMatrix (tensor_size v w r k)
    size_none = subst (λ t. ¬ IsHugeMatrix t) (sym (table-same count count (tensor_entry true v w r k) (λ _ _. pos 0) (λ i j a b. entry_none v w kv kw r k i j a b true past)) ∙ size-table) (zero_not_huge count)

-- ---- all powers of a root
-- the product is not huge for the first n of them
abbrev pub IsSmallBelow : Module → Module → ℤ → ℕ → Type 0
IsSmallBelow v w r n = (j : ℕ) → j < n → ¬ IsHugeMatrix (tensor_size v w r (suc j))

module _ (v w : Module) (kv : IsKeptModule v) (kw : IsKeptModule w) (r : ℤ) where
  pub small_all : (n : ℕ) → top v r + top w r ≤ n → IsSmallBelow v w r n → (k : ℕ) → ¬ IsHugeMatrix (tensor_size v w r (suc k))
  small_all n l h k = ⊎_elim (λ m. h k m) (λ m. size_none v w r (suc k) kv kw (omega (arith, l, m))) (within_or_past k n)

  pub first_power : (n : ℕ) → IsSmallBelow v w r n → IsHugeMatrix (tensor_size v w r (n + 1)) → IsFirstHugeProduct v w r (n + 1)
  first_power n h x = record { first = omega arith; huge = x; before = λ j a l. at j a l }
    where
      at : (j : ℕ) → 1 ≤ j → j < n + 1 → ¬ IsHugeMatrix (tensor_size v w r j)
      at zero a l = absurd (omega (arith, a))
      at (suc j) a l = h j (omega (arith, l))

  -- the number of matrices
  no_matrix : (Ms : List (Matrix ℤ)) → All (IsSquare 0) Ms → ((k : ℕ) → length Ms ≡ suc k → matrix_at 0 Ms k ≢ zero_matrix (pos 0) 0 0) → length Ms ≡ 0
  no_matrix Ms squares last = ⊎_elim
      (λ l. (let k = length Ms - 1 in
      let e : length Ms ≡ suc k = omega (arith, l) in
      let q = squares k (zero_matrix (pos 0) 0 0) (omega (arith, e)) in
      absurd (last k e (q.shaped ∙ ap₂ (λ h u. table h u (entry (pos 0) (matrix_at 0 Ms k))) q.height q.width))))
      (λ l. omega (arith, l))
      (within_or_past 0 (length Ms))

  few_powers : (m n a b : ℕ) → 1 ≤ m → 1 ≤ n → a ≤ 16 * (m - 1) → b ≤ 16 * (n - 1) → a + b ≤ 16 * (m * n - 1)
  few_powers zero n a b p q l h = absurd (omega (arith, p))
  few_powers (suc m) zero a b p q l h = absurd (omega (arith, q))
  few_powers (suc m) (suc n) a b p q l h =
      let e : suc m * suc n ≡ m * n + m + n + 1 = grow m n in
      omega (arith, e, l, h)
    where
      grow : (m n : ℕ) → suc m * suc n ≡ m * n + m + n + 1
      grow m n = omega arith

  -- the matrices up to the last that is not 0 are those of the product
  pub trimmed_tensor : (Ms Ns : List (Matrix ℤ)) (c : ℕ) → top v r + top w r ≡ c → AreFirst (dimension v * dimension w) (λ k. tensor_power v w r (suc k)) c Ms → IsTrimmed (dimension v * dimension w) Ms Ns → AreTensorPowers v w r Ns
  trimmed_tensor Ms Ns c e a t = record {
    each = λ k. t.each k ∙ ⊎_elim (λ l. a.each k l)
        (λ l. past_end Ms k (zero_matrix (pos 0) n n) (let b = a.count in omega (arith, l, b)) ∙ sym (power_none v w r (suc k) kv kw (omega (arith, e, l)))) (within_or_past k c);
    last = λ k l z. t.last k l z;
    kept = record { few = few; squares = t.squares };
  }
    where
      n : ℕ
      n = dimension v * dimension w

      none : n ≡ 0 → length Ns ≤ 16 * (n - 1)
      none z = let l = no_matrix Ns (subst (λ u. All (IsSquare u) Ns) z t.squares) (subst (λ u. (k : ℕ) → length Ns ≡ suc k → matrix_at u Ns k ≢ zero_matrix (pos 0) u u) z (λ k l y. t.last k l y)) in omega (arith, l)

      few : length Ns ≤ 16 * (n - 1)
      few = ⊎_elim (λ x. ⊎_elim (λ y. (let g = few_powers (dimension v) (dimension w) (top v r) (top w r) (omega (arith, x)) (omega (arith, y)) (top_few v kv r) (top_few w kw r) in
          let f = t.few in let b = a.count in omega (arith, g, f, b, e)))
          (λ y. none (let z : dimension w ≡ 0 = omega (arith, y) in ap (λ u. dimension v * u) z ∙ times_none (dimension v))) (within_or_past 0 (dimension w)))
          (λ x. none (let z : dimension v ≡ 0 = omega (arith, x) in ap (λ u. u * dimension w) z ∙ none_times (dimension w))) (within_or_past 0 (dimension v))
        where
          times_none : (u : ℕ) → u * 0 ≡ 0
          times_none u = omega arith

          none_times : (u : ℕ) → 0 * u ≡ 0
          none_times u = omega arith
