-- The sum of two modules, block by block.
use Rattle.std.proofs.Common.{◌≡◌, ◌≢◌, ℕ, zero, suc, ◌+◌, ◌-◌, ◌*◌, ◌<◌, ◌≤◌, ℤ, pos, List, [], ◌∷◌, ◌++◌, map, length, get_or, refl, sym, ap, ap₂, subst, ◌∙◌, arith, ◌⊎◌, ⊎_elim, length-append, replicate, max, Bool, true, false, cond, ltb}
use Rattle.std.proofs.Math.Nat.{le-max_left, le-max_right, max-le}
use Rattle.std.proofs.lemmas.Bool.{lt-ltb, le-ltb, ltb-true, ltb-false}
use Rattle.std.specs.List.{All, range_with_len}
use Rattle.std.proofs.lemmas.List.FromFn.{get_or-map-range_with_len, length-map-range_with_len}
use Rattle.std.proofs.lemmas.List.Elements.{All-append}
use Rattle.lie_ring.specs.Integers.{integers}
use Rattle.lie_ring.specs.Matrices.{Matrix, table, entry, zero_matrix, direct_sum, direct_sum_entry, AllFit, IsShaped}
use Rattle.lie_ring.specs.MatrixLemmas.{entry-table, table-same, table-shaped, map-range-last}
use Rattle.lie_datum.specs.Numbers.{place, number_at}
use Rattle.lie_datum.specs.Vectors.{Vector}
use Rattle.lie_datum.specs.RootDatum.{IsWithin}
use Rattle.lie_datum.specs.RootList.{RootDatum, IsNumber}
use Rattle.lie_datum.proofs.Entries.{within_or_past}
use Rattle.lie_datum.proofs.NumberLemmas.{place_within}
use Rattle.lie_const.specs.Modules.{Module, IsModule, dimension, divided_powers, divided_power, top}
use Rattle.lie_weight.specs.Kept.{IsSquare, ArePowers, IsKeptModule}
use Rattle.lie_weight.specs.Factors.{IsOfSize}
use Rattle.lie_weight.specs.Sums.{IsSum, IsNothing, IsDirectSum}
use Rattle.lie_weight.specs.Carriers.{joined}
use Rattle.lie_weight.specs.CarrierParts.{sum_power, sum_powers, module_sum, dimensions}
use Rattle.lie_weight.proofs.Assembled.{number_place}
use Rattle.lie_weight.proofs.DraftLemmas.{past_end, bare_draft}

-- ---- blocks
-- zero blocks make a zero matrix
direct_sum-zeros : (m n : ℕ) → direct_sum (pos 0) (zero_matrix (pos 0) m m) (zero_matrix (pos 0) n n) ≡ zero_matrix (pos 0) (m + n) (m + n)
direct_sum-zeros m n = table-same (m + n) (m + n) (direct_sum_entry (pos 0) (zero_matrix (pos 0) m m) (zero_matrix (pos 0) n n)) (λ _ _. pos 0) (λ i j a b.
    by i j a b (ltb i m) (ltb j m) refl refl)
  where
    by : (i j : ℕ) → i < m + n → j < m + n → (s t : Bool) → ltb i m ≡ s → ltb j m ≡ t →
        cond s (cond t (entry (pos 0) (zero_matrix (pos 0) m m) i j) (pos 0)) (cond t (pos 0) (entry (pos 0) (zero_matrix (pos 0) n n) (i - m) (j - m))) ≡ pos 0
    by i j a b true true e f = entry-table (pos 0) m m (λ _ _. pos 0) i j (ltb-true i m e) (ltb-true j m f)
    by i j a b true false e f = refl
    by i j a b false true e f = refl
    by i j a b false false e f = let p = ltb-false i m e in let q = ltb-false j m f in entry-table (pos 0) n n (λ _ _. pos 0) (i - m) (j - m) (omega (arith, a, p)) (omega (arith, b, q))

-- the entries of the first block
module _ (m n : ℕ) (M N : Matrix ℤ) (sM : IsOfSize m M) (sN : IsOfSize n N) where
  entry-direct_sum : (i j : ℕ) → i < m + n → j < m + n → entry (pos 0) (direct_sum (pos 0) M N) i j ≡ direct_sum_entry (pos 0) M N i j
  entry-direct_sum i j a b = entry-table (pos 0) (M.height + N.height) (M.width + N.width) (direct_sum_entry (pos 0) M N) i j
      (let h = sM.height in let k = sN.height in omega (arith, a, h, k)) (let h = sM.width in let k = sN.width in omega (arith, b, h, k))

  first_entry : (i j : ℕ) → i < m → j < m → direct_sum_entry (pos 0) M N i j ≡ entry (pos 0) M i j
  first_entry i j a b =
      let r = lt-ltb i M.height (let h = sM.height in omega (arith, a, h)) in
      let c = lt-ltb j M.width (let h = sM.width in omega (arith, b, h)) in
      ap (λ t. cond t (cond (ltb j M.width) (entry (pos 0) M i j) (pos 0)) (cond (ltb j M.width) (pos 0) (entry (pos 0) N (i - M.height) (j - M.width)))) r
      ∙ ap (λ t. cond t (entry (pos 0) M i j) (pos 0)) c

  second_entry : (i j : ℕ) → direct_sum_entry (pos 0) M N (m + i) (m + j) ≡ entry (pos 0) N i j
  second_entry i j =
      let r = le-ltb (m + i) M.height (let h = sM.height in omega (arith, h)) in
      let c = le-ltb (m + j) M.width (let h = sM.width in omega (arith, h)) in
      let x : m + i - M.height ≡ i = let h = sM.height in omega (arith, h) in
      let y : m + j - M.width ≡ j = let h = sM.width in omega (arith, h) in
      ap (λ t. cond t (cond (ltb (m + j) M.width) (entry (pos 0) M (m + i) (m + j)) (pos 0)) (cond (ltb (m + j) M.width) (pos 0) (entry (pos 0) N (m + i - M.height) (m + j - M.width)))) r
      ∙ ap (λ t. cond t (pos 0) (entry (pos 0) N (m + i - M.height) (m + j - M.width))) c
      ∙ ap₂ (entry (pos 0) N) x y

  direct_sum-size : IsOfSize (m + n) (direct_sum (pos 0) M N)
  direct_sum-size = record { height = ap₂ (λ a b. a + b) sM.height sN.height; width = ap₂ (λ a b. a + b) sM.width sN.width }

  -- where the sum is 0, so are the blocks
  module _ (none : direct_sum (pos 0) M N ≡ zero_matrix (pos 0) (m + n) (m + n)) where
    no_entry : (i j : ℕ) → i < m + n → j < m + n → direct_sum_entry (pos 0) M N i j ≡ pos 0
    no_entry i j a b = sym (entry-direct_sum i j a b) ∙ ap (λ t. entry (pos 0) t i j) none ∙ entry-table (pos 0) (m + n) (m + n) (λ _ _. pos 0) i j a b

    first_none : M ≡ table m m (entry (pos 0) M) → M ≡ zero_matrix (pos 0) m m
    first_none shaped = shaped ∙ table-same m m (entry (pos 0) M) (λ _ _. pos 0) (λ i j a b. sym (first_entry i j a b) ∙ no_entry i j (omega (arith, a)) (omega (arith, b)))

    second_none : N ≡ table n n (entry (pos 0) N) → N ≡ zero_matrix (pos 0) n n
    second_none shaped = shaped ∙ table-same n n (entry (pos 0) N) (λ _ _. pos 0) (λ i j a b. sym (second_entry i j) ∙ no_entry (m + i) (m + j) (omega (arith, a)) (omega (arith, b)))

-- ---- the sum of two modules
-- E_r^(k) has the size of the module
pub power_size : (d : RootDatum) (v : Module) → IsModule d v → (r : ℤ) (k : ℕ) → IsNumber d r → IsOfSize (dimension v) (divided_power v r (suc k))
power_size d v s r k n = ⊎_elim
    (λ l. (let e = s.square r k n l in record { height = ap (λ t. t.height) e; width = ap (λ t. t.width) e }))
    (λ l. (let e = past_end (divided_powers v r) k (zero_matrix (pos 0) (dimension v) (dimension v)) l in record { height = ap (λ t. t.height) e; width = ap (λ t. t.width) e }))
    (within_or_past k (top v r))

module _ (d : RootDatum) (v w : Module) (sv : IsModule d v) (sw : IsModule d w) where
  sum-dimension : dimension (module_sum v w) ≡ dimension v + dimension w
  sum-dimension = length-append v.weights w.weights

  module _ (r : ℤ) (number : IsNumber d r) where
    -- the matrices of a root
    powers-at : divided_powers (module_sum v w) r ≡ sum_powers v w r
    powers-at =
        let m = v.positive in
        let e = sv.positive in
        let f = λ (p : ℕ). sum_powers v w (number_at m p) in
        let within : place m r < 2 * m = let h = (place_within d r number).2 in subst (λ t. place t r < 2 * t) (sym e) h in
        get_or-map-range_with_len f 0 (2 * m) (place m r) (place m r) [] within (omega arith)
        ∙ ap (sum_powers v w) (ap (λ t. number_at t (place t r)) e ∙ number_place d r number)

    top-at : top (module_sum v w) r ≡ max (top v r) (top w r)
    top-at = ap length powers-at ∙ length-map-range_with_len (λ k. sum_power v w r (suc k)) 0 (max (top v r) (top w r))

    -- E_r^(k+1)
    power-at : (k : ℕ) → divided_power (module_sum v w) r (suc k) ≡ sum_power v w r (suc k)
    power-at k =
        let n = dimension (module_sum v w) in
        let z = zero_matrix (pos 0) n n in
        let f = λ (j : ℕ). sum_power v w r (suc j) in
        ap (λ (l : List (Matrix ℤ)). get_or l k z) powers-at ∙ ⊎_elim
        (λ l. get_or-map-range_with_len f 0 (max (top v r) (top w r)) k k z l (omega arith))
        (λ l. past_end (sum_powers v w r) k z (let e = length-map-range_with_len f 0 (max (top v r) (top w r)) in omega (arith, e, l))
        ∙ ap (λ t. zero_matrix (pos 0) t t) sum-dimension
        ∙ sym (ap₂ (direct_sum (pos 0))
        (past_end (divided_powers v r) k (zero_matrix (pos 0) (dimension v) (dimension v)) (let h = le-max_left (top v r) (top w r) in omega (arith, h, l)))
        (past_end (divided_powers w r) k (zero_matrix (pos 0) (dimension w) (dimension w)) (let h = le-max_right (top v r) (top w r) in omega (arith, h, l)))
        ∙ direct_sum-zeros (dimension v) (dimension w)))
        (within_or_past k (max (top v r) (top w r)))

    square-at : (k : ℕ) → divided_power (module_sum v w) r (suc k) ≡ table (dimension (module_sum v w)) (dimension (module_sum v w)) (entry (pos 0) (divided_power (module_sum v w) r (suc k)))
    square-at k =
        let M = divided_power v r (suc k) in
        let N = divided_power w r (suc k) in
        let size = direct_sum-size (dimension v) (dimension w) M N (power_size d v sv r k number) (power_size d w sw r k number) in
        let n = sum-dimension in
        power-at k ∙ table-shaped (pos 0) (M.height + N.height) (M.width + N.width) (direct_sum_entry (pos 0) M N)
        ∙ ap₂ (λ a b. table a b (entry (pos 0) (sum_power v w r (suc k)))) (size.height ∙ sym n) (size.width ∙ sym n)
        ∙ ap (λ t. table (dimension (module_sum v w)) (dimension (module_sum v w)) (entry (pos 0) t)) (sym (power-at k))

    last-at : (k : ℕ) → top (module_sum v w) r ≡ suc k → divided_power (module_sum v w) r (suc k) ≢ zero_matrix (pos 0) (dimension (module_sum v w)) (dimension (module_sum v w))
    last-at k t e =
        let M = divided_power v r (suc k) in
        let N = divided_power w r (suc k) in
        let pM = power_size d v sv r k number in
        let pN = power_size d w sw r k number in
        let none = sym (power-at k) ∙ e ∙ ap (λ n. zero_matrix (pos 0) n n) sum-dimension in
        let h = sym top-at ∙ t in
        ⊎_elim (λ l. sv.last r k number l (first_none (dimension v) (dimension w) M N pM pN none (sv.square r k number (omega (arith, l)))))
        (λ l. sw.last r k number l (second_none (dimension v) (dimension w) M N pM pN none (sw.square r k number (omega (arith, l)))))
        (greatest (top v r) (top w r) k h)
      where
        greatest : (a b k : ℕ) → max a b ≡ suc k → (a ≡ suc k) ⊎ (b ≡ suc k)
        greatest a b k h = grind (arith, h)

  pub sum_module : IsModule d (module_sum v w)
  sum_module = record {
    positive = sv.positive;
    roots = length-map-range_with_len (λ p. sum_powers v w (number_at v.positive p)) 0 (2 * v.positive) ∙ ap (λ t. 2 * t) sv.positive;
    square = λ r k n l. square-at r n k;
    last = λ r k n t. last-at r n k t;
  }

  pub sum_is : IsSum d v w (module_sum v w)
  sum_is = record { shape = sum_module; weights = refl; powers = λ r k n one. by r k n one }
    where
      by : (r : ℤ) (k : ℕ) → IsNumber d r → 1 ≤ k → divided_power (module_sum v w) r k ≡ sum_power v w r k
      by r zero n l = absurd (omega (arith, l))
      by r (suc k) n l = power-at r n k

-- ---- sums of lists
pub direct_sum_module : (d : RootDatum) (vs : List Module) (s : Module) → IsDirectSum d vs s → IsModule d s
direct_sum_module d [] s h = h.shape
direct_sum_module d (v ∷ vs) s h = h.2.shape

pub direct_sum-weights : (d : RootDatum) (vs : List Module) (s : Module) → IsDirectSum d vs s → s.weights ≡ joined (map (λ v. v.weights) vs)
direct_sum-weights d [] s h = h.weights
direct_sum-weights d (v ∷ vs) s h = h.2.weights ∙ ap (λ t. v.weights ++ t) (direct_sum-weights d vs h.0 h.1)

pub direct_sum-dimension : (d : RootDatum) (vs : List Module) (s : Module) → IsDirectSum d vs s → dimension s ≡ dimensions vs
direct_sum-dimension d vs s h = ap length (direct_sum-weights d vs s h)

-- ---- how it is filled
pub blocks_square : (m n : ℕ) (M N S : Matrix ℤ) → IsSquare m M → IsSquare n N → S ≡ direct_sum (pos 0) M N → AllFit integers S → IsSquare (m + n) S
blocks_square m n M N S a b e fit = record {
  height = ap (λ t. t.height) e ∙ ap₂ (λ x y. x + y) a.height b.height;
  width = ap (λ t. t.width) e ∙ ap₂ (λ x y. x + y) a.width b.width;
  shaped = subst (IsShaped (pos 0)) (sym e) (table-shaped (pos 0) (M.height + N.height) (M.width + N.width) (direct_sum_entry (pos 0) M N));
  fit = fit;
}

pub own_square : (n : ℕ) (M : Matrix ℤ) → IsSquare n M → IsSquare M.height M
own_square n M a = record { height = refl; width = a.width ∙ sym a.height; shaped = a.shaped; fit = a.fit }

pub all_push : {A : Type 0} (P : A → Type 0) (xs : List A) (y : A) → All P xs → P y → All P (xs ++ y ∷ [])
all_push P xs y h p = All-append P xs (y ∷ []) h (λ k z l. one k z l)
  where
    one : (k : ℕ) (z : _) → k < 1 → P (get_or (y ∷ []) k z)
    one zero z l = p
    one (suc k) z l = absurd (omega (arith, l))

-- one matrix more of a root
pub powers_push : (v w : Module) (r : ℤ) (k j : ℕ) (Ms Ns : List (Matrix ℤ)) (S : Matrix ℤ) → j ≡ suc k → Ms ≡ map (λ i. sum_power v w r (suc i)) (range_with_len 0 k) → S ≡ sum_power v w r (suc k) → Ns ≡ Ms ++ S ∷ [] →
    Ns ≡ map (λ i. sum_power v w r (suc i)) (range_with_len 0 j)
powers_push v w r k j Ms Ns S one inv is push =
    let f = λ (i : ℕ). sum_power v w r (suc i) in
    let none : k ≡ 0 + k = omega arith in
    push ∙ ap₂ (λ xs y. xs ++ y ∷ []) inv (is ∙ ap f none) ∙ sym (map-range-last f 0 k) ∙ ap (λ i. map f (range_with_len 0 i)) (sym one)

-- one root more
pub roots_push : (v w : Module) (m p j : ℕ) (Mss Nss : List (List (Matrix ℤ))) (Ms : List (Matrix ℤ)) → j ≡ suc p → Mss ≡ map (λ i. sum_powers v w (number_at m i)) (range_with_len 0 p) → Ms ≡ sum_powers v w (number_at m p) → Nss ≡ Mss ++ Ms ∷ [] →
    Nss ≡ map (λ i. sum_powers v w (number_at m i)) (range_with_len 0 j)
roots_push v w m p j Mss Nss Ms one inv is push =
    let f = λ (i : ℕ). sum_powers v w (number_at m i) in
    let none : p ≡ 0 + p = omega arith in
    push ∙ ap₂ (λ xs y. xs ++ y ∷ []) inv (is ∙ ap f none) ∙ sym (map-range-last f 0 p) ∙ ap (λ i. map f (range_with_len 0 i)) (sym one)

-- the number of matrices of a root
pub powers_few : (v w : Module) (r : ℤ) (k p q : ℕ) (Ms : List (Matrix ℤ)) → Ms ≡ map (λ i. sum_power v w r (suc i)) (range_with_len 0 k) → k ≤ max p q → p ≤ 16 * (dimension v - 1) → q ≤ 16 * (dimension w - 1) → length Ms ≤ 16 * (dimension v + dimension w - 1)
powers_few v w r k p q Ms e l a b =
    let n = ap length e ∙ length-map-range_with_len (λ i. sum_power v w r (suc i)) 0 k in
    let m : max p q ≤ 16 * (dimension v + dimension w - 1) = max-le (omega (arith, a)) (omega (arith, b)) in
    omega (arith, l, n, m)

-- what is filled is the sum
pub sum_filled : (v w : Module) (m : ℕ) (ws : List Vector) (Mss : List (List (Matrix ℤ))) (n : ℕ) → m ≡ v.positive → ws ≡ v.weights ++ w.weights → Mss ≡ map (λ i. sum_powers v w (number_at m i)) (range_with_len 0 n) → n ≡ 2 * m →
    ◌≡◌ {A = Module} (record { positive = m; weights = ws; powers = Mss }) (module_sum v w)
sum_filled v w m ws Mss n p e f l =
    let a : ◌≡◌ {A = Module} (record { positive = m; weights = ws; powers = Mss }) (record { positive = m; weights = v.weights ++ w.weights; powers = Mss }) = ap (λ (t : List Vector). record { positive = m; weights = t; powers = Mss }) e in
    let b : ◌≡◌ {A = Module} (record { positive = m; weights = v.weights ++ w.weights; powers = Mss }) (record { positive = m; weights = v.weights ++ w.weights; powers = map (λ i. sum_powers v w (number_at m i)) (range_with_len 0 (2 * m)) }) =
    ap (λ (t : List (List (Matrix ℤ))). record { positive = m; weights = v.weights ++ w.weights; powers = t }) (f ∙ ap (λ t. map (λ i. sum_powers v w (number_at m i)) (range_with_len 0 t)) l) in
    let c : ◌≡◌ {A = Module} (record { positive = m; weights = v.weights ++ w.weights; powers = map (λ i. sum_powers v w (number_at m i)) (range_with_len 0 (2 * m)) }) (module_sum v w) =
    ap (λ (t : ℕ). record { positive = t; weights = v.weights ++ w.weights; powers = map (λ i. sum_powers v w (number_at t i)) (range_with_len 0 (2 * t)) }) p in
    a ∙ b ∙ c

-- the whole sum
pub sum_kept : (d : RootDatum) (v w : Module) → IsModule d v → IsModule d w → length d.positive ≤ 120 → dimension v + dimension w ≤ 1024 → All (IsWithin 1000000) v.weights → All (IsWithin 1000000) w.weights →
    All (ArePowers (dimension v + dimension w)) (module_sum v w).powers → IsKeptModule (module_sum v w)
sum_kept d v w sv sw small few lv lw kept =
    let n = length-append v.weights w.weights in
    record {
      small = let e = sv.positive in omega (arith, e, small);
      narrow = omega (arith, n, few);
      light = All-append (IsWithin 1000000) v.weights w.weights lv lw;
      roots = length-map-range_with_len (λ p. sum_powers v w (number_at v.positive p)) 0 (2 * v.positive);
      powers = subst (λ t. All (ArePowers t) (module_sum v w).powers) (sym n) kept;
    }

-- the module without basis vectors
pub bare_nothing : (d : RootDatum) (m : ℕ) (ws : List Vector) → m ≡ length d.positive → ws ≡ [] → IsNothing d (record { positive = m; weights = ws; powers = replicate (2 * m) [] })
bare_nothing d m ws e f = record { shape = (bare_draft d m ws e).shape; weights = f }

-- the first module of a list, and the others
pub dimensions-cons : (v : Module) (vs : List Module) → dimensions (v ∷ vs) ≡ dimension v + dimensions vs
dimensions-cons v vs = length-append v.weights (joined (map (λ w. w.weights) vs))
