-- The dual of a module, power by power.
use Rattle.std.proofs.Common.{◌≡◌, ◌≢◌, ℕ, zero, suc, ◌+◌, ◌*◌, ◌%◌, ◌<◌, ◌≤◌, ℤ, pos, negsuc, ◌*ℤ◌, List, [], ◌∷◌, ◌++◌, map, take, length, get_or, refl, sym, ap, ap₂, subst, ◌∙◌, arith, ◌⊎◌, inl, inr, ⊎_elim, unsigned_abs}
use Rattle.std.proofs.Math.IntN.{*ℤ-zero}
use Rattle.std.proofs.Math.ListN.{length-map}
use Rattle.std.proofs.lemmas.Int.{ints}
use Rattle.std.proofs.lemmas.List.{map_push, take_more}
use Rattle.std.specs.List.{All, range_with_len}
use Rattle.std.proofs.lemmas.List.Elements.{All-map}
use Rattle.std.proofs.lemmas.List.FromFn.{get_or-map-range_with_len, length-map-range_with_len}
use Rattle.lie_ring.specs.Integers.{integers}
use Rattle.lie_ring.specs.Powers.{power}
use Rattle.lie_ring.specs.Matrices.{Matrix, table, entry, scaled, transposed, zero_matrix, AllFit, IsShaped}
use Rattle.lie_ring.specs.MatrixLemmas.{entry-table, table-same, table-shaped, map-range-last}
use Rattle.lie_datum.specs.Numbers.{place, number_at}
use Rattle.lie_datum.specs.Vectors.{Vector, minus, entry as coordinate}
use Rattle.lie_datum.specs.RootDatum.{IsWithin}
use Rattle.lie_datum.specs.RootList.{RootDatum, IsNumber}
use Rattle.lie_datum.proofs.Entries.{within_or_past}
use Rattle.lie_datum.proofs.NumberLemmas.{place_within}
use Rattle.lie_datum.proofs.VectorLemmas.{entry_within, abs_neg, entry-minus}
use Rattle.lie_orbit.proofs.WeightLemmas.{from_entries}
use Rattle.lie_const.specs.Modules.{Module, IsModule, dimension, divided_powers, divided_power, top}
use Rattle.lie_weight.specs.Kept.{IsSquare, ArePowers, IsKeptModule}
use Rattle.lie_weight.specs.Factors.{IsOfSize}
use Rattle.lie_weight.specs.Duals.{IsDual, dual_power, dual_powers, module_dual}
use Rattle.lie_weight.proofs.Assembled.{number_place}
use Rattle.lie_weight.proofs.DraftLemmas.{past_end}
use Rattle.lie_weight.proofs.ModuleSums.{power_size}

-- ---- signs
-- what (-1)^k is for an even and for an odd k
record IsSign (k : ℕ) : Type 0 where
  even : k % 2 ≡ 0 → power integers (negsuc 0) k ≡ pos 1
  odd : k % 2 ≢ 0 → power integers (negsuc 0) k ≡ negsuc 0

is_sign : (k : ℕ) → IsSign k
is_sign zero = record { even = λ e. refl; odd = λ n. absurd (n refl) }
is_sign (suc k) =
    let s = is_sign k in record {
      even = λ e. ap (λ (t : ℤ). t *ℤ negsuc 0) (s.odd (λ f. absurd (omega (arith, e, f))));
      odd = λ n. ap (λ (t : ℤ). t *ℤ negsuc 0) (s.even (next k n));
    }
  where
    next : (k : ℕ) → suc k % 2 ≢ 0 → k % 2 ≡ 0
    next k n = ⊎_elim (λ e. e) (λ e. absurd (n (omega (arith, e)))) (parity k)
      where
        parity : (k : ℕ) → (k % 2 ≡ 0) ⊎ (k % 2 ≡ 1)
        parity k = ⊎_elim (λ l. inl (omega (arith, l))) (λ l. inr (omega (arith, l))) (within_or_past (k % 2) 1)

pub sign_even : (k : ℕ) → k % 2 ≡ 0 → power integers (negsuc 0) k ≡ pos 1
sign_even k e = (is_sign k).even e

pub sign_odd : (k : ℕ) → k % 2 ≢ 0 → power integers (negsuc 0) k ≡ negsuc 0
sign_odd k n = (is_sign k).odd n

sign_cases : (k : ℕ) → (power integers (negsuc 0) k ≡ pos 1) ⊎ (power integers (negsuc 0) k ≡ negsuc 0)
sign_cases zero = inl refl
sign_cases (suc k) = ⊎_elim (λ e. inr (ap (λ (t : ℤ). t *ℤ negsuc 0) e)) (λ e. inl (ap (λ (t : ℤ). t *ℤ negsuc 0) e)) (sign_cases k)

-- a sign takes no number but 0 to 0
sign_zero : (k : ℕ) (x : ℤ) → power integers (negsuc 0) k *ℤ x ≡ pos 0 → x ≡ pos 0
sign_zero k x e = ⊎_elim (λ s. (let f = ap (λ (t : ℤ). t *ℤ x) (sym s) ∙ e in omega (arith, ints, f))) (λ s. (let f = ap (λ (t : ℤ). t *ℤ x) (sym s) ∙ e in omega (arith, ints, f))) (sign_cases k)

-- ---- the transpose times a number
module _ (n : ℕ) (c : ℤ) (M : Matrix ℤ) (s : IsOfSize n M) where
  entry-turned : (i j : ℕ) → i < n → j < n → entry (pos 0) (scaled integers c (transposed (pos 0) M)) i j ≡ c *ℤ entry (pos 0) M j i
  entry-turned i j a b =
      let l : i < M.width = let w = s.width in omega (arith, a, w) in
      let m : j < M.height = let h = s.height in omega (arith, b, h) in
      entry-table (pos 0) M.width M.height (λ k l. c *ℤ entry (pos 0) (transposed (pos 0) M) k l) i j l m
      ∙ ap (λ t. c *ℤ t) (entry-table (pos 0) M.width M.height (λ k l. entry (pos 0) M l k) i j l m)

  turned-size : IsOfSize n (scaled integers c (transposed (pos 0) M))
  turned-size = record { height = s.width; width = s.height }

turned-zeros : (n : ℕ) (c : ℤ) → scaled integers c (transposed (pos 0) (zero_matrix (pos 0) n n)) ≡ zero_matrix (pos 0) n n
turned-zeros n c = table-same n n (λ i j. c *ℤ entry (pos 0) (transposed (pos 0) (zero_matrix (pos 0) n n)) i j) (λ _ _. pos 0) (λ i j a b.
    ap (λ t. c *ℤ t) (entry-table (pos 0) n n (λ k l. entry (pos 0) (zero_matrix (pos 0) n n) l k) i j a b ∙ entry-table (pos 0) n n (λ _ _. pos 0) j i b a) ∙ *ℤ-zero c)

-- ---- the dual of a module
module _ (d : RootDatum) (v : Module) (sv : IsModule d v) where
  dual-dimension : dimension (module_dual v) ≡ dimension v
  dual-dimension = length-map v.weights minus

  module _ (r : ℤ) (number : IsNumber d r) where
    -- the matrices of a root
    dual_powers-at : divided_powers (module_dual v) r ≡ dual_powers v r
    dual_powers-at =
        let m = v.positive in
        let e = sv.positive in
        let f = λ (p : ℕ). dual_powers v (number_at m p) in
        let within : place m r < 2 * m = let h = (place_within d r number).2 in subst (λ t. place t r < 2 * t) (sym e) h in
        get_or-map-range_with_len f 0 (2 * m) (place m r) (place m r) [] within (omega arith)
        ∙ ap (dual_powers v) (ap (λ t. number_at t (place t r)) e ∙ number_place d r number)

    dual_top-at : top (module_dual v) r ≡ top v r
    dual_top-at = ap length dual_powers-at ∙ length-map-range_with_len (λ k. dual_power v r (suc k)) 0 (top v r)

    -- E_r^(k+1)
    dual_power-at : (k : ℕ) → divided_power (module_dual v) r (suc k) ≡ dual_power v r (suc k)
    dual_power-at k =
        let n = dimension (module_dual v) in
        let z = zero_matrix (pos 0) n n in
        let f = λ (j : ℕ). dual_power v r (suc j) in
        ap (λ (l : List (Matrix ℤ)). get_or l k z) dual_powers-at ∙ ⊎_elim
        (λ l. get_or-map-range_with_len f 0 (top v r) k k z l (omega arith))
        (λ l. past_end (dual_powers v r) k z (let e = length-map-range_with_len f 0 (top v r) in omega (arith, e, l))
        ∙ ap (λ t. zero_matrix (pos 0) t t) dual-dimension
        ∙ sym (ap (λ t. scaled integers (power integers (negsuc 0) (suc k)) (transposed (pos 0) t)) (past_end (divided_powers v r) k (zero_matrix (pos 0) (dimension v) (dimension v)) l)
        ∙ turned-zeros (dimension v) (power integers (negsuc 0) (suc k))))
        (within_or_past k (top v r))

    dual_square-at : (k : ℕ) → divided_power (module_dual v) r (suc k) ≡ table (dimension (module_dual v)) (dimension (module_dual v)) (entry (pos 0) (divided_power (module_dual v) r (suc k)))
    dual_square-at k =
        let M = divided_power v r (suc k) in
        let size = power_size d v sv r k number in
        let n = dual-dimension in
        dual_power-at k ∙ table-shaped (pos 0) M.width M.height (λ i j. power integers (negsuc 0) (suc k) *ℤ entry (pos 0) (transposed (pos 0) M) i j)
        ∙ ap₂ (λ a b. table a b (entry (pos 0) (dual_power v r (suc k)))) (size.width ∙ sym n) (size.height ∙ sym n)
        ∙ ap (λ t. table (dimension (module_dual v)) (dimension (module_dual v)) (entry (pos 0) t)) (sym (dual_power-at k))

    dual_last-at : (k : ℕ) → top (module_dual v) r ≡ suc k → divided_power (module_dual v) r (suc k) ≢ zero_matrix (pos 0) (dimension (module_dual v)) (dimension (module_dual v))
    dual_last-at k t e =
        let n = dimension v in
        let c = power integers (negsuc 0) (suc k) in
        let M = divided_power v r (suc k) in
        let size = power_size d v sv r k number in
        let none : dual_power v r (suc k) ≡ zero_matrix (pos 0) n n = sym (dual_power-at k) ∙ e ∙ ap (λ n. zero_matrix (pos 0) n n) dual-dimension in
        let last = sym dual_top-at ∙ t in
        let each : (i j : ℕ) → i < n → j < n → entry (pos 0) M i j ≡ pos 0 = λ i j a b. sign_zero (suc k) (entry (pos 0) M i j)
        (sym (entry-turned n c M size j i b a) ∙ ap (λ t. entry (pos 0) t j i) none ∙ entry-table (pos 0) n n (λ _ _. pos 0) j i b a) in
        sv.last r k number last (sv.square r k number (omega (arith, last)) ∙ table-same n n (entry (pos 0) M) (λ _ _. pos 0) each)

  pub dual_module : IsModule d (module_dual v)
  dual_module = record {
    positive = sv.positive;
    roots = length-map-range_with_len (λ p. dual_powers v (number_at v.positive p)) 0 (2 * v.positive) ∙ ap (λ t. 2 * t) sv.positive;
    square = λ r k n l. dual_square-at r n k;
    last = λ r k n t. dual_last-at r n k t;
  }

  pub dual_is : IsDual d v (module_dual v)
  dual_is = record { shape = dual_module; weights = refl; powers = λ r k n one. by r k n one }
    where
      by : (r : ℤ) (k : ℕ) → IsNumber d r → 1 ≤ k → divided_power (module_dual v) r k ≡ dual_power v r k
      by r zero n l = absurd (omega (arith, l))
      by r (suc k) n l = dual_power-at r n k

-- ---- how it is filled
-- a square matrix, turned and times a number
pub turned_square : (n : ℕ) (c : ℤ) (M N T : Matrix ℤ) → IsSquare n M → N ≡ transposed (pos 0) M → T ≡ scaled integers c N → AllFit integers T → IsSquare n T
turned_square n c M N T s is e fit =
    let f = e ∙ ap (scaled integers c) is in record {
      height = ap (λ t. t.height) f ∙ s.width;
      width = ap (λ t. t.width) f ∙ s.height;
      shaped = subst (IsShaped (pos 0)) (sym f) (table-shaped (pos 0) M.width M.height (λ i j. c *ℤ entry (pos 0) (transposed (pos 0) M) i j));
      fit = fit;
    }

-- one item more of a list of the values of f
pub values_push : {A : Type 0} (f : ℕ → A) (k j : ℕ) (xs ys : List A) (y : A) → j ≡ suc k → xs ≡ map f (range_with_len 0 k) → y ≡ f k → ys ≡ xs ++ y ∷ [] → ys ≡ map f (range_with_len 0 j)
values_push f k j xs ys y one inv is push =
    let none : k ≡ 0 + k = omega arith in
    push ∙ ap₂ (λ us u. us ++ u ∷ []) inv (is ∙ ap f none) ∙ sym (map-range-last f 0 k) ∙ ap (λ i. map f (range_with_len 0 i)) (sym one)

-- one weight more
pub opposites_push : (w : Vector) (ws us vs : List Vector) (k : ℕ) (x : Vector) → k < length ws → x ≡ minus (get_or ws k w) → us ≡ map minus (take k ws) → vs ≡ us ++ x ∷ [] → vs ≡ map minus (take (k + 1) ws)
opposites_push w ws us vs k x l e inv push =
    push ∙ ap₂ (λ ts t. ts ++ t ∷ []) inv e ∙ sym (map_push minus (take k ws) (get_or ws k w)) ∙ ap (map minus) (sym (take_more ws k w l))

-- what is filled is the dual
pub dual_filled : (v : Module) (m : ℕ) (ws : List Vector) (Mss : List (List (Matrix ℤ))) → m ≡ v.positive → ws ≡ map minus v.weights → Mss ≡ map (λ p. dual_powers v (number_at m p)) (range_with_len 0 (2 * m)) →
    ◌≡◌ {A = Module} (record { positive = m; weights = ws; powers = Mss }) (module_dual v)
dual_filled v m ws Mss p e f =
    let a : ◌≡◌ {A = Module} (record { positive = m; weights = ws; powers = Mss }) (record { positive = m; weights = map minus v.weights; powers = Mss }) = ap (λ (t : List Vector). record { positive = m; weights = t; powers = Mss }) e in
    let b : ◌≡◌ {A = Module} (record { positive = m; weights = map minus v.weights; powers = Mss }) (record { positive = m; weights = map minus v.weights; powers = map (λ p. dual_powers v (number_at m p)) (range_with_len 0 (2 * m)) }) =
    ap (λ (t : List (List (Matrix ℤ))). record { positive = m; weights = map minus v.weights; powers = t }) f in
    let c : ◌≡◌ {A = Module} (record { positive = m; weights = map minus v.weights; powers = map (λ p. dual_powers v (number_at m p)) (range_with_len 0 (2 * m)) }) (module_dual v) =
    ap (λ (t : ℕ). record { positive = t; weights = map minus v.weights; powers = map (λ p. dual_powers v (number_at t p)) (range_with_len 0 (2 * t)) }) p in
    a ∙ b ∙ c

-- the opposites of small weights are small
minus_within : (n : ℕ) (x : Vector) → IsWithin n x → IsWithin n (minus x)
minus_within n x h = from_entries n (minus x) (λ k. (let e = ap unsigned_abs (entry-minus x k) ∙ abs_neg (coordinate x k) in let w = entry_within n x k h in omega (arith, e, w)))

-- the whole dual
pub dual_kept : (v : Module) → IsKeptModule v → All (ArePowers (dimension v)) (module_dual v).powers → IsKeptModule (module_dual v)
dual_kept v kept powers =
    let n = length-map v.weights minus in
    record {
      small = kept.small;
      narrow = let l = kept.narrow in omega (arith, n, l);
      light = All-map (IsWithin 1000000) minus v.weights (λ k z l. minus_within 1000000 (get_or v.weights k z) (kept.light k z l));
      roots = length-map-range_with_len (λ p. dual_powers v (number_at v.positive p)) 0 (2 * v.positive);
      powers = subst (λ t. All (ArePowers t) (module_dual v).powers) (sym n) powers;
    }
