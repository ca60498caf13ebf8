-- How it is tested whether a module is covering.
use Rattle.std.proofs.Common.{◌≡◌, ◌≢◌, ℕ, zero, suc, ◌+◌, ◌-◌, ◌*◌, ◌<◌, ◌≤◌, ℤ, pos, negsuc, neg_ℤ, ◌*ℤ◌, Bool, true, false, List, [], length, get_or, replicate, refl, sym, ap, ap₂, subst, ◌∙◌, arith, lit<, ◌⊎◌, inl, inr, ⊎_elim, unsigned_abs, ◌↔◌, IsTrue}
use Rattle.std.proofs.Math.IntN.{*ℤ_comm}
use Rattle.std.specs.Ordering.{int_eq}
use lib.Pointwise.{pointwise}
use mir.Val.{to_z, of_z}
use mir.Syntax.{w128}
use Rattle.std.proofs.Math.Nat.{zero-mod}
use Rattle.std.proofs.lemmas.Int.{ints}
use Rattle.lie_ring.specs.Matrices.{Matrix, entry, zero_matrix}
use Rattle.lie_ring.specs.MatrixLemmas.{entry-table}
use Rattle.lie_mat.specs.Kept.{AreZeros, IsNextKept}
use Rattle.lie_field.specs.FiniteField.{FiniteField}
use Rattle.lie_field.specs.Quotient.{of_int}
use Rattle.lie_datum.specs.Vectors.{Vector, plus, times, minus, unit, entry as coordinate}
use Rattle.lie_datum.specs.RootDatum.{IsWithin}
use Rattle.lie_datum.specs.Numbers.{number_at}
use Rattle.lie_datum.specs.RootList.{RootDatum, IsLoaded}
use Rattle.lie_datum.proofs.Entries.{entry-plus, entry-times, length-plus, length-times, length-unit, within_or_past}
use Rattle.lie_datum.proofs.VectorLemmas.{entry_within, abs_add, abs_mul, plain}
use Rattle.lie_const.specs.Modules.{Module, dimension, divided_powers, divided_power, top}
use Rattle.lie_orbit.specs.Laws.{IsZero}
use Rattle.lie_orbit.specs.Lowering.{Lowers}
use Rattle.lie_orbit.proofs.LowersOnce.{lowers_once}
use Rattle.lie_orbit.proofs.WeightLemmas.{from_entries, number_at_simple}
use Rattle.lie_weight.proofs.ListingTests.{unit_within, zero_test}
use Rattle.lie_weight.proofs.CarrierOrbits.{lowers_long}
use Rattle.lie_weight.proofs.DraftLemmas.{past_end}
use Rattle.lie_identities.specs.Covers.{IsLiveAt, IsLive, less_axis, IsCovered, IsFirstDead, IsFirstUncovered}
use Rattle.lie_identities.specs.CoverParts.{IsLiveColumn, LowersToZero, IsCoveredTimes}

-- ---- entries over the field
pub zero_int : (f : FiniteField) → of_int f.given (pos 0) ≡ 0
unfolding of_int
zero_int f = zero-mod f.given.p

module _ (f : FiniteField) (M : Matrix ℤ) (col : ℕ) where
  -- no row before this one has an entry that is not 0 in the field
  abbrev pub IsDeadBefore : ℕ → Type 0
  IsDeadBefore n = (k : ℕ) → k < n → of_int f.given (entry (pos 0) M k col) ≡ 0

  pub dead_start : IsDeadBefore 0
  dead_start k l = absurd (omega (arith, l))

  dead_zeros : (from to : ℕ) → IsDeadBefore from → AreZeros (pos 0) M col from to → IsDeadBefore to
  dead_zeros from to before zeros k l = ⊎_elim (before k) (λ m. ap (of_int f.given) (zeros k m l) ∙ zero_int f) (within_or_past k from)

  pub dead_more : (from row : ℕ) (e : ℤ) → IsDeadBefore from → IsNextKept (pos 0) M col from row e → of_int f.given e ≡ 0 → IsDeadBefore (row + 1)
  dead_more from row e before next dead k l = ⊎_elim (dead_zeros from row before next.before k)
      (λ m. (let same : k ≡ row = omega (arith, l, m) in ap (λ t. of_int f.given (entry (pos 0) M t col)) same ∙ ap (of_int f.given) (sym next.here) ∙ dead)) (within_or_past k row)

  pub dead_end : (from : ℕ) → IsDeadBefore from → AreZeros (pos 0) M col from M.height → ¬ IsLiveColumn f M col
  dead_end from before zeros h = h.2 (dead_zeros from M.height before zeros h.0 h.1)

  pub live_here : (from row : ℕ) (e : ℤ) → IsNextKept (pos 0) M col from row e → of_int f.given e ≢ 0 → IsLiveColumn f M col
  live_here from row e next n = (row, next.within, λ z. n (ap (of_int f.given) next.here ∙ z))

-- ---- roots
module _ (f : FiniteField) (v : Module) (r : ℤ) where
  pub none_live : top v r ≡ 0 → ¬ IsLiveAt f v r
  none_live e h =
      let z = zero_matrix (pos 0) (dimension v) (dimension v) in
      let none = ap (λ M. entry (pos 0) M h.row h.col) (past_end (divided_powers v r) 0 z (omega (arith, e))) ∙ entry-table (pos 0) (dimension v) (dimension v) (λ _ _. pos 0) h.row h.col h.row_within h.col_within in
      h.nonzero (ap (of_int f.given) none ∙ zero_int f)

  pub live_by : (M : Matrix ℤ) (col : ℕ) → M ≡ divided_power v r 1 → M.height ≡ dimension v → col < dimension v → IsLiveColumn f M col → IsLiveAt f v r
  live_by M col same height inside h = record {
    row = h.0;
    col = col;
    row_within = let l = h.1 in omega (arith, l, height);
    col_within = inside;
    nonzero = λ z. h.2 (ap (λ t. of_int f.given (entry (pos 0) t h.0 col)) same ∙ z);
  }

  pub not_live : (M : Matrix ℤ) → M ≡ divided_power v r 1 → M.height ≡ dimension v → ((col : ℕ) → col < dimension v → ¬ IsLiveColumn f M col) → ¬ IsLiveAt f v r
  not_live M same height none h = none h.col h.col_within (h.row, (let l = h.row_within in omega (arith, l, height)), λ z. h.nonzero (ap (λ t. of_int f.given (entry (pos 0) t h.row h.col)) (sym same) ∙ z))

-- one place more at which something fails
pub fails_more : (P : ℕ → Type 0) (n : ℕ) → ((k : ℕ) → k < n → ¬ P k) → ¬ P n → (k : ℕ) → k < n + 1 → ¬ P k
fails_more P n before here k l = ⊎_elim (before k) (λ m. (let e : k ≡ n = omega (arith, l, m) in subst (λ t. ¬ P t) (sym e) here)) (within_or_past k n)

-- one place more, counted from 1, at which something holds
pub holds_more : (P : ℕ → Type 0) (n : ℕ) → ((k : ℕ) → 1 ≤ k → k < n + 1 → P k) → P (n + 1) → (k : ℕ) → 1 ≤ k → k < n + 1 + 1 → P k
holds_more P n before here k f l = ⊎_elim (before k f) (λ m. (let e : k ≡ n + 1 = omega (arith, l, m) in subst P (sym e) here)) (within_or_past k (n + 1))

-- ---- weights
pub multiple_within : (c : ℕ) (x : Vector) → c ≤ 8 → IsWithin 1000000 x → IsWithin 8000000 (times (pos c) x)
multiple_within c x few small = from_entries 8000000 (times (pos c) x) (λ k.
    subst (λ t. unsigned_abs t ≤ 8000000) (sym (entry-times (pos c) x k)) (abs_mul (pos c) (coordinate x k) 8 1000000 few (entry_within 1000000 x k small)))

pub less_within : (c : ℕ) (x : Vector) (j : ℕ) → c ≤ 8 → IsWithin 1000000 x → IsWithin 8000001 (less_axis c x j)
less_within c x j few small = from_entries 8000001 (less_axis c x j) (λ k.
    (let a = coordinate (times (pos c) x) k in
    let b = coordinate (minus (unit 8 j)) k in
    let s = abs_add a b in
    let p = entry_within 8000000 (times (pos c) x) k (multiple_within c x few small) in
    let q = entry-times (neg_ℤ (pos 1)) (unit 8 j) k in
    let u = entry_within 1 (unit 8 j) k (unit_within 8 j) in
    let w = abs_mul (neg_ℤ (pos 1)) (coordinate (unit 8 j) k) 1 1 (omega arith) u in
    let e = ap unsigned_abs (entry-plus (times (pos c) x) (minus (unit 8 j)) k) in
    let g = ap unsigned_abs q in
    omega (arith, s, p, w, e, g)))

-- an entry of a multiple, as the code computes it
pub multiple_entry : (a e z : ℤ) (by : ℕ) → a ≡ e → unsigned_abs e ≤ 1000000 → by ≤ 8 → z ≡ pos by → to_z w128 (of_z w128 (to_z w128 (of_z w128 a) *ℤ to_z w128 (of_z w128 z))) ≡ pos by *ℤ e
multiple_entry a e z by p small few q =
    let x = ap (λ t. to_z w128 (of_z w128 t)) p ∙ plain e 1000000 small (lit< tt) in
    let y = ap (λ t. to_z w128 (of_z w128 t)) q ∙ plain (pos by) 8 few (lit< tt) in
    ap₂ (λ s t. to_z w128 (of_z w128 (s *ℤ t))) x y ∙ plain (e *ℤ pos by) 8000000 (abs_mul e (pos by) 1000000 8 small few) (lit< tt) ∙ *ℤ_comm e (pos by)

pub less_long : (c : ℕ) (x : Vector) (j : ℕ) → length x ≡ 8 → length (less_axis c x j) ≡ 8
less_long c x j l = length-plus (times (pos c) x) (minus (unit 8 j)) 8 (length-times (pos c) x ∙ l) (length-times (neg_ℤ (pos 1)) (unit 8 j) ∙ length-unit 8 j)

-- a weight lowers to one weight, which is 0 or not
pub to_zero : (d : RootDatum) → IsLoaded d → (x y : Vector) (b : Bool) → length x ≡ 8 → Lowers d x y → b ≡ pointwise int_eq y (replicate 8 (pos 0)) → IsTrue b ↔ LowersToZero d x
to_zero d loaded x y b long l e =
    let t = zero_test y (lowers_long d loaded x y l long) b e in
    (λ h. (y, l, t.0 h), λ h. t.1 (subst IsZero (lowers_once d x h.0 y h.1 l) h.2))

-- the number of a positive root
pub first_number : (m k : ℕ) → k < m → number_at m k ≡ pos (k + 1)
first_number m k l = let e : k ≡ k + 1 - 1 = omega arith in ap (number_at m) e ∙ number_at_simple m (k + 1) (omega arith) (omega (arith, l))

-- ---- axes
pub covered_by : (d : RootDatum) (v : Module) (j c : ℕ) → c ≤ 8 → IsCoveredTimes d v c j → IsCovered d v j
covered_by d v j c few h = record { times = c; few = few; place = h.0; within = h.1; lowered = h.2.0; lowers = h.2.1; zero = h.2.2 }

pub not_covered : (d : RootDatum) (v : Module) (j : ℕ) → ((c : ℕ) → c < 9 → ¬ IsCoveredTimes d v c j) → ¬ IsCovered d v j
not_covered d v j none h = none h.times (let f = h.few in omega (arith, f)) (h.place, h.within, (h.lowered, h.lowers, h.zero))
