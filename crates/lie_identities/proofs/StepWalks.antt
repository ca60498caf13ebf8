-- The lists of steps, as far as a walk over the kept entries has come.
use Rattle.std.proofs.Common.{◌≡◌, ◌≢◌, ℕ, zero, suc, ◌+◌, ◌-◌, ◌*◌, ◌^◌, ◌<◌, ◌≤◌, ℤ, pos, nat_abs, List, [], ◌∷◌, ◌++◌, map, length, get_or, cond, true, false, Bool, refl, sym, ap, ◌∙◌, subst, arith, inl, inr}
use Rattle.std.specs.List.{flat_map, range_with_len}
use Rattle.std.specs.Ordering.{int_eq}
use Rattle.std.proofs.lemmas.List.{append-nil, get_or_past, length-map}
use Rattle.std.proofs.lemmas.List.FromFn.{length-map-range_with_len, get_or-map-range_with_len}
use Rattle.std.proofs.Math.ListN.{get_or-map}
use Rattle.std.proofs.lemmas.Grind.{flat_map-append}
use Rattle.std.proofs.lemmas.Bool.{cases_eq, cases_lt}
use Rattle.std.proofs.lemmas.Bool.Decides.{Decides-int_eq}
use Rattle.lie_ring.specs.Matrices.{Matrix, entry, zero_matrix}
use Rattle.lie_datum.specs.Vectors.{Vector, pairing}
use Rattle.lie_datum.specs.RootList.{RootDatum, IsNumber, IsLoaded}
use Rattle.lie_datum.specs.Numbers.{place, number_at}
use Rattle.lie_datum.proofs.NumberLemmas.{numbered_at, place_within}
use Rattle.lie_datum.proofs.SignedRoots.{same_place}
use Rattle.lie_datum.proofs.TableFilling.{range_next}
use Rattle.lie_orbit.proofs.WeightLemmas.{abs_pairing}
use Rattle.lie_mat.specs.Kept.{AreZeros, IsNextKept}
use Rattle.lie_const.specs.Modules.{Module, IsModule, dimension, top, divided_powers, divided_power}
use Rattle.lie_identities.specs.Audit.{HasLightWeights}
use Rattle.lie_identities.specs.Columns.{HasLightPairings}
use Rattle.lie_identities.specs.declared.steps.Step.{Step}
use Rattle.lie_identities.specs.StepLists.{step, step_at, steps_in, steps_of, root_steps, all_steps, HasSmallColumn, HasSmallColumns, HasSmallEntries, HasFewPowers}

-- one more number of a range
pub flat-next : {X : Type 0} (f : ℕ → List X) (s n : ℕ) → flat_map f (range_with_len s (n + 1)) ≡ flat_map f (range_with_len s n) ++ f (s + n)
flat-next f s n =
    ap (flat_map f) (range_next s n)
    ∙ flat_map-append f (range_with_len s n) ((s + n) ∷ [])
    ∙ ap (λ ys. flat_map f (range_with_len s n) ++ ys) (append-nil (f (s + n)))

-- numbers with empty lists
pub flat-skip : {X : Type 0} (f : ℕ → List X) (n m : ℕ) → n ≤ m → ((k : ℕ) → n ≤ k → k < m → f k ≡ []) → flat_map f (range_with_len 0 m) ≡ flat_map f (range_with_len 0 n)
flat-skip f n zero l z = ap (λ k. flat_map f (range_with_len 0 k)) (let e : zero ≡ n = omega (arith, l) in e)
flat-skip f n (suc m) l z = elim (cases_eq n (suc m)) [
  | inl e ↦ ap (λ k. flat_map f (range_with_len 0 k)) (sym e)
  | inr h ↦
      ap (λ k. flat_map f (range_with_len 0 k)) (let e : suc m ≡ m + 1 = omega arith in e)
      ∙ flat-next f 0 m
      ∙ ap (λ ys. flat_map f (range_with_len 0 m) ++ ys) (ap f (let e : 0 + m ≡ m = omega arith in e) ∙ z m (omega (arith, l, h)) (omega arith))
      ∙ append-nil (flat_map f (range_with_len 0 m))
      ∙ flat-skip f n m (omega (arith, l, h)) (λ k a b. z k a (omega (arith, b)))
]

module _ (v : Module) (r : ℤ) (b k : ℕ) (M : Matrix ℤ) (is : M ≡ divided_power v r k) where
  -- no step where the entry is 0
  none-at : (a : ℕ) → entry (pos 0) M a b ≡ pos 0 → step_at v r b k a ≡ []
  none-at a e =
      let z : entry (pos 0) (divided_power v r k) a b ≡ pos 0 = ap (λ N. entry (pos 0) N a b) (sym is) ∙ e in
      ap (λ t. cond t [] (step k a (entry (pos 0) (divided_power v r k) a b) ∷ [])) ((Decides-int_eq (entry (pos 0) (divided_power v r k) a b) (pos 0)).1 z)

  -- else one
  one-at : (a : ℕ) (n : ℤ) → n ≡ entry (pos 0) M a b → n ≢ pos 0 → step_at v r b k a ≡ step k a n ∷ []
  one-at a n e nonzero =
      let z : n ≡ entry (pos 0) (divided_power v r k) a b = e ∙ ap (λ N. entry (pos 0) N a b) is in
      by_test (int_eq (entry (pos 0) (divided_power v r k) a b) (pos 0)) refl z
    where
      by_test : (t : Bool) → int_eq (entry (pos 0) (divided_power v r k) a b) (pos 0) ≡ t → n ≡ entry (pos 0) (divided_power v r k) a b
          → cond t [] (step k a (entry (pos 0) (divided_power v r k) a b) ∷ []) ≡ step k a n ∷ []
      by_test true s z = absurd (nonzero (z ∙ (Decides-int_eq (entry (pos 0) (divided_power v r k) a b) (pos 0)).0 s))
      by_test false s z = ap (λ m. step k a m ∷ []) (sym z)

  -- the walk goes on with the next entry
  pub step-next : (from row : ℕ) (n : ℤ) → IsNextKept (pos 0) M b from row n
      → flat_map (step_at v r b k) (range_with_len 0 from) ++ step k row n ∷ [] ≡ flat_map (step_at v r b k) (range_with_len 0 (row + 1))
  step-next from row n next =
      let f = step_at v r b k in
      sym (flat-next f 0 row
      ∙ ap (λ ys. flat_map f (range_with_len 0 row) ++ ys) (ap f (let e : 0 + row ≡ row = omega arith in e) ∙ one-at row n next.here next.nonzero)
      ∙ ap (λ ys. ys ++ step k row n ∷ []) (flat-skip f from row next.after (λ a p q. none-at a (next.before a p q))))

  -- it ends where no entry is left
  pub steps-end : (from : ℕ) → M.height ≡ dimension v → from ≤ dimension v → AreZeros (pos 0) M b from M.height → flat_map (step_at v r b k) (range_with_len 0 from) ≡ steps_in v r b k
  steps-end from height low zeros = sym (flat-skip (step_at v r b k) from (dimension v) low (λ a p q. none-at a (zeros a p (omega (arith, q, height)))))

-- what holds of the root at each place, and where no matrix is kept, holds of each root, of what is kept of it
everywhere : (d : RootDatum) (v : Module) (P : List (Matrix ℤ) → Type 0) → IsModule d v → P [] → ((h : ℕ) → h < 2 * length d.positive → P (divided_powers v (number_at (length d.positive) h))) → (r : ℤ) → P (divided_powers v r)
everywhere d v P shape none at r = elim (cases_lt (place v.positive r) (2 * length d.positive)) [
  | inl l ↦
      let h = place v.positive r in
      let back : place v.positive (number_at (length d.positive) h) ≡ h = ap (λ m. place m (number_at (length d.positive) h)) shape.positive ∙ (numbered_at d h l).place in
      subst (λ i. P (get_or v.powers i [])) back (at h l)
  | inr g ↦ subst P (sym (get_or_past v.powers (place v.positive r) [] (let c = shape.roots in omega (arith, g, c)))) none
]

-- a bound on the number of matrices
pub few-everywhere : (d : RootDatum) (v : Module) → IsModule d v → ((h : ℕ) → h < 2 * length d.positive → top v (number_at (length d.positive) h) ≤ 16384) → HasFewPowers v
few-everywhere d v shape at r = everywhere d v (λ Ms. length Ms ≤ 16384) shape (omega arith) at r

-- a bound on their entries
pub small-everywhere : (d : RootDatum) (v : Module) → IsModule d v → ((h : ℕ) → h < 2 * length d.positive → HasSmallColumns v (number_at (length d.positive) h) (dimension v)) → HasSmallEntries v
small-everywhere d v shape at r =
    everywhere d v (λ Ms. (b : ℕ) → b < dimension v → (k a : ℕ) → k < length Ms → a < dimension v → nat_abs (entry (pos 0) (get_or Ms k (zero_matrix (pos 0) (dimension v) (dimension v))) a b) < 2 ^ 126)
    shape (λ b l k a i j. absurd (omega (arith, i))) at r

-- no weight that is light has a large pairing with a simple coroot
pub light-pairings : (d : RootDatum) (v : Module) → IsLoaded d → HasLightWeights v → HasLightPairings d v
light-pairings d v loaded light i a l = elim (cases_lt (i - 1) (length d.base.coroots)) [
  | inl k ↦
      let y = get_or d.base.coroots (i - 1) [] in
      let c = loaded.axioms.input.coroots (i - 1) [] k in
      let long = c.0.0 in
      let p = abs_pairing 1000000 100 (get_or v.weights a []) y (light a [] l) c.1 in
      let few : (1000000 * 100) * length y ≤ 800000000 = omega (arith, long) in
      omega (arith, p, few)
  | inr g ↦
      let none : pairing (get_or v.weights a []) (get_or d.base.coroots (i - 1) []) ≡ pos 0 = ap (pairing (get_or v.weights a [])) (get_or_past d.base.coroots (i - 1) [] g) ∙ pairing-none (get_or v.weights a []) in
      subst (λ z. nat_abs z ≤ 800000000) (sym none) (omega arith)
]
  where
    pairing-none : (x : Vector) → pairing x [] ≡ pos 0
    pairing-none [] = refl
    pairing-none (a ∷ x) = refl

-- the number at the place of a root
pub number-place : (d : RootDatum) (r : ℤ) → IsNumber d r → number_at (length d.positive) (place (length d.positive) r) ≡ r
number-place d r number =
    let w = place_within d r number in
    let at = numbered_at d (place (length d.positive) r) w.2 in
    same_place (length d.positive) (number_at (length d.positive) (place (length d.positive) r)) r (place_within d (number_at (length d.positive) (place (length d.positive) r)) at.number) w at.place

-- the lists of lists, as they are kept
module _ {X : Type 0} (f : X → List (List Step)) (xs : List X) (v : Module) (e : map f xs ≡ all_steps v) where
  pub lists-count : length xs ≡ 2 * v.positive
  lists-count = sym (length-map xs f) ∙ ap length e ∙ length-map-range_with_len (λ h. root_steps v (number_at v.positive h)) 0 (2 * v.positive)

  pub list-at : (h : ℕ) (x : X) → h < 2 * v.positive → x ≡ get_or xs h x → f x ≡ root_steps v (number_at v.positive h)
  list-at h x l is =
      ap f is ∙ sym (get_or-map f xs h x) ∙ ap (λ ys. get_or ys h (f x)) e
      ∙ get_or-map-range_with_len (λ h. root_steps v (number_at v.positive h)) 0 (2 * v.positive) h h (f x) l (omega arith)

module _ {X : Type 0} (f : X → List Step) (xs : List X) (v : Module) (r : ℤ) (e : map f xs ≡ root_steps v r) where
  pub columns-count : length xs ≡ dimension v
  columns-count = sym (length-map xs f) ∙ ap length e ∙ length-map-range_with_len (steps_of v r) 0 (dimension v)

  pub column-at : (b : ℕ) (x : X) → b < dimension v → x ≡ get_or xs b x → f x ≡ steps_of v r b
  column-at b x l is =
      ap f is ∙ sym (get_or-map f xs b x) ∙ ap (λ ys. get_or ys b (f x)) e
      ∙ get_or-map-range_with_len (steps_of v r) 0 (dimension v) b b (f x) l (omega arith)

-- one more power whose entries in a column are small
pub small-next : (v : Module) (r : ℤ) (b k : ℕ) → HasSmallColumn v r k b → ((a : ℕ) → a < dimension v → nat_abs (entry (pos 0) (divided_power v r (k + 1)) a b) < 2 ^ 126) → HasSmallColumn v r (k + 1) b
small-next v r b k before here j a l i = elim (cases_eq j k) [
  | inl e ↦ subst (λ m. nat_abs (entry (pos 0) (divided_power v r m) a b) < 2 ^ 126) (let h : k + 1 ≡ suc j = omega (arith, e) in h) (here a i)
  | inr g ↦ before j a (omega (arith, l, g)) i
]
