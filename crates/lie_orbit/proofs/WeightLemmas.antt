-- The sizes of roots and coroots, how weights pair with them, how reflections move weights, and the first root of a kind.
use Rattle.std.proofs.Common.{◌≡◌, ℕ, zero, suc, ◌+◌, ◌-◌, ◌*◌, ◌<◌, ◌≤◌, ℤ, pos, neg_ℤ, ◌*ℤ◌, List, [], ◌∷◌, map, length, get_or, refl, sym, ap, subst, ◌∙◌, arith, unsigned_abs, ⊎_elim}
use Rattle.std.specs.Option.{unwrap_or, IsSome}
use Rattle.std.specs.List.{All}
use Rattle.std.proofs.lemmas.List.{get_or_default}
use Rattle.std.proofs.lemmas.Bool.Decides.{nat_tests}
use Rattle.std.proofs.lemmas.Int.{ints}
use Rattle.lie_datum.specs.Vectors.{Vector, pairing, plus, times, combination, unit, entry}
use Rattle.lie_datum.specs.Numbers.{place, number_at}
use Rattle.lie_datum.specs.RootDatum.{simple, simple_root, simple_coroot, vector, covector, reflected, is_reflected, IsSimpleIndex, IsWithin}
use Rattle.lie_datum.specs.RootList.{RootDatum, root_of, IsNumber, IsLoaded}
use Rattle.lie_datum.proofs.Entries.{within_or_past, same_entries, length-unit}
use Rattle.lie_datum.proofs.NumberLemmas.{within, numbered_at, place_within}
use Rattle.lie_datum.proofs.SignedRoots.{root_is, number_is, same_place}
use Rattle.lie_datum.proofs.LoadedLaws.{short}
use Rattle.lie_datum.proofs.SimplesFirst.{simples_first_holds}
use Rattle.lie_datum.proofs.Reflections.{reflection_moves, pairing-unit}
use Rattle.lie_datum.proofs.Roots.{simple_covector}
use Rattle.lie_datum.proofs.VectorLemmas.{entry-combination, entry_within, abs_add, abs_mul, column_entry, vector_within, length-combination}
use Rattle.lie_orbit.specs.Weights.{coroot_pairing, IsMinuscule, HasLargePairing, IsFirstLargePairing}
use Rattle.lie_orbit.specs.Lowering.{IsHighRoot, IsFirstHigh}
use Rattle.lie_orbit.specs.Orbits.{IsReached, start, next, reflected_weight}

-- ---- bounds
pub abs_pairing : (m n : ℕ) (x y : Vector) → IsWithin m x → IsWithin n y → unsigned_abs (pairing x y) ≤ (m * n) * length y
abs_pairing m n [] y p q = omega arith
abs_pairing m n (a ∷ x) [] p q = omega arith
abs_pairing m n (a ∷ x) (b ∷ y) p q =
    let h = abs_pairing m n x y (λ k z l. p (suc k) z (omega (arith, l))) (λ k z l. q (suc k) z (omega (arith, l))) in
    let s = abs_add (a *ℤ b) (pairing x y) in
    let k = abs_mul a b m n (p zero (pos 0) (omega arith)) (q zero (pos 0) (omega arith)) in
    let e : (m * n) * suc (length y) ≡ m * n + (m * n) * length y = omega arith in
    omega (arith, h, s, k, e)

pub from_entries : (n : ℕ) (v : Vector) → ((k : ℕ) → unsigned_abs (entry v k) ≤ n) → IsWithin n v
from_entries n v h k z l = subst (λ t. unsigned_abs t ≤ n) (get_or_default v k (pos 0) z l) (h k)

combination_within : (c : Vector) (vs : List Vector) → IsWithin 100 c → All (IsWithin 100) vs → length vs ≤ 8 → IsWithin 80000 (combination c vs)
combination_within c vs p q l = from_entries 80000 (combination c vs) (λ k.
    (let column : Vector = map (λ v. entry v k) vs in
    let small : IsWithin 100 column = from_entries 100 column (λ i. subst (λ t. unsigned_abs t ≤ 100) (sym (column_entry vs k i)) (entry_within 100 (get_or vs i []) k (vector_within 100 vs i q))) in
    let bound = abs_pairing 100 100 c column p small in
    let long = length-column vs k in
    subst (λ t. unsigned_abs t ≤ 80000) (sym (entry-combination c vs k)) (omega (arith, bound, long, l))))
  where
    length-column : (vs : List Vector) (k : ℕ) → length (map (λ v. entry v k) vs) ≡ length vs
    length-column [] k = refl
    length-column (v ∷ vs) k = ap suc (length-column vs k)

-- a bound may be raised
pub within_more : (m n : ℕ) (v : Vector) → m ≤ n → IsWithin m v → IsWithin n v
within_more m n v l h k z p = let b = h k z p in omega (arith, b, l)

-- ---- numbers of the simple roots
pub number_at_simple : (m i : ℕ) → 1 ≤ i → i - 1 < m → number_at m (i - 1) ≡ pos i
number_at_simple m zero p q = absurd (omega (arith, p))
number_at_simple m (suc i) p q = let e : suc i - 1 ≡ i = omega arith in rw e (grind (arith, nat_tests, rw e at q))

-- ---- roots and coroots, and the simple ones
module _ (d : RootDatum) (loaded : IsLoaded d) where
  pub covector_within : (r : ℤ) → IsNumber d r → IsWithin 80000 (covector d.base (root_of d r))
  covector_within r n =
      let small = loaded.axioms.finite.small (root_of d r) (root_is d loaded r n) in
      combination_within (root_of d r).co_coeffs d.base.coroots small.1 (λ k z l. (loaded.axioms.input.coroots k z l).1) (let e = loaded.axioms.input.corank in let s = short d loaded in omega (arith, e, s))

  pub root_within : (r : ℤ) → IsNumber d r → IsWithin 80000 (vector d.base (root_of d r))
  root_within r n =
      let small = loaded.axioms.finite.small (root_of d r) (root_is d loaded r n) in
      combination_within (root_of d r).coeffs d.base.roots small.0 (λ k z l. (loaded.axioms.input.roots k z l).1) (short d loaded)

  pub simple_some : (i : ℕ) → IsSimpleIndex d.base i → IsNumber d (pos i)
  simple_some i s = subst IsSome (sym (simples_first_holds d loaded i s)) refl

  pub simple_is : (i : ℕ) → IsSimpleIndex d.base i → root_of d (pos i) ≡ simple i
  simple_is i s = ap (λ o. unwrap_or o (record { coeffs = []; co_coeffs = [] })) (simples_first_holds d loaded i s)

  pub simple_place : (i : ℕ) → IsSimpleIndex d.base i → i - 1 < length d.positive
  simple_place zero s = absurd (let p = s.0 in omega (arith, p))
  simple_place (suc i) s = let p = within d.positive i (simple_some (suc i) s) in omega (arith, p)

  pub simple_number : (i : ℕ) → IsSimpleIndex d.base i → number_at (length d.positive) (i - 1) ≡ pos i
  simple_number i s = number_at_simple (length d.positive) i s.0 (simple_place i s)

  pub vector-simple : (i : ℕ) → IsSimpleIndex d.base i → vector d.base (simple i) ≡ simple_root d.base i
  vector-simple zero s = absurd (let p = s.0 in omega (arith, p))
  vector-simple (suc i) s =
      let vs = d.base.roots in
      let e : suc i - 1 ≡ i = omega arith in
      let inside : i < length vs = let p = s.1 in omega (arith, p) in
      let few = short d loaded in
      let at = (loaded.axioms.input.roots i [] inside).0.0 in
      let long = length-combination (unit 8 (suc i)) vs (omega (arith, length-unit 8 (suc i))) (omega (arith, inside)) (λ k z l. (loaded.axioms.input.roots k z l).0.0) in
      let row = ap (λ k. get_or vs k []) e in
      same_entries (vector d.base (simple (suc i))) (simple_root d.base (suc i)) (long ∙ sym at ∙ ap length (sym row)) (λ k.
      entry-combination (unit 8 (suc i)) vs k ∙ pairing-unit 8 i (map (λ v. entry v k) vs) (omega (arith, inside, few)) (omega (arith, length-column vs k, inside))
      ∙ column_entry vs k i ∙ ap (λ v. entry v k) (sym row))
    where
      length-column : (vs : List Vector) (k : ℕ) → length (map (λ v. entry v k) vs) ≡ length vs
      length-column [] k = refl
      length-column (v ∷ vs) k = ap suc (length-column vs k)

  pub simple_small : (i : ℕ) → IsSimpleIndex d.base i → IsWithin 100 (simple_root d.base i)
  simple_small zero s = absurd (let p = s.0 in omega (arith, p))
  simple_small (suc i) s = let e : suc i - 1 ≡ i = omega arith in rw e ((loaded.axioms.input.roots i [] (let p = s.1 in omega (arith, p))).1)

  -- ---- reflections
  pub pairing-simple : (i : ℕ) (x : Vector) → IsSimpleIndex d.base i → pairing x (covector d.base (simple i)) ≡ pairing x (simple_coroot d.base i)
  pairing-simple i x s = simple_covector d.base (short d loaded) loaded.axioms.input.corank i x s

  -- the reflection by the number of its root
  pub reflected_by : (i : ℕ) (k : ℤ) (x : Vector) → IsSimpleIndex d.base i → k ≡ number_at (length d.positive) (i - 1) →
      plus x (times (neg_ℤ (pairing x (covector d.base (root_of d k)))) (vector d.base (root_of d k))) ≡ reflected_weight d i x
  reflected_by i k x s e =
      let root = ap (root_of d) (e ∙ simple_number i s) ∙ simple_is i s in
      ap (λ r. plus x (times (neg_ℤ (pairing x (covector d.base r))) (vector d.base r))) root
      ∙ ap (λ t. plus x (times (neg_ℤ t) (vector d.base (simple i)))) (pairing-simple i x s)
      ∙ ap (λ v. plus x (times (neg_ℤ (pairing x (simple_coroot d.base i))) v)) (vector-simple i s)

  -- the number that the code makes of a simple index
  pub at_simple : (i m : ℕ) (k : ℤ) → IsSimpleIndex d.base i → m ≡ length d.positive → k ≡ number_at m (i - 1) → k ≡ number_at (length d.positive) (i - 1)
  at_simple i m k s e f = f ∙ ap (λ t. number_at t (i - 1)) e

  pub at_simple_number : (i m : ℕ) (k : ℤ) → IsSimpleIndex d.base i → m ≡ length d.positive → k ≡ number_at m (i - 1) → IsNumber d k
  at_simple_number i m k s e f = subst (IsNumber d) (sym (at_simple i m k s e f ∙ simple_number i s)) (simple_some i s)

  -- a minuscule weight pairs with a simple coroot to -1, 0 or 1
  pub minuscule_step : (i : ℕ) (k : ℤ) (x : Vector) → IsSimpleIndex d.base i → k ≡ number_at (length d.positive) (i - 1) → IsMinuscule d x → unsigned_abs (coroot_pairing d x k) ≤ 1
  minuscule_step i k x s e minuscule = minuscule k (subst (IsNumber d) (sym (e ∙ simple_number i s)) (simple_some i s))

  -- the orbit of a minuscule weight is minuscule
  pub reached_minuscule : (w : Vector) → IsMinuscule d w → (x : Vector) → IsReached d w x → IsMinuscule d x
  reached_minuscule w h _ start = h
  reached_minuscule w h _ (next i x s p) = λ r n.
      (let q = number_is d loaded (reflected d.base i (root_of d r)) (is_reflected i (root_of d r) s (root_is d loaded r n)) in
      let e = reflection_moves d.base (short d loaded) loaded.axioms.input.corank i x (root_of d r) s ∙ ap (λ t. pairing x (covector d.base t)) (sym q.2) in
      subst (λ t. unsigned_abs t ≤ 1) (sym e) (reached_minuscule w h x p q.0 q.1))

-- ---- places
module _ (d : RootDatum) where
  -- P holds at no root before a place, nor at the root there
  pub none_more : (P : ℤ → Type 0) (p : ℕ) → p < 2 * length d.positive → ¬ P (number_at (length d.positive) p) → ((r : ℤ) → IsNumber d r → place (length d.positive) r < p → ¬ P r) →
      (r : ℤ) → IsNumber d r → place (length d.positive) r < p + 1 → ¬ P r
  none_more P p l here' before r n q = ⊎_elim (before r n)
      (λ m. (let at = numbered_at d p l in
      let same = same_place (length d.positive) r (number_at (length d.positive) p) (place_within d r n) (place_within d (number_at (length d.positive) p) at.number) (let e = at.place in omega (arith, q, m, e)) in
      subst (λ t. ¬ P t) (sym same) here')) (within_or_past (place (length d.positive) r) p)

  -- P holds at no root, since all stand before the place
  pub none_all : (P : ℤ → Type 0) (p : ℕ) → 2 * length d.positive ≤ p → ((r : ℤ) → IsNumber d r → place (length d.positive) r < p → ¬ P r) → (r : ℤ) → IsNumber d r → ¬ P r
  none_all P p l before r n = before r n (let q = (place_within d r n).2 in omega (arith, q, l))

  -- P holds at no root before that of the place
  pub none_before : (P : ℤ → Type 0) (p : ℕ) → p < 2 * length d.positive → ((r : ℤ) → IsNumber d r → place (length d.positive) r < p → ¬ P r) →
      (s : ℤ) → IsNumber d s → place (length d.positive) s < place (length d.positive) (number_at (length d.positive) p) → ¬ P s
  none_before P p l before s n q = before s n (let e = (numbered_at d p l).place in omega (arith, q, e))

  -- the first root of which P holds is one root
  pub one_first : (P : ℤ → Type 0) (r s : ℤ) → IsNumber d r → IsNumber d s → P r → P s →
      ((q : ℤ) → IsNumber d q → place (length d.positive) q < place (length d.positive) r → ¬ P q) → ((q : ℤ) → IsNumber d q → place (length d.positive) q < place (length d.positive) s → ¬ P q) → r ≡ s
  one_first P r s n k p q f g =
      let m = length d.positive in
      same_place m r s (place_within d r n) (place_within d s k)
      (⊎_elim (λ l. absurd (g r n l p)) (λ l. ⊎_elim (λ h. absurd (f s k h q)) (λ h. omega (arith, l, h)) (within_or_past (place m s) (place m r))) (within_or_past (place m r) (place m s)))

  pub high_first : (w : Vector) (p : ℕ) → p < 2 * length d.positive → IsHighRoot d w (number_at (length d.positive) p) → ((r : ℤ) → IsNumber d r → place (length d.positive) r < p → ¬ IsHighRoot d w r) → IsFirstHigh d w (number_at (length d.positive) p)
  high_first w p l high before = record { number = (numbered_at d p l).number; high = high; before = none_before (IsHighRoot d w) p l before }

  pub large_first : (w : Vector) (p : ℕ) → p < 2 * length d.positive → HasLargePairing d w (number_at (length d.positive) p) → ((r : ℤ) → IsNumber d r → place (length d.positive) r < p → ¬ HasLargePairing d w r) → IsFirstLargePairing d w (number_at (length d.positive) p)
  large_first w p l large before = record { number = (numbered_at d p l).number; large = large; before = none_before (HasLargePairing d w) p l before }

-- a vector once
pub times-one : (v : Vector) → times (pos 1) v ≡ v
times-one [] = refl
times-one (a ∷ v) = let h = times-one v in let e : pos 1 *ℤ a ≡ a = omega (arith, ints) in cc
