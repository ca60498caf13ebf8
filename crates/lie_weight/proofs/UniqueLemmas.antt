-- A completed module is determined by its weights and the matrices of its simple roots.
use Rattle.std.proofs.Common.{◌≡◌, ◌≢◌, ℕ, zero, suc, ◌*◌, ◌<◌, ◌≤◌, ℤ, pos, negsuc, neg_ℤ, List, [], ◌∷◌, length, get_or, refl, sym, ap, subst, ◌∙◌, arith, ◌⊎◌, inl, inr, ⊎_elim, unsigned_abs}
use Rattle.lie_ring.specs.Integers.{integers}
use Rattle.lie_ring.specs.Powers.{power}
use Rattle.lie_ring.specs.Matrices.{Matrix, product, scaled, zero_matrix}
use Rattle.lie_datum.specs.Vectors.{Vector}
use Rattle.lie_datum.specs.Numbers.{place, number_at}
use Rattle.lie_datum.specs.RootDatum.{rank, IsSimpleIndex}
use Rattle.lie_datum.specs.RootList.{RootDatum, IsNumber, IsLoaded}
use Rattle.lie_datum.proofs.Entries.{within_or_past}
use Rattle.lie_datum.proofs.NumberLemmas.{numbered_at}
use Rattle.lie_const.specs.Modules.{Module, IsModule, dimension, divided_powers, divided_power, weyl_element, weyl_inverse}
use Rattle.lie_const.specs.Signs.{Signs}
use Rattle.lie_mat.specs.Wide.{IsHugeMatrix}
use Rattle.lie_weight.specs.Conjugation.{absolute_height, IsLowering, conjugated, IsCompletedBelow, absolute_weyl, IsHuge}
use Rattle.lie_weight.specs.Factors.{work_on}
use Rattle.lie_weight.specs.Along.{HasSimple}
use Rattle.lie_orbit.proofs.WeightLemmas.{simple_some}
use Rattle.lie_weight.proofs.StepLemmas.{negative_some}
use Rattle.lie_weight.proofs.CompletionLemmas.{lowered_below, weyl_same, inverse_same, absolute_weyl_same}
use Rattle.lie_weight.proofs.LoweringLemmas.{lowering_exists}

-- a number of a simple root or its negative, or of another root
simple_or_past : (d : RootDatum) (r : ℤ) → IsNumber d r → ((i : ℕ) × IsSimpleIndex d.base i × ((r ≡ pos i) ⊎ (r ≡ neg_ℤ (pos i)))) ⊎ (rank d.base < unsigned_abs r)
simple_or_past d (pos zero) n = cc
simple_or_past d (pos (suc k)) n = ⊎_elim (λ l. inr l) (λ l. inl (suc k, (omega arith, l), inl refl)) (within_or_past (rank d.base) (suc k))
simple_or_past d (negsuc k) n = ⊎_elim (λ l. inr l) (λ l. inl (suc k, (omega arith, l), inr refl)) (within_or_past (rank d.base) (suc k))

-- ---- lists of matrices
-- two lists that agree at each place, where their ends are not the default, are one
lists_same : (z : Matrix ℤ) (Ms Ns : List (Matrix ℤ)) → ((k : ℕ) → length Ms ≡ suc k → get_or Ms k z ≢ z) → ((k : ℕ) → length Ns ≡ suc k → get_or Ns k z ≢ z) → ((k : ℕ) → get_or Ms k z ≡ get_or Ns k z) → Ms ≡ Ns
lists_same z [] [] p q h = refl
lists_same z [] (N ∷ Ns) p q h = absurd (q (length Ns) refl (end z (N ∷ Ns) (length Ns) (λ k. sym (h k))))
  where
    end : (z : Matrix ℤ) (Ns : List (Matrix ℤ)) (k : ℕ) → ((k : ℕ) → get_or Ns k z ≡ z) → get_or Ns k z ≡ z
    end z Ns k h = h k
lists_same z (M ∷ Ms) [] p q h = absurd (p (length Ms) refl (h (length Ms)))
lists_same z (M ∷ Ms) (N ∷ Ns) p q h =
    let e = h zero in
    let f = lists_same z Ms Ns (λ k l. p (suc k) (ap suc l)) (λ k l. q (suc k) (ap suc l)) (λ k. h (suc k)) in
    cc

places_same : (n : ℕ) (xs ys : List (List (Matrix ℤ))) → length xs ≡ n → length ys ≡ n → ((k : ℕ) → k < n → get_or xs k [] ≡ get_or ys k []) → xs ≡ ys
places_same n [] [] p q h = refl
places_same n [] (y ∷ ys) p q h = absurd (omega (arith, p, q))
places_same n (x ∷ xs) [] p q h = absurd (omega (arith, p, q))
places_same zero (x ∷ xs) (y ∷ ys) p q h = absurd (omega (arith, p))
places_same (suc n) (x ∷ xs) (y ∷ ys) p q h =
    let e = h zero (omega arith) in
    let f = places_same n xs ys (omega (arith, p)) (omega (arith, q)) (λ k l. h (suc k) (omega (arith, l))) in
    cc

-- a root has the same list in both where it has the same matrices
pub root_lists : (d : RootDatum) (v w : Module) → IsModule d v → IsModule d w → w.weights ≡ v.weights → (r : ℤ) → IsNumber d r → ((k : ℕ) → divided_power w r (suc k) ≡ divided_power v r (suc k)) → divided_powers w r ≡ divided_powers v r
root_lists d v w sv sw same r n h =
    let size = ap length same in
    let z = zero_matrix (pos 0) (dimension v) (dimension v) in
    lists_same z (divided_powers w r) (divided_powers v r)
    (λ k e. subst (λ m. get_or (divided_powers w r) k (zero_matrix (pos 0) m m) ≢ zero_matrix (pos 0) m m) size (sw.last r k n e)) (λ k e. sv.last r k n e)
    (λ k. subst (λ m. get_or (divided_powers w r) k (zero_matrix (pos 0) m m) ≡ get_or (divided_powers v r) k z) size (h k))

-- ---- two modules with the same weights and the same matrices of the simple roots
-- the simple roots and their negatives have the same matrices in both
pub record SameSimple (d : RootDatum) (v w : Module) : Type 0 where
  pub up : (i : ℕ) → IsSimpleIndex d.base i → divided_powers w (pos i) ≡ divided_powers v (pos i)
  pub down : (i : ℕ) → IsSimpleIndex d.base i → divided_powers w (neg_ℤ (pos i)) ≡ divided_powers v (neg_ℤ (pos i))

-- which they have where one rule gives them
pub simple_same : (d : RootDatum) → IsLoaded d → (g : ℤ → ℕ → Matrix ℤ) (ws : List Vector) (v w : Module) → HasSimple d g ws v → HasSimple d g ws w → SameSimple d v w
simple_same d loaded g ws v w a b = record {
  up = λ i s. root_lists d v w a.shape b.shape (b.weights ∙ sym a.weights) (pos i) (simple_some d loaded i s) (λ k. b.up i k s ∙ sym (a.up i k s));
  down = λ i s. root_lists d v w a.shape b.shape (b.weights ∙ sym a.weights) (neg_ℤ (pos i)) (negative_some d loaded i s) (λ k. b.down i k s ∙ sym (a.down i k s));
}

module _ (d : RootDatum) (loaded : IsLoaded d) (v w : Module) (same : w.weights ≡ v.weights) (simple : SameSimple d v w) where
  step_same : (q : ℤ) → divided_powers w q ≡ divided_powers v q → (k : ℕ) → 1 ≤ k → divided_power w q k ≡ divided_power v q k
  step_same q e zero l = absurd (omega (arith, l))
  step_same q e (suc k) l = ap (λ n. get_or (divided_powers w q) k (zero_matrix (pos 0) n n)) (ap length same) ∙ ap (λ Ms. get_or Ms k (zero_matrix (pos 0) (dimension v) (dimension v))) e

  module _ (i : ℕ) (s : IsSimpleIndex d.base i) where
    weyl_is_same : weyl_element integers w i ≡ weyl_element integers v i
    weyl_is_same = weyl_same v w same i (simple.up i s) (simple.down i s)

    inverse_is_same : weyl_inverse integers w i ≡ weyl_inverse integers v i
    inverse_is_same = inverse_same v w same i (simple.up i s) (simple.down i s)

    absolute_is_same : absolute_weyl w i ≡ absolute_weyl v i
    absolute_is_same = absolute_weyl_same v w same i (simple.up i s) (simple.down i s)

  -- completed below a height, they have the same matrices there
  module _ (eta : Signs) (h : ℕ) (cv : IsCompletedBelow d eta v h) (cw : IsCompletedBelow d eta w h) where
    conjugates_same : (i : ℕ) (r s : ℤ) (k : ℕ) → IsLowering d i r s → absolute_height d r < h → 1 ≤ k → divided_power w s k ≡ divided_power v s k → divided_power w r k ≡ divided_power v r k
    conjugates_same i r s k l low one e =
        cw r low i s k l one
        ∙ ap (λ A. scaled integers (power integers (eta i s) k) (product integers (product integers A (divided_power w s k)) (weyl_inverse integers w i))) (weyl_is_same i l.index)
        ∙ ap (λ B. scaled integers (power integers (eta i s) k) (product integers (product integers (weyl_element integers v i) (divided_power w s k)) B)) (inverse_is_same i l.index)
        ∙ ap (λ E. scaled integers (power integers (eta i s) k) (conjugated v i E)) e
        ∙ sym (cv r low i s k l one)

    powers_below : (n : ℕ) (r : ℤ) (k : ℕ) → IsNumber d r → absolute_height d r < n → absolute_height d r < h → 1 ≤ k → divided_power w r k ≡ divided_power v r k
    powers_below zero r k n l low one = absurd (omega (arith, l))
    powers_below (suc m) r k n l low one =
        ⊎_elim (λ x. ⊎_elim (λ e. subst (λ (q : ℤ). divided_power w q k ≡ divided_power v q k) (sym e) (step_same (pos x.0) (simple.up x.0 x.1) k one))
        (λ e. subst (λ (q : ℤ). divided_power w q k ≡ divided_power v q k) (sym e) (step_same (neg_ℤ (pos x.0)) (simple.down x.0 x.1) k one)) x.2)
        (λ past. (let e = lowering_exists d loaded r n past in
        let b = lowered_below d loaded r e.0 e.1 e.2 in
        conjugates_same e.0 r e.1 k e.2 low one (powers_below m e.1 k e.2.number (omega (arith, b, l)) (omega (arith, b, low)) one)))
        (simple_or_past d r n)

    pub powers_same : (r : ℤ) (k : ℕ) → IsNumber d r → absolute_height d r < h → 1 ≤ k → divided_power w r k ≡ divided_power v r k
    powers_same r k n low one = powers_below (suc (absolute_height d r)) r k n (omega arith) low one

    -- and the same work up to that height
    pub huge_same : (r : ℤ) (k : ℕ) → absolute_height d r ≤ h → IsHuge d v r k → IsHuge d w r k
    huge_same r k low x =
        let i = x.index in
        let s = x.lowered in
        let b = lowered_below d loaded r i s x.lowering in
        let e = powers_same s k x.lowering.number (omega (arith, b, low)) x.first in
        record {
          index = i;
          lowered = s;
          lowering = x.lowering;
          first = x.first;
          work = subst IsHugeMatrix (sym (ap (λ A. work_on A (divided_power w s k)) (absolute_is_same i x.lowering.index) ∙ ap (work_on (absolute_weyl v i)) e)) x.work;
        }

-- two modules with the same weights and the same matrices are one
pub one_module : (d : RootDatum) (v w : Module) → IsModule d v → IsModule d w → w.weights ≡ v.weights → ((r : ℤ) (k : ℕ) → IsNumber d r → 1 ≤ k → divided_power w r k ≡ divided_power v r k) → w ≡ v
one_module d v w sv sw same h =
    let p : w.positive ≡ v.positive = sw.positive ∙ sym sv.positive in
    let l = places_same (2 * length d.positive) w.powers v.powers sw.roots sv.roots (λ k m. at k m) in
    let a : ◌≡◌ {A = Module} w (record { positive = v.positive; weights = w.weights; powers = w.powers }) = ap (λ (t : ℕ). record { positive = t; weights = w.weights; powers = w.powers }) p in
    let b : ◌≡◌ {A = Module} (record { positive = v.positive; weights = w.weights; powers = w.powers }) (record { positive = v.positive; weights = v.weights; powers = w.powers }) = ap (λ (t : List Vector). record { positive = v.positive; weights = t; powers = w.powers }) same in
    let c : ◌≡◌ {A = Module} (record { positive = v.positive; weights = v.weights; powers = w.powers }) v = ap (λ (t : List (List (Matrix ℤ))). record { positive = v.positive; weights = v.weights; powers = t }) l in
    a ∙ b ∙ c
  where
    at : (k : ℕ) → k < 2 * length d.positive → get_or w.powers k [] ≡ get_or v.powers k []
    at k m =
        let q = numbered_at d k m in
        let e = root_lists d v w sv sw same (number_at (length d.positive) k) q.number (λ j. h (number_at (length d.positive) k) (suc j) q.number (omega arith)) in
        ap (λ t. get_or w.powers t []) (sym q.place ∙ ap (λ t. place t (number_at (length d.positive) k)) (sym sw.positive)) ∙ e ∙ sym (ap (λ t. get_or v.powers t []) (sym q.place ∙ ap (λ t. place t (number_at (length d.positive) k)) (sym sv.positive)))
