-- Modules with the same weights and the same matrices of the simple roots are one, and the first place that is huge is one.
use Rattle.std.proofs.Common.{◌≡◌, ℕ, suc, ◌≤◌, ℤ, List, length, sym, ◌∙◌, arith, ◌⊎◌, inl, inr, ⊎_elim}
use Rattle.lie_ring.specs.Matrices.{Matrix}
use Rattle.lie_datum.specs.Vectors.{Vector}
use Rattle.lie_datum.specs.Numbers.{place}
use Rattle.lie_datum.specs.RootList.{RootDatum, IsNumber, IsLoaded}
use Rattle.lie_datum.proofs.Entries.{within_or_past}
use Rattle.lie_datum.proofs.NumberLemmas.{place_within}
use Rattle.lie_datum.proofs.SignedRoots.{same_place}
use Rattle.lie_const.specs.Modules.{Module}
use Rattle.lie_const.specs.Signs.{Signs}
use Rattle.lie_weight.specs.Conjugation.{absolute_height, IsCompleted, IsCompletedBelow, IsHuge, Precedes}
use Rattle.lie_weight.specs.OrbitModules.{HasSteps}
use Rattle.lie_weight.specs.OrbitFaults.{IsFirstHugeAlong}
use Rattle.lie_weight.specs.Along.{HasSimple, IsFirstHugeFrom}
use Rattle.lie_weight.specs.Completion.{step_powers}
use Rattle.lie_weight.proofs.SimpleLemmas.{steps_simple, huge_from}
use Rattle.lie_weight.proofs.UniqueLemmas.{simple_same, powers_same, huge_same, one_module}

-- ---- the order of the places
module _ (d : RootDatum) where
  -- of two places one stands before the other, or they are the same
  pub trichotomy : (q r : ℤ) (j k : ℕ) → IsNumber d q → IsNumber d r → Precedes d q j r k ⊎ (Precedes d r k q j ⊎ ((q ≡ r) × (j ≡ k)))
  trichotomy q r j k n m =
      ⊎_elim (λ l. inl (inl l)) (λ l. ⊎_elim (λ l'. inr (inl (inl l'))) (λ l'.
      (let e : absolute_height d q ≡ absolute_height d r = omega (arith, l, l') in
      ⊎_elim (λ p. inl (inr (e, inl p))) (λ p. ⊎_elim (λ p'. inr (inl (inr (sym e, inl p')))) (λ p'.
      (let f : place (length d.positive) q ≡ place (length d.positive) r = omega (arith, p, p') in
      let s = same_place (length d.positive) q r (place_within d q n) (place_within d r m) f in
      ⊎_elim (λ x. inl (inr (e, inr (s, x)))) (λ x. ⊎_elim (λ y. inr (inl (inr (sym e, inr (sym s, y))))) (λ y. inr (inr (s, omega (arith, x, y)))) (within_or_past k j)) (within_or_past j k)))
      (within_or_past (place (length d.positive) r) (place (length d.positive) q))) (within_or_past (place (length d.positive) q) (place (length d.positive) r))))
      (within_or_past (absolute_height d r) (absolute_height d q))) (within_or_past (absolute_height d q) (absolute_height d r))

  precedes_low : (q r : ℤ) (j k : ℕ) → Precedes d q j r k → absolute_height d q ≤ absolute_height d r
  precedes_low q r j k p = ⊎_elim (λ l. omega (arith, l)) (λ l. let e = l.0 in omega (arith, e)) p

completed_less : (d : RootDatum) (eta : Signs) (v : Module) (h k : ℕ) → k ≤ h → IsCompletedBelow d eta v h → IsCompletedBelow d eta v k
completed_less d eta v h k l c r low = c r (omega (arith, low, l))

-- ---- modules with the same matrices of the simple roots
module _ (d : RootDatum) (loaded : IsLoaded d) (eta : Signs) (g : ℤ → ℕ → Matrix ℤ) (ws : List Vector) where
  alike : (a b : Module) → HasSimple d g ws a → HasSimple d g ws b → b.weights ≡ a.weights
  alike a b sa sb = sb.weights ∙ sym sa.weights

  -- a place that is huge in one is huge in the other, up to the height at which both are completed
  carried : (r : ℤ) (k : ℕ) (a b : Module) → HasSimple d g ws a → HasSimple d g ws b → IsCompletedBelow d eta a (absolute_height d r) → IsCompletedBelow d eta b (absolute_height d r) → IsHuge d a r k → IsHuge d b r k
  carried r k a b sa sb ca cb x = huge_same d loaded a b (alike a b sa sb) (simple_same d loaded g ws a b sa sb) eta (absolute_height d r) ca cb r k (omega arith) x

  pub not_huge_from : (r : ℤ) (k : ℕ) (v : Module) → IsFirstHugeFrom d eta g ws r k → HasSimple d g ws v → IsCompleted d eta v → ((q : ℤ) (j : ℕ) → ¬ IsHuge d v q j) → ⊥
  not_huge_from r k v h s c small = small r k (carried r k h.partial v h.simple s h.completed (λ q low. c q) h.first.huge)

  not_before_from : (q r : ℤ) (j k : ℕ) → IsFirstHugeFrom d eta g ws q j → IsFirstHugeFrom d eta g ws r k → ¬ Precedes d q j r k
  not_before_from q r j k a b p =
      let low = precedes_low d q r j k p in
      b.first.before q j a.first.huge.lowering.from p
      (carried q j a.partial b.partial a.simple b.simple a.completed (completed_less d eta b.partial (absolute_height d r) (absolute_height d q) low b.completed) a.first.huge)

  pub one_huge_from : (q r : ℤ) (j k : ℕ) → IsFirstHugeFrom d eta g ws q j → IsFirstHugeFrom d eta g ws r k → (q ≡ r) × (j ≡ k)
  one_huge_from q r j k a b =
      ⊎_elim (λ p. absurd (not_before_from q r j k a b p)) (λ p. ⊎_elim (λ l. absurd (not_before_from r q k j b a l)) (λ e. e) p) (trichotomy d q r j k a.first.huge.lowering.from b.first.huge.lowering.from)

  pub one_made_from : (u v : Module) → HasSimple d g ws u → HasSimple d g ws v → IsCompleted d eta u → IsCompleted d eta v → u ≡ v
  one_made_from u v su sv cu cv =
      let same = alike v u sv su in
      one_module d v u sv.shape su.shape same (λ r k n one. powers_same d loaded v u same (simple_same d loaded g ws v u sv su) eta (suc (absolute_height d r)) (λ q low. cv q) (λ q low. cu q) r k n (omega arith) one)

-- ---- modules along the same weights
module _ (d : RootDatum) (loaded : IsLoaded d) (eta : Signs) (ws : List Vector) where
  pub not_huge : (r : ℤ) (k : ℕ) (v : Module) → IsFirstHugeAlong d eta ws r k → v.weights ≡ ws → HasSteps d v → IsCompleted d eta v → ((q : ℤ) (j : ℕ) → ¬ IsHuge d v q j) → ⊥
  not_huge r k v h e s c small = not_huge_from d loaded eta (step_powers d ws) ws r k v (huge_from d eta ws r k h) (steps_simple d ws v e s) c small

  pub not_before : (q r : ℤ) (j k : ℕ) → IsFirstHugeAlong d eta ws q j → IsFirstHugeAlong d eta ws r k → ¬ Precedes d q j r k
  not_before q r j k a b p = not_before_from d loaded eta (step_powers d ws) ws q r j k (huge_from d eta ws q j a) (huge_from d eta ws r k b) p

  pub one_huge : (q r : ℤ) (j k : ℕ) → IsFirstHugeAlong d eta ws q j → IsFirstHugeAlong d eta ws r k → (q ≡ r) × (j ≡ k)
  one_huge q r j k a b = one_huge_from d loaded eta (step_powers d ws) ws q r j k (huge_from d eta ws q j a) (huge_from d eta ws r k b)

  pub one_made : (u v : Module) → u.weights ≡ ws → v.weights ≡ ws → HasSteps d u → HasSteps d v → IsCompleted d eta u → IsCompleted d eta v → u ≡ v
  one_made u v eu ev su sv cu cv = one_made_from d loaded eta (step_powers d ws) ws u v (steps_simple d ws u eu su) (steps_simple d ws v ev sv) cu cv
