-- Where there is one weight, no matrix of a root is other than 0: no root leads from a weight to itself.
use Rattle.std.proofs.Common.{◌≡◌, ◌≢◌, ℕ, zero, suc, ◌-◌, ◌<◌, ◌≤◌, ℤ, pos, negsuc, ◌*ℤ◌, unsigned_abs, List, [], ◌∷◌, length, get_or, refl, sym, ap, ◌∙◌, arith, inr, Bool, true, false, cond, ◌&&◌}
use Rattle.std.proofs.lemmas.Int.{ints}
use Rattle.std.specs.List.{All}
use Rattle.std.specs.Ordering.{int_eq}
use Rattle.lie_ring.specs.Matrices.{zero_matrix}
use Rattle.lie_ring.specs.MatrixLemmas.{table-same}
use Rattle.lie_datum.specs.Vectors.{Vector, pairing, plus, times}
use Rattle.lie_datum.specs.RootDatum.{vector, covector, IsSimpleIndex}
use Rattle.lie_datum.specs.RootList.{RootDatum, root_of, IsNumber, IsLoaded}
use Rattle.lie_datum.proofs.Linear.{pairing-plus, pairing-times}
use Rattle.lie_datum.proofs.LoadedLaws.{self}
use Rattle.lie_datum.proofs.SignedRoots.{root_is}
use Rattle.lie_orbit.specs.Weights.{coroot_pairing}
use Rattle.lie_orbit.proofs.WeightLemmas.{simple_some}
use Rattle.lie_weight.specs.declared.entry.Entry.{Entry}
use Rattle.lie_weight.specs.declared.sources.Source.{Source}
use Rattle.lie_weight.specs.declared.sources.Source.TheVariants.{Steps, Entries}
use Rattle.lie_weight.specs.OrbitModules.{step_entry, step_matrix}
use Rattle.lie_weight.specs.Tables.{given_matrix, IsEntry, IsGraded, AreGoodEntries}
use Rattle.lie_weight.specs.Completion.{source_powers, IsSource}
use Rattle.lie_weight.proofs.GivenLemmas.{given_nothing}
use Rattle.lie_weight.proofs.NumberOf.{same_vector-no}
use Rattle.lie_weight.proofs.StepLemmas.{negative_some}

-- ---- a root moves each weight
module _ (d : RootDatum) (loaded : IsLoaded d) (r : ℤ) (number : IsNumber d r) (x : Vector) where
  two : pairing (vector d.base (root_of d r)) (covector d.base (root_of d r)) ≡ pos 2
  two = self d loaded (root_of d r) (root_is d loaded r number)

  moved : x ≢ plus x (vector d.base (root_of d r))
  moved e =
      let c = covector d.base (root_of d r) in
      let a = ap (λ t. pairing t c) e in
      let b = pairing-plus x (vector d.base (root_of d r)) c in
      let t = two in
      absurd (omega (arith, ints, a, b, t))

  moved_by : (k : ℕ) → 1 ≤ k → x ≢ plus x (times (pos k) (vector d.base (root_of d r)))
  moved_by k one e =
      let c = covector d.base (root_of d r) in
      let a = ap (λ t. pairing t c) e in
      let b = pairing-plus x (times (pos k) (vector d.base (root_of d r))) c in
      let t = pairing-times (pos k) (vector d.base (root_of d r)) c ∙ ap (λ y. pos k *ℤ y) two in
      absurd (omega (arith, ints, a, b, t, one))

-- ---- what a source gives
no_step : (t : Bool) → cond (t && false) (pos 1) (pos 0) ≡ pos 0
no_step true = refl
no_step false = refl

-- the root of an entry has a number
pub entry_number : (d : RootDatum) → IsLoaded d → (r : ℤ) → IsSimpleIndex d.base (unsigned_abs r) → IsNumber d r
entry_number d loaded (pos i) s = simple_some d loaded i s
entry_number d loaded (negsuc i) s = negative_some d loaded (suc i) s

module _ (d : RootDatum) (loaded : IsLoaded d) (ws : List Vector) (one : length ws ≡ 1) where
  at_same : (i j : ℕ) → i < length ws → j < length ws → get_or ws i [] ≡ get_or ws j []
  at_same i j a b = ap (λ k. get_or ws k []) (omega (arith, a, b, one))

  step_alone : (r : ℤ) → IsNumber d r → step_matrix d ws r ≡ zero_matrix (pos 0) (length ws) (length ws)
  unfolding step_matrix
  step_alone r n = table-same (length ws) (length ws) (step_entry d ws r) (λ _ _. pos 0) (λ i j a b.
      (let x = get_or ws i [] in
      let y = get_or ws j [] in
      let v = vector d.base (root_of d r) in
      ap (λ t. cond (int_eq (coroot_pairing d y r) (negsuc 0) && t) (pos 1) (pos 0)) (same_vector-no x (plus y v) (λ e. moved d loaded r n y (sym (at_same i j a b) ∙ e)))
      ∙ no_step (int_eq (coroot_pairing d y r) (negsuc 0))))

  pub source_alone : (x : Source) → IsSource d (length ws) x → (r : ℤ) → IsNumber d r → (k : ℕ) → source_powers d ws x r k ≡ zero_matrix (pos 0) (length ws) (length ws)
  source_alone Steps h r n zero = step_alone r n
  source_alone Steps h r n (suc k) = refl
  source_alone (Entries es) h r n k = ap (λ fs. given_matrix (length ws) fs r (suc k)) (h.1 one) ∙ sym (given_nothing (length ws) r (suc k))

  -- no entry is graded
  not_graded : (e : Entry) → IsEntry d (length ws) e → ¬ IsGraded d ws e
  not_graded e h g =
      let row = h.row in
      let col = h.col in
      moved_by d loaded e.simple (entry_number d loaded e.simple h.simple) (get_or ws (e.col - 1) []) e.power h.power.0
      (at_same (e.col - 1) (e.row - 1) (omega (arith, col, one)) (omega (arith, row, one)) ∙ g)

  pub no_entry : (es : List Entry) → All (IsEntry d (length ws)) es → AreGoodEntries d ws es → es ≡ []
  no_entry [] h g = refl
  no_entry (e ∷ es) h g = absurd (g 0 (record { entry = e; within = omega arith; here = refl; bad = inr (not_graded e (h 0 e (omega arith))) }))
