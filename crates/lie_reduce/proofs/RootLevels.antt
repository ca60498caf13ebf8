-- The level of a basis vector, and root elements of positive roots as matrices that raise levels.
use Rattle.std.proofs.Common.{◌≡◌, ◌≢◌, ℕ, suc, ◌<◌, cond, eqb, Bool, true, false, [], ap, ◌∙◌, inl, inr, arith}
use Rattle.std.specs.Prelude.{ℤ, pos, ◌+ℤ◌, ◌*ℤ◌, ◌≤ℤ◌, ◌⊎◌, slice_index_or}
use Rattle.std.proofs.lemmas.Int.{ints}
use mathlib.Core.Logic.{⊎_elim}
use Rattle.lie_ring.specs.Rings.{RingOn, IsElem, IsRing}
use Rattle.lie_ring.specs.RingLemmas.{mul_zero, int_zero}
use Rattle.lie_ring.specs.SumLemmas.{sum-zeros}
use Rattle.lie_ring.specs.Powers.{power}
use Rattle.lie_ring.specs.Matrices.{entry}
use Rattle.lie_ring.specs.MatrixLemmas.{entry-table, table-shaped}
use Rattle.lie_datum.specs.Vectors.{pairing, times}
use Rattle.lie_datum.proofs.Linear.{pairing-plus, pairing-times}
use Rattle.lie_datum.specs.RootDatum.{vector, IsRoot, IsPositive}
use Rattle.lie_datum.specs.RootList.{RootDatum, root_of, IsNumber, height}
use Rattle.lie_datum.specs.Laws.{positive_coroots, HeightLaw}
use Rattle.lie_const.specs.Modules.{Module, dimension, top, divided_power, root_element, root_element_entry}
use Rattle.lie_identities.specs.Audit.{IsGraded}
use Rattle.lie_identities.proofs.FactorLemmas.{power-elem, root_element-elem}
use Rattle.lie_audit.proofs.GradedWeights.{raised}
use Rattle.lie_reduce.specs.Triangular.{IsSquare}
use Rattle.lie_reduce.specs.Levels.{unit_entry, Raises, level}
use Rattle.lie_reduce.proofs.LevelLemmas.{le_cases}

module _ {A : Type 0} (R : RingOn A) (ring : IsRing R) (v : Module) where
  -- a root element is square
  pub root-square : (r : ℤ) (t : A) → IsElem R t → IsSquare R (dimension v) (root_element R v r t)
  unfolding root_element
  root-square r t p = record { shape = table-shaped R.zero (dimension v) (dimension v) (root_element_entry R v r t); elem = root_element-elem R ring v r t p }

  -- where E^(k) raises levels by g at least, so does X_r(t)
  pub raises-root : (levels : ℕ → ℤ) (g r : ℤ) (t : A) → IsElem R t
      → ((k a b : ℕ) → a < dimension v → b < dimension v → entry (pos 0) (divided_power v r (suc k)) a b ≢ pos 0 → (levels b +ℤ g) ≤ℤ levels a)
      → Raises R (dimension v) levels g (root_element R v r t)
  unfolding root_element
  raises-root levels g r t p graded a b q s = ⊎_elim
      (λ up. inr up)
      (λ flat. inl (
      entry-table R.zero (dimension v) (dimension v) (root_element_entry R v r t) a b q s
      ∙ ap (R.add (unit_entry R a b)) (sum-zeros R ring.laws (top v r) _ (λ k _. ⊎_elim
      (λ (none : entry (pos 0) (divided_power v r (suc k)) a b ≡ pos 0).
      ap (R.mul (power R t (suc k))) (ap R.of_int none ∙ int_zero R ring) ∙ mul_zero R ring.laws (power R t (suc k)) (power-elem R ring t (suc k) p))
      (λ (some : entry (pos 0) (divided_power v r (suc k)) a b ≢ pos 0). absurd (let up = graded k a b q s some in let never : ⊥ = omega (arith, ints, up, flat) in never))
      (int_cases (entry (pos 0) (divided_power v r (suc k)) a b))))
      ∙ ring.laws.add_zero (unit_entry R a b) (unit_elem (eqb a b))))
      (le_cases (levels b +ℤ g) (levels a))
    where
      int_cases : (z : ℤ) → (z ≡ pos 0) ⊎ (z ≢ pos 0)
      int_cases z = grind (arith, ints)

      unit_elem : (c : Bool) → IsElem R (cond c R.one R.zero)
      unit_elem true = ring.laws.one_elem
      unit_elem false = ring.laws.zero_elem

-- ---- from the grading, and the law of heights
-- an entry of E_r^(k) raises the level by 2 k times the height
pub graded_level : (d : RootDatum) (v : Module) → IsGraded d v → HeightLaw d → (r : ℤ) → IsNumber d r → IsRoot d.base (root_of d r) → IsPositive (root_of d r)
    → (k a b : ℕ) → a < dimension v → b < dimension v → entry (pos 0) (divided_power v r (suc k)) a b ≢ pos 0
    → level d v a ≡ level d v b +ℤ (pos (suc k) *ℤ (pos 2 *ℤ height (root_of d r)))
graded_level d v graded law r number root positive k a b p q some =
    let x = slice_index_or v.weights b [] in
    ap (λ w. pairing w (positive_coroots d)) (raised d v graded r number (suc k) a b (omega arith) p q some)
    ∙ pairing-plus x (times (pos (suc k)) (vector d.base (root_of d r))) (positive_coroots d)
    ∙ ap (λ s. pairing x (positive_coroots d) +ℤ s) (pairing-times (pos (suc k)) (vector d.base (root_of d r)) (positive_coroots d))
    ∙ ap (λ h. pairing x (positive_coroots d) +ℤ (pos (suc k) *ℤ h)) (law (root_of d r) root positive)
