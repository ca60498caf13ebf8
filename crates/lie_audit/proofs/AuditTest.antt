-- A test that a module is graded and that no relation is large: what it passes is so. Its purpose is worked examples.
use Rattle.std.proofs.Common.{◌≡◌, ℕ, zero, suc, ◌^◌, ltb, Bool, true, ◌||◌, ℤ, pos, [], ap, ◌∙◌, arith, inl, inr, ⊎_elim, get_or}
use Rattle.std.specs.Prelude.{nat_abs}
use Rattle.std.specs.Ordering.{int_eq}
use Rattle.std.proofs.lemmas.Bool.{or_cases, ltb-true, cases_lt}
use Rattle.std.proofs.lemmas.List.{get_or_past}
use Rattle.lie_ring.specs.Matrices.{Matrix, entry, zero_matrix}
use Rattle.lie_ring.specs.MatrixLemmas.{entry-table}
use Rattle.lie_mat.specs.Wide.{IsHugeMatrix}
use Rattle.lie_poly.specs.Polynomials.{laurent}
use Rattle.lie_datum.specs.Vectors.{plus, times}
use Rattle.lie_datum.specs.RootDatum.{vector}
use Rattle.lie_datum.specs.RootList.{RootDatum, root_of}
use Rattle.lie_datum.proofs.LoadedTest.{each_below, each_at}
use Rattle.lie_const.specs.StructureConstants.{same_vector}
use Rattle.lie_const.specs.ConstantTables.{ConstantTable}
use Rattle.lie_const.specs.Modules.{Module, dimension, top, divided_powers, divided_power}
use Rattle.lie_const.specs.Signs.{Signs}
use Rattle.lie_const.proofs.TableTest.{each_number, number_at, is_equal}
use Rattle.lie_letters.proofs.NameLemmas.{same_vector-true}
use Rattle.lie_identities.specs.declared.relations.Rel.{Rel}
use Rattle.lie_identities.specs.AuditRelations.{side_size}
use Rattle.lie_identities.specs.Audit.{IsGraded, IsIdentity, IsMet, left_factors, right_factors}

module _ (d : RootDatum) (v : Module) where
  -- the entry of E_r^(k+1) is 0, or the weights are as they should be
  abbrev entry_test : ℤ → ℕ → ℕ → ℕ → Bool
  entry_test r k a b =
      int_eq (entry (pos 0) (divided_power v r (suc k)) a b) (pos 0)
      || same_vector (get_or v.weights a []) (plus (get_or v.weights b []) (times (pos (suc k)) (vector d.base (root_of d r))))

  -- each entry passes
  abbrev pub graded_test : Bool
  graded_test = each_number d (λ r. each_below (top v r) (λ k. each_below (dimension v) (λ a. each_below (dimension v) (entry_test r k a))))

  -- a module that passes is graded
  pub graded_from : graded_test ≡ true → IsGraded d v
  graded_from passed r zero a b h = absurd (let one = h.first in omega (arith, one))
  graded_from passed r (suc k) a b h = elim (cases_lt k (top v r)) [
    | inl low ↦
        let rows = each_at (top v r) (λ k. each_below (dimension v) (λ a. each_below (dimension v) (entry_test r k a)))
        (number_at d (λ r. each_below (top v r) (λ k. each_below (dimension v) (λ a. each_below (dimension v) (entry_test r k a)))) passed r h.number) k low in
        let here = each_at (dimension v) (entry_test r k a) (each_at (dimension v) (λ a. each_below (dimension v) (entry_test r k a)) rows a h.row) b h.col in
        ⊎_elim (λ z. h.nonzero (is_equal d _ _ z)) (λ w. h.weights (same_vector-true _ _ w)) (or_cases _ _ here)
    | inr past ↦ h.nonzero
        (ap (λ M. entry (pos 0) M a b) (get_or_past (divided_powers v r) k (zero_matrix (pos 0) (dimension v) (dimension v)) past)
        ∙ entry-table (pos 0) (dimension v) (dimension v) (λ _ _. pos 0) a b h.row h.col)
  ]

-- each entry is below 2^126
abbrev small_test : Matrix ℤ → Bool
small_test M = each_below M.height (λ i. each_below M.width (λ j. ltb (nat_abs (entry (pos 0) M i j)) (2 ^ 126)))

-- a matrix that passes is not huge
small_from : (M : Matrix ℤ) → small_test M ≡ true → ¬ IsHugeMatrix M
small_from M passed h =
    let row = each_at M.height (λ i. each_below M.width (λ j. ltb (nat_abs (entry (pos 0) M i j)) (2 ^ 126))) passed h.row h.row_within in
    let small = ltb-true _ _ (each_at M.width (λ j. ltb (nat_abs (entry (pos 0) M h.row j)) (2 ^ 126)) row h.col h.col_within) in
    let huge = h.huge in
    absurd (omega (arith, small, huge))

module _ (d : RootDatum) (c : ConstantTable) (eta : Signs) (v : Module) (q : Rel) where
  -- a relation that holds, and whose two sizes pass, is met
  pub met_from : small_test (side_size laurent v (left_factors q)) ≡ true → small_test (side_size laurent v (right_factors d c eta q)) ≡ true → IsIdentity d c eta v q → IsMet d c eta v q
  met_from left right holds = record { small = λ large. ⊎_elim (small_from _ left) (small_from _ right) large; identity = holds }
