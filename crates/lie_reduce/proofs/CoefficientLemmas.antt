-- The multiple of a root vector that a matrix has at a place of it, and what a peeled module is.
use Rattle.std.proofs.Common.{◌≡◌, ◌≢◌, ℕ, suc, true, ◌+◌, ◌<◌, ◌≤◌, List, [], ◌∷◌, length, sym, ap, ap₂, ◌∙◌, subst, arith, inl, inr, ⊎_elim}
use Rattle.std.specs.Prelude.{ℤ, pos, slice_index_or, nat_lt, ◌⊎◌}
use Rattle.std.proofs.lemmas.Bool.Decides.{nat_tests}
use Rattle.lie_datum.specs.Numbers.{number_at}
use Rattle.std.proofs.lemmas.Bool.{cases_eq, ltb-true, lt-ltb}
use Rattle.lie_ring.specs.Integers.{integers}
use Rattle.lie_ring.specs.IntegerLaws.{integers_ring}
use Rattle.lie_ring.specs.HomLemmas.{of_int_is_hom}
use Rattle.lie_ring.specs.RingLemmas.{int_zero}
use Rattle.lie_ring.specs.Matrices.{Matrix, entry, image, zero_matrix, AllElem, IsShaped, table}
use Rattle.lie_ring.specs.MatrixLemmas.{entry-table}
use Rattle.lie_ring.specs.MatrixImages.{image-entry}
use Rattle.lie_field.specs.FiniteField.{FiniteField}
use Rattle.lie_field.specs.Algebra.FieldTest.{is_lawful}
use Rattle.lie_field.specs.Algebra.Powers
use Rattle.lie_ring.specs.Rings.{IsElem}
use Rattle.lie_field.specs.FieldRing.{field_ring, field_is_ring}
use Rattle.lie_field.specs.Quotient.{order, mul, of_int}
use Rattle.lie_const.specs.Modules.{Module, dimension, top, divided_powers, divided_power}
use Rattle.lie_letters.specs.SignedFrames.{SignedFrame, IsLawfulSigned}
use Rattle.lie_const.specs.Signs.{eta_of}
use Rattle.lie_identities.specs.Audit.{MeetsIdentities}
use Rattle.lie_identities.specs.Audited.{AuditedModule, IsAudited}
use Rattle.lie_identities.specs.CoverLines.{AreCoverLines}
use Rattle.lie_identities.specs.Covers.{IsLiveAt}
use Rattle.lie_reduce.specs.Triangular.{IsSquare}
use Rattle.lie_reduce.specs.Reduction.{CoversFrame}
use Rattle.lie_reduce.specs.UniqueForms.{IsCoveringFor}
use Rattle.lie_reduce.specs.PeelSteps.{IsCoefficient}

-- a root vector with an entry that is not 0 in the field is kept
pub live_top : (f : FiniteField) (v : Module) (r : ℤ) → IsLiveAt f v r → 1 ≤ top v r
live_top f v r live =
    kept (divided_powers v r) (λ none. live.nonzero (ap (of_int f.given) none ∙ int_zero (field_ring f) (field_is_ring f)))
  where
    kept : (xs : List (Matrix ℤ)) → entry (pos 0) (slice_index_or xs 0 (zero_matrix (pos 0) (dimension v) (dimension v))) live.row live.col ≢ pos 0 → 1 ≤ length xs
    kept [] some = absurd (some (entry-table (pos 0) (dimension v) (dimension v) (λ _ _. pos 0) live.row live.col live.row_within live.col_within))
    kept (x ∷ xs) some = omega arith

module _ (f : FiniteField) (v : Module) (r : ℤ) (V : Matrix ℕ) (is : V ≡ image (of_int f.given) (divided_power v r 1)) where
  -- the entries over the field
  pub image_at : (i j : ℕ) → of_int f.given (entry (pos 0) (divided_power v r 1) i j) ≡ entry 0 V i j
  image_at i j = image-entry integers (field_ring f) (of_int f.given) integers_ring (of_int_is_hom (field_ring f) (field_is_ring f)) (divided_power v r 1) i j ∙ ap (λ M. entry 0 M i j) (sym is)

  -- a b^-1 for an entry a of M and an entry b of the root vector
  pub coefficient-found : (M : Matrix ℕ) (row col i a : ℕ) → row < dimension v → col < dimension v → entry 0 V row col ≢ 0 → entry 0 V row col < order f.given → i < order f.given → entry 0 M row col < order f.given
      → mul f.given (entry 0 V row col) i ≡ 1 → a ≡ mul f.given (entry 0 M row col) i → a < order f.given → IsCoefficient f v r M a
  coefficient-found M row col i a p q some low small below inverts is_a a_low =
      let g = f.given in
      let laws = (field_is_ring f).laws in
      let e = entry 0 V row col in
      let m = entry 0 M row col in
      let pe = lt-ltb e (order g) low in
      let pi = lt-ltb i (order g) small in
      let pm = lt-ltb m (order g) below in
      record {
        row = row;
        col = col;
        row_within = p;
        col_within = q;
        nonzero = λ none. some (sym (image_at row col) ∙ none);
        value =
            ap₂ (mul g) is_a (image_at row col)
            ∙ laws.mul_assoc m i e pm pi pe
            ∙ ap (mul g m) (laws.mul_comm i e pi pe ∙ inverts)
            ∙ laws.mul_one m pm;
        below = a_low;
      }

-- an audited module that covers a lawful frame
pub covering_for : (f : SignedFrame) (a : AuditedModule) → IsLawfulSigned f → IsAudited a → CoversFrame f a → IsCoveringFor f a.module
covering_for f a lawful audited h = record {
  lawful = lawful;
  audited =
      subst (λ d. MeetsIdentities d f.constants (eta_of f.signs) a.module) h.datum
      (subst (λ c. MeetsIdentities a.datum c (eta_of f.signs) a.module) h.constants
      (subst (λ s. MeetsIdentities a.datum a.constants (eta_of s) a.module) h.signs audited.meets));
  lines = a.lines;
  cover = subst (λ d. AreCoverLines d a.module a.lines) h.datum audited.cover;
  covering = h.covering;
}

-- a matrix as a call knows it
pub known_square : (f : FiniteField) (n : ℕ) (M : Matrix ℕ) → M.height ≡ n → M.width ≡ n → IsShaped 0 M → AllElem (field_ring f) M → IsSquare (field_ring f) n M
known_square f n M tall wide shaped elem = record { shape = shaped ∙ ap₂ (λ a b. table a b (entry 0 M)) tall wide; elem = elem }

-- the k-th root, counted from 0, has the number k + 1
pub place_number : (m k : ℕ) → k < m → number_at m k ≡ pos (suc k)
place_number m k low =
    let t : nat_lt k m ≡ true = grind (arith, nat_tests) in
    let next : k + 1 ≡ suc k = omega arith in
    rw t (ap pos next)

-- a product of elements that is 0 has a factor that is 0
pub field_domain : (f : FiniteField) (a b : ℕ) → IsElem (field_ring f) a → IsElem (field_ring f) b → mul f.given a b ≡ 0 → (a ≡ 0) ⊎ (b ≡ 0)
field_domain f a b p q e = ⊎_elim
    (λ (none : a ≡ 0). inl none)
    (λ (some : a ≢ 0). inr (Powers.no_zero_divisors f.given (is_lawful f) a b (omega (arith, some)) (ltb-true a (order f.given) p) (ltb-true b (order f.given) q) e))
    (cases_eq a 0)
