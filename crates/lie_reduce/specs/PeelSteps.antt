-- What is kept while root elements are peeled off a matrix.
-- For proofs: no public clause cites it.
-- Own: at a place where the root vector of the first root of a product has an entry, those of the later roots have none.
--
--   a place whose entry is not 0                                  IsNonzeroPlace M (i, j)
--   the multiple of E_r^(1) that M has at such a place of it      IsCoefficient f v r M a
--   u has the elements of the first k roots; rest is what is left    ArePeeled f v M k u rest
use Rattle.std.specs.Prelude.{◌≡◌, ◌≢◌, ℕ, suc, ◌<◌, ℤ, pos, List, length, take, drop}
use Rattle.std.specs.List.{All}
use Rattle.lie_ring.specs.Matrices.{Matrix, entry, product}
use Rattle.lie_field.specs.FiniteField.{FiniteField}
use Rattle.lie_field.specs.FieldRing.{field_ring}
use Rattle.lie_field.specs.Quotient.{order, mul, of_int}
use Rattle.lie_const.specs.Modules.{Module, dimension, divided_power}
use Rattle.lie_letters.specs.RingLetters.{full_from, full_word}
use Rattle.lie_letters.specs.SignedFrames.{SignedFrame}
use Rattle.lie_letters.specs.Spelled.{root_letters}
use Rattle.lie_audit.specs.WordMatrix.{word_matrix}
use Rattle.lie_reduce.specs.Triangular.{IsSquare}
use Rattle.lie_reduce.specs.Reduction.{HasListMatrix}

-- a place within a square matrix whose entry is not 0
abbrev pub IsNonzeroPlace : Matrix ℕ → ℕ × ℕ → Type 0
IsNonzeroPlace M p = (p.0 < M.height) × (p.1 < M.height) × (entry 0 M p.0 p.1 ≢ 0)

-- there is none
abbrev pub HasZerosAlone : Matrix ℕ → Type 0
HasZerosAlone M = (i j : ℕ) → i < M.height → j < M.height → entry 0 M i j ≡ 0

-- at a place where E_r^(1) is not 0 in the field, M is a times it
pub record IsCoefficient (f : FiniteField) (v : Module) (r : ℤ) (M : Matrix ℕ) (a : ℕ) : Type 0 where
  pub row : ℕ
  pub col : ℕ
  pub row_within : row < dimension v
  pub col_within : col < dimension v
  pub nonzero : of_int f.given (entry (pos 0) (divided_power v r 1) row col) ≢ 0
  pub value : mul f.given a (of_int f.given (entry (pos 0) (divided_power v r 1) row col)) ≡ entry 0 M row col
  pub below : a < order f.given

-- M is the product of the root elements of u, for the first k roots, and of what is left; where M is such a product for all
-- roots, these are its first elements
pub record ArePeeled (f : SignedFrame) (v : Module) (M : Matrix ℕ) (k : ℕ) (u : List ℕ) (rest : Matrix ℕ) : Type 0 where
  pub count : length u ≡ k
  pub below : All (λ a. a < order f.field.given) u
  pub square : IsSquare (field_ring f.field) (dimension v) rest
  pub product : M ≡ product (field_ring f.field) (word_matrix f.field v (root_letters (full_word u))) rest
  pub only : (us : List ℕ) → HasListMatrix f v us M → (u ≡ take k us) × (rest ≡ word_matrix f.field v (root_letters (full_from (suc k) (drop k us))))
