-- How the parts of a form are read off the matrix of its word.
-- For proofs: no public clause cites it.
-- Source: Carter, Simple Groups of Lie Type, 8.4 (the canonical form of an element).
-- Own: with n_w on the right taken away the matrix is a product of three factors, one for each of u, h and n_w v n_w^-1.
--
--   each place has its rank                           AreRanks places ranks
--   G = U (D L), by rising levels                     AreLevelFactors f d v G U D L
--   y is a form with the matrix M; its Weyl element has the shortest word of the letters turn      IsReadAlong f v M turn y
--   U, D and V are the matrices of u, h and v         HasParts f v y U D V
use Rattle.std.specs.Prelude.{◌≡◌, ℕ, ◌<◌, ℤ, pos, neg_ℤ, List, map, length, slice_index_or}
use Rattle.lie_ring.specs.Matrices.{Matrix, product}
use Rattle.lie_field.specs.FiniteField.{FiniteField}
use Rattle.lie_field.specs.FieldRing.{field_ring}
use Rattle.lie_datum.specs.RootList.{RootDatum}
use Rattle.lie_const.specs.Modules.{Module, dimension}
use Rattle.lie_letters.specs.declared.letter.Letter.{Letter}
use Rattle.lie_letters.specs.declared.letter.Letter.TheVariants.{N}
use Rattle.lie_letters.specs.SignedFrames.{SignedFrame, unsigned}
use Rattle.lie_letters.specs.Spelled.{IsWordOver, root_letters}
use Rattle.lie_unip.specs.Forms.{FormData, IsForm, IsShortest, nonzero_letters}
use Rattle.lie_audit.specs.WordMatrix.{word_matrix, torus_element}
use Rattle.lie_reduce.specs.Triangular.{IsSquare, IsInvertibleDiagonal}
use Rattle.lie_reduce.specs.Levels.{Raises, level}
use Rattle.lie_reduce.specs.Reduction.{HasFormMatrix}

-- the rank of each place, in an order of the places
abbrev pub AreRanks : List ℕ → List ℕ → Type 0
AreRanks ps ranks =
    (length ranks ≡ length ps) × ((a : ℕ) → a < length ps → (slice_index_or ranks a 0 < length ps) × (slice_index_or ps (slice_index_or ranks a 0) 0 ≡ a))

-- ---- factors
-- G is the product of a factor that raises levels, an invertible diagonal one, and one that lowers levels
pub record AreLevelFactors (f : FiniteField) (d : RootDatum) (v : Module) (G U D L : Matrix ℕ) : Type 0 where
  pub upper_square : IsSquare (field_ring f) (dimension v) U
  pub upper : Raises (field_ring f) (dimension v) (level d v) (pos 1) U
  pub diagonal : IsInvertibleDiagonal (field_ring f) (dimension v) D
  pub lower_square : IsSquare (field_ring f) (dimension v) L
  pub lower : Raises (field_ring f) (dimension v) (λ i. neg_ℤ (level d v i)) (pos 1) L
  pub product : G ≡ product (field_ring f) U (product (field_ring f) D L)

-- G is no such product
abbrev pub HasNoLevelFactors : FiniteField → RootDatum → Module → Matrix ℕ → Type 0
HasNoLevelFactors f d v G = (U D L : Matrix ℕ) → ¬ AreLevelFactors f d v G U D L

-- square matrices, the second of them an invertible diagonal one; where G is such a product, they are its factors
pub record AreOnlyFactors (f : FiniteField) (d : RootDatum) (v : Module) (G U D L : Matrix ℕ) : Type 0 where
  pub upper_square : IsSquare (field_ring f) (dimension v) U
  pub diagonal : IsInvertibleDiagonal (field_ring f) (dimension v) D
  pub lower_square : IsSquare (field_ring f) (dimension v) L
  pub only : (X Y Z : Matrix ℕ) → AreLevelFactors f d v G X Y Z → (U ≡ X) × (D ≡ Y) × (L ≡ Z)

-- ---- parts
-- M is the matrix of the word of y, and the letters are those of a shortest word of its Weyl element
pub record IsReadAlong (f : SignedFrame) (v : Module) (M : Matrix ℕ) (turn : List Letter) (y : FormData) : Type 0 where
  pub matrix : HasFormMatrix f v y M
  pub word : List ℕ
  pub short : IsShortest f.datum y.weyl word
  pub along : turn ≡ map N word

-- the matrices of u, h and v
pub record HasParts (f : SignedFrame) (v : Module) (y : FormData) (U D V : Matrix ℕ) : Type 0 where
  pub form : IsForm f y
  pub first : U ≡ word_matrix f.field v (root_letters (nonzero_letters y.first))
  pub torus : D ≡ torus_element f.field v y.torus
  pub second : V ≡ word_matrix f.field v (root_letters (nonzero_letters y.second))

-- no form has the matrix along these letters
abbrev pub HasNoForm : SignedFrame → Module → Matrix ℕ → List Letter → Type 0
HasNoForm f v M turn = (y : FormData) → ¬ IsReadAlong f v M turn y

-- square matrices, the second of them an invertible diagonal one; they are the parts of each form with the matrix along these letters
pub record ArePartsAlong (f : SignedFrame) (v : Module) (M : Matrix ℕ) (turn : List Letter) (U D V : Matrix ℕ) : Type 0 where
  pub upper_square : IsSquare (field_ring f.field) (dimension v) U
  pub diagonal : IsInvertibleDiagonal (field_ring f.field) (dimension v) D
  pub second_square : IsSquare (field_ring f.field) (dimension v) V
  pub only : (y : FormData) → IsReadAlong f v M turn y → HasParts f v y U D V

-- ---- words
-- a word of the frame whose matrix is U
abbrev pub IsWordWith : SignedFrame → Module → Matrix ℕ → List Letter → Type 0
IsWordWith f v U w = IsWordOver (unsigned f) w × (word_matrix f.field v w ≡ U)

-- no form has these parts
abbrev pub IsNoForms : SignedFrame → Module → Matrix ℕ → Matrix ℕ → Matrix ℕ → Type 0
IsNoForms f v U D V = (y : FormData) → ¬ HasParts f v y U D V

-- a word of the frame, which has the matrix U (D (T V)) where a form has these parts and T is the matrix of the letters
pub record IsWordOfParts (f : SignedFrame) (v : Module) (turn : List Letter) (U D V : Matrix ℕ) (w : List Letter) : Type 0 where
  pub over : IsWordOver (unsigned f) w
  pub matrix : (y : FormData) → HasParts f v y U D V
      → word_matrix f.field v w ≡ product (field_ring f.field) U (product (field_ring f.field) D (product (field_ring f.field) (word_matrix f.field v turn) V))

-- no form with this Weyl element has the matrix
abbrev pub HasNoFormOf : SignedFrame → Module → Matrix ℕ → List ℤ → Type 0
HasNoFormOf f v M weyl = (y : FormData) → HasFormMatrix f v y M → ¬ (y.weyl ≡ weyl)

-- a word of the frame, which has the matrix where a form with this Weyl element has it
pub record IsWordRead (f : SignedFrame) (v : Module) (M : Matrix ℕ) (weyl : List ℤ) (w : List Letter) : Type 0 where
  pub over : IsWordOver (unsigned f) w
  pub matrix : (y : FormData) → HasFormMatrix f v y M → y.weyl ≡ weyl → word_matrix f.field v w ≡ M
