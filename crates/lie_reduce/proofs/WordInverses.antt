-- The matrices of a word and of its reversed word are inverses of one another.
use Rattle.std.proofs.Common.{◌≡◌, ℕ, List, [], ◌∷◌, ◌++◌, sym, ap, ap₂, ◌∙◌}
use Rattle.std.specs.List.{AllByRecursion}
use Rattle.lie_ring.specs.Matrices.{Matrix, table, entry, identity, product}
use Rattle.lie_field.specs.FiniteField.{FiniteField}
use Rattle.lie_field.specs.FieldRing.{field_ring, field_is_ring}
use Rattle.lie_const.specs.Modules.{Module, dimension}
use Rattle.lie_const.specs.Signs.{eta_of}
use Rattle.lie_letters.specs.declared.letter.Letter.{Letter as CodeLetter}
use Rattle.lie_letters.specs.SignedFrames.{SignedFrame, unsigned, IsLawfulSigned}
use Rattle.lie_letters.specs.Spelled.{IsWordOver, reversed}
use Rattle.lie_letters.proofs.GroupSpelledLemmas.{JoinedInGroup-flip, JoinedInGroup-over}
use Rattle.lie_bruhat.specs.Rules.{ReversedCancels}
use Rattle.lie_identities.specs.Audit.{MeetsIdentities}
use Rattle.lie_audit.specs.WordMatrix.{word_matrix}
use Rattle.lie_audit.specs.EqualMatrices.{EqualMatrices}
use Rattle.lie_audit.proofs.WordMatrixLemmas.{IsSquareOver, word-square, joined-words}
use Rattle.lie_reduce.specs.Triangular.{IsSquare}
use Rattle.lie_reduce.proofs.UniqueFactors.{assoc, one_left, one_right, inverse_same}

-- a square matrix, as the crate below says it and as this one does
pub as_square : (f : FiniteField) (n : ℕ) (M : Matrix ℕ) → IsSquareOver f n M → IsSquare (field_ring f) n M
as_square f n M s = record { shape = s.shaped ∙ ap₂ (λ a b. table a b (entry 0 M)) s.height s.width; elem = s.elem }

-- the matrix of a word is square
pub matrix-square : (f : FiniteField) (v : Module) (w : List CodeLetter) → IsSquare (field_ring f) (dimension v) (word_matrix f v w)
matrix-square f v w = as_square f (dimension v) (word_matrix f v w) (word-square f v w)

-- the last part of a word whose letters all have a property
last_part : (P : CodeLetter → Type 0) (u w : List CodeLetter) → AllByRecursion P (u ++ w) → AllByRecursion P w
last_part P [] w h = h
last_part P (x ∷ u) w h = last_part P u w h.1

module _ (f : SignedFrame) (lawful : IsLawfulSigned f) (v : Module) (meets : MeetsIdentities f.datum f.constants (eta_of f.signs) v) (equal : EqualMatrices) (cancels : ReversedCancels) where
  -- a word and its reversed word
  pub cancels_right : (w : List CodeLetter) → IsWordOver (unsigned f) w
      → product (field_ring f.field) (word_matrix f.field v w) (word_matrix f.field v (reversed f.field w)) ≡ identity (field_ring f.field) (dimension v)
  cancels_right w over = sym (joined-words f.field v w (reversed f.field w)) ∙ equal f v lawful meets (w ++ reversed f.field w) [] (cancels f w lawful over)

  -- the other way round
  pub cancels_left : (w : List CodeLetter) → IsWordOver (unsigned f) w
      → product (field_ring f.field) (word_matrix f.field v (reversed f.field w)) (word_matrix f.field v w) ≡ identity (field_ring f.field) (dimension v)
  cancels_left w over =
      let u = reversed f.field w in
      let z = reversed f.field u in
      let whole = JoinedInGroup-over f [] (w ++ u) (JoinedInGroup-flip f (w ++ u) [] (cancels f w lawful over)) in
      let back = cancels_right u (last_part _ w u whole) in
      let same = inverse_same (field_ring f.field) (field_is_ring f.field) (dimension v) (word_matrix f.field v w) (word_matrix f.field v z) (word_matrix f.field v u)
      (matrix-square f.field v w) (matrix-square f.field v z) (matrix-square f.field v u) (cancels_right w over) back in
      ap (product (field_ring f.field) (word_matrix f.field v u)) same ∙ back

  -- a word cancels from the right of a product
  pub cancel_behind : (X Y : Matrix ℕ) (w : List CodeLetter) → IsSquare (field_ring f.field) (dimension v) X → IsSquare (field_ring f.field) (dimension v) Y → IsWordOver (unsigned f) w
      → product (field_ring f.field) X (word_matrix f.field v w) ≡ product (field_ring f.field) Y (word_matrix f.field v w) → X ≡ Y
  cancel_behind X Y w s t over same =
      let R = field_ring f.field in
      let ring = field_is_ring f.field in
      let n = dimension v in
      let W = word_matrix f.field v w in
      let Z = word_matrix f.field v (reversed f.field w) in
      let drop = λ (L : Matrix ℕ) (l : IsSquare R n L). assoc R ring n L W Z l (matrix-square f.field v w) (matrix-square f.field v (reversed f.field w)) ∙ ap (product R L) (cancels_right w over) ∙ one_right R ring n L l in
      sym (drop X s) ∙ ap (λ L. product R L Z) same ∙ drop Y t

  -- and from the left
  pub cancel_before : (X Y : Matrix ℕ) (w : List CodeLetter) → IsSquare (field_ring f.field) (dimension v) X → IsSquare (field_ring f.field) (dimension v) Y → IsWordOver (unsigned f) w
      → product (field_ring f.field) (word_matrix f.field v w) X ≡ product (field_ring f.field) (word_matrix f.field v w) Y → X ≡ Y
  cancel_before X Y w s t over same =
      let R = field_ring f.field in
      let ring = field_is_ring f.field in
      let n = dimension v in
      let W = word_matrix f.field v w in
      let Z = word_matrix f.field v (reversed f.field w) in
      let drop = λ (L : Matrix ℕ) (l : IsSquare R n L). sym (assoc R ring n Z W L (matrix-square f.field v (reversed f.field w)) (matrix-square f.field v w) l) ∙ ap (λ M. product R M L) (cancels_left w over) ∙ one_left R ring n L l in
      sym (drop X s) ∙ ap (product R Z) same ∙ drop Y t
