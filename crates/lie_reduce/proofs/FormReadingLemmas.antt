-- The parts of a form are those that are read off its matrix, and a word of them has the matrix.
use Rattle.std.proofs.Common.{◌≡◌, ℕ, List, [], ◌∷◌, ◌++◌, map, length, sym, ap, ap₂, ◌∙◌, subst}
use Rattle.std.specs.Prelude.{ℤ}
use Rattle.lie_ring.specs.Rings.{RingOn, IsRing}
use Rattle.lie_ring.specs.Matrices.{Matrix, product}
use Rattle.lie_field.specs.FieldRing.{field_ring, field_is_ring}
use Rattle.lie_const.specs.Modules.{Module, dimension}
use Rattle.lie_letters.specs.declared.letter.Letter.{Letter}
use Rattle.lie_letters.specs.declared.letter.Letter.TheVariants.{H, N}
use Rattle.lie_letters.specs.SignedFrames.{SignedFrame, unsigned}
use Rattle.lie_letters.specs.Spelled.{IsWordOver, reversed, root_letters}
use Rattle.lie_unip.specs.Forms.{FormData, IsForm, IsFormOf, IsShortest, form_word, nonzero_letters}
use Rattle.lie_letters.specs.RingLetters.{full_word}
use Rattle.lie_unip.specs.Collection.{AreEntries}
use Rattle.lie_bruhat.proofs.ListLemmas.{full_joined}
use Rattle.lie_bruhat.proofs.FormExists.{every_word}
use Rattle.lie_bruhat.proofs.RulesHold.{reversed_cancels, shortest_words_joined}
use Rattle.lie_audit.specs.WordMatrix.{word_matrix, torus_element}
use Rattle.lie_audit.proofs.EqualMatricesLemmas.{equal_matrices}
use Rattle.lie_audit.proofs.WeylWeightsLemmas.{weyl_moves_weights}
use Rattle.lie_audit.proofs.WordMatrixLemmas.{joined-words}
use Rattle.lie_reduce.specs.Triangular.{IsSquare}
use Rattle.lie_reduce.specs.FormReading.{AreLevelFactors, HasNoLevelFactors, AreOnlyFactors, IsReadAlong, HasParts, HasNoForm, ArePartsAlong, IsWordWith, IsNoForms, IsWordOfParts, HasNoFormOf, IsWordRead}
use Rattle.lie_reduce.specs.TorusReading.{IsTorusOf}
use Rattle.lie_reduce.specs.Reduction.{HasFormMatrix, IsNoWordMatrix, IsNoPositiveMatrix}
use Rattle.lie_reduce.specs.UniqueForms.{IsCoveringFor}
use Rattle.lie_reduce.proofs.Peeling.{product-square}
use Rattle.lie_reduce.proofs.UniqueFactors.{assoc, one_left, one_right}
use Rattle.lie_reduce.proofs.UniqueFormsLemmas as Unique
use Rattle.lie_reduce.proofs.WeylSends.{torus-invertible}
use Rattle.lie_reduce.proofs.ReversedWords.{list-ring}
use Rattle.lie_reduce.proofs.WordInverses.{matrix-square, cancels_left, cancels_right}

-- two words of the frame, joined
pub over-joined : (f : SignedFrame) (u w : List Letter) → IsWordOver (unsigned f) u → IsWordOver (unsigned f) w → IsWordOver (unsigned f) (u ++ w)
over-joined f [] w g h = h
over-joined f (x ∷ u) w g h = (g.0, over-joined f u w g.1 h)

module _ (f : SignedFrame) (v : Module) (ground : IsCoveringFor f v) where
  abbrev R : RingOn ℕ
  R = field_ring f.field

  abbrev ring : IsRing (field_ring f.field)
  ring = field_is_ring f.field

  abbrev n : ℕ
  n = dimension v

  abbrev matrix : List Letter → Matrix ℕ
  matrix w = word_matrix f.field v w

  square : (w : List Letter) → IsSquare (field_ring f.field) (dimension v) (word_matrix f.field v w)
  square w = matrix-square f.field v w

  -- ---- the factors of the matrix of a form, with n_w taken away on the right
  module _ (M : Matrix ℕ) (turn : List Letter) (y : FormData) (h : IsReadAlong f v M turn y) where
    abbrev p : List ℕ
    p = h.word

    abbrev is : IsForm f y
    is = h.matrix.form

    abbrev first : List Letter
    first = root_letters (nonzero_letters y.first)

    abbrev second : List Letter
    second = root_letters (nonzero_letters y.second)

    abbrev T : Matrix ℕ
    T = torus_element f.field v y.torus

    turn-over : IsWordOver (unsigned f) (map N h.word)
    turn-over = Unique.weyl-over f v ground equal_matrices reversed_cancels shortest_words_joined weyl_moves_weights y h.matrix.form h.word h.short

    -- the word of negative roots for n_w v n_w^-1
    low_word : List Letter
    low_word = (Unique.below f v ground equal_matrices reversed_cancels shortest_words_joined weyl_moves_weights y h.matrix.form h.word h.short).word

    low_same : product (field_ring f.field) (word_matrix f.field v (map N h.word)) (word_matrix f.field v second) ≡ product (field_ring f.field) (word_matrix f.field v low_word) (word_matrix f.field v (map N h.word))
    unfolding low_word
    low_same = (Unique.below f v ground equal_matrices reversed_cancels shortest_words_joined weyl_moves_weights y h.matrix.form h.word h.short).same

    factors : AreLevelFactors f.field f.datum v (product (field_ring f.field) M (word_matrix f.field v (reversed f.field turn))) (word_matrix f.field v first) T (word_matrix f.field v low_word)
    unfolding low_word
    factors =
        let W = matrix (map N p) in
        let Z = matrix (reversed f.field (map N p)) in
        let U = matrix first in
        let L = matrix low_word in
        let up = Unique.upper f v ground equal_matrices reversed_cancels shortest_words_joined weyl_moves_weights y.first is.first in
        let down = Unique.lower f v ground equal_matrices reversed_cancels shortest_words_joined weyl_moves_weights y is p h.short in
        let t = torus-invertible f.field v y.torus is.units in
        let whole = Unique.turned-parts f v ground equal_matrices reversed_cancels shortest_words_joined weyl_moves_weights y is p h.short in
        let X = product R U (product R T L) in
        let x = product-square R ring n U (product R T L) (square first) (product-square R ring n T L t.square (square low_word)) in
        record {
          upper_square = square first;
          upper = up.raises;
          diagonal = t;
          lower_square = square low_word;
          lower = down.raises;
          product =
              ap₂ (product R) (sym (h.matrix.along p h.short) ∙ whole) (ap (λ w. matrix (reversed f.field w)) h.along)
              ∙ assoc R ring n X W Z x (square (map N p)) (square (reversed f.field (map N p)))
              ∙ ap (product R X) (cancels_right f ground.lawful v ground.audited equal_matrices reversed_cancels (map N p) turn-over)
              ∙ one_right R ring n X x;
        }

    -- v, from n_w v n_w^-1
    second_back : product (field_ring f.field) (word_matrix f.field v (reversed f.field turn)) (product (field_ring f.field) (word_matrix f.field v low_word) (word_matrix f.field v turn)) ≡ word_matrix f.field v second
    second_back =
        let W = matrix (map N p) in
        let Z = matrix (reversed f.field (map N p)) in
        let V = matrix second in
        ap (λ w. product R (matrix (reversed f.field w)) (product R (matrix low_word) (matrix w))) h.along
        ∙ ap (product R Z) (sym low_same)
        ∙ sym (assoc R ring n Z W V (square (reversed f.field (map N p))) (square (map N p)) (square second))
        ∙ ap (λ X. product R X V) (cancels_left f ground.lawful v ground.audited equal_matrices reversed_cancels (map N p) turn-over)
        ∙ one_left R ring n V (square second)

    -- the word of the form, by its parts
    form_parts : (U D V : Matrix ℕ) → HasParts f v y U D V → product (field_ring f.field) U (product (field_ring f.field) D (product (field_ring f.field) (word_matrix f.field v turn) V)) ≡ M
    form_parts U D V k =
        ap₂ (product R) k.first (ap₂ (product R) k.torus (ap₂ (product R) (ap matrix h.along) k.second ∙ sym (joined-words f.field v (map N p) second)))
        ∙ sym (joined-words f.field v first (H y.torus ∷ (map N p ++ second)))
        ∙ h.matrix.along p h.short

  pub parts-none : (M : Matrix ℕ) (turn : List Letter) → HasNoLevelFactors f.field f.datum v (product (field_ring f.field) M (word_matrix f.field v (reversed f.field turn))) → HasNoForm f v M turn
  parts-none M turn none y h = none (word_matrix f.field v (root_letters (nonzero_letters y.first))) (torus_element f.field v y.torus) (matrix (low_word M turn y h)) (factors M turn y h)

  pub parts-some : (M : Matrix ℕ) (turn : List Letter) (U D L V : Matrix ℕ)
      → AreOnlyFactors f.field f.datum v (product (field_ring f.field) M (word_matrix f.field v (reversed f.field turn))) U D L
      → V ≡ product (field_ring f.field) (word_matrix f.field v (reversed f.field turn)) (product (field_ring f.field) L (word_matrix f.field v turn))
      → ArePartsAlong f v M turn U D V
  parts-some M turn U D L V a is = record {
    upper_square = a.upper_square;
    diagonal = a.diagonal;
    second_square = subst (IsSquare R n) (sym is) (product-square R ring n (matrix (reversed f.field turn)) (product R L (matrix turn)) (square (reversed f.field turn)) (product-square R ring n L (matrix turn) a.lower_square (square turn)));
    only = λ y h. (
        let same = a.only (matrix (root_letters (nonzero_letters y.first))) (torus_element f.field v y.torus) (matrix (low_word M turn y h)) (factors M turn y h) in
        record {
          form = h.matrix.form;
          first = same.0;
          torus = same.1;
          second = is ∙ ap (λ X. product R (matrix (reversed f.field turn)) (product R X (matrix turn))) same.2 ∙ second_back M turn y h;
        });
  }

  -- ---- the word that is read
  pub word-read : (M : Matrix ℕ) (weyl : List ℤ) (turn : List Letter) (p : List ℕ) → IsShortest f.datum weyl p → turn ≡ map N p → (U D V : Matrix ℕ) → ArePartsAlong f v M turn U D V
      → (w : List Letter) → IsWordOfParts f v turn U D V w → IsWordRead f v M weyl w
  word-read M weyl turn p short along U D V a w k = record {
    over = k.over;
    matrix = λ y h e. (
        let read : IsReadAlong f v M turn y = record { matrix = h; word = p; short = subst (λ z. IsShortest f.datum z p) (sym e) short; along = along } in
        k.matrix y (a.only y read) ∙ form_parts M turn y read U D V (a.only y read));
  }

  pub none-read : (M : Matrix ℕ) (weyl : List ℤ) (turn : List Letter) (p : List ℕ) → IsShortest f.datum weyl p → turn ≡ map N p → HasNoForm f v M turn → HasNoFormOf f v M weyl
  none-read M weyl turn p short along none y h e = none y (record { matrix = h; word = p; short = subst (λ z. IsShortest f.datum z p) (sym e) short; along = along })

  pub none-parts : (M : Matrix ℕ) (weyl : List ℤ) (turn : List Letter) (p : List ℕ) → IsShortest f.datum weyl p → turn ≡ map N p → (U D V : Matrix ℕ) → ArePartsAlong f v M turn U D V → IsNoForms f v U D V → HasNoFormOf f v M weyl
  none-parts M weyl turn p short along U D V a none = none-read M weyl turn p short along (λ y h. none y (a.only y h))

  -- ---- the answer
  -- where no form has the matrix, no word has it
  pub no-word : (M : Matrix ℕ) → ((y : FormData) → ¬ HasFormMatrix f v y M) → IsNoWordMatrix f v M
  no-word M none w over same =
      let found = every_word f w ground.lawful over in
      none found.0 (record { form = found.1.form; along = λ p short. equal_matrices f v ground.lawful ground.audited (form_word found.0 p) w (found.1.joined p short) ∙ same })

  -- a form of a word with the matrix has it
  pub form-matrix : (M : Matrix ℕ) (w : List Letter) (x : FormData) → IsFormOf f x w → word_matrix f.field v w ≡ M → HasFormMatrix f v x M
  form-matrix M w x k same = record { form = k.form; along = λ p short. equal_matrices f v ground.lawful ground.audited (form_word x p) w (k.joined p short) ∙ same }

  -- ---- the word of the parts
  pub word-of-parts : (turn first second : List Letter) (t : List ℕ) (U D V : Matrix ℕ) → IsWordOver (unsigned f) turn → IsWordWith f v U first → IsWordWith f v V second → IsTorusOf f.field f.datum v D t
      → (w : List Letter) → w ≡ first ++ H t ∷ (turn ++ second) → IsWordOfParts f v turn U D V w
  word-of-parts turn first second t U D V over a b torus w is = record {
    over = subst (IsWordOver (unsigned f)) (sym is) (over-joined f first (H t ∷ (turn ++ second)) a.0 ((torus.long, torus.units), over-joined f turn second over b.0));
    matrix = λ y k. (
        let same : t ≡ y.torus = torus.only y.torus k.form.long k.form.units k.torus in
        ap matrix is
        ∙ joined-words f.field v first (H t ∷ (turn ++ second))
        ∙ ap₂ (product R) a.1 (ap₂ (product R) (ap (torus_element f.field v) same ∙ sym k.torus) (joined-words f.field v turn second ∙ ap (product R (matrix turn)) b.1)));
  }

  -- where a part is no product of root elements, it is that of no form
  list-some : (U : Matrix ℕ) (us : List ℕ) → AreEntries (field_ring f.field) (length f.datum.positive) us → U ≡ word_matrix f.field v (root_letters (nonzero_letters us)) → IsNoPositiveMatrix f v U → ⊥
  list-some U us entries is none =
      none (full_word us) (list-ring f us entries)
      (equal_matrices f v ground.lawful ground.audited (root_letters (full_word us)) (root_letters (nonzero_letters us)) (full_joined f ground.lawful us entries) ∙ sym is)

  pub no-first : (U D V : Matrix ℕ) → IsNoPositiveMatrix f v U → IsNoForms f v U D V
  no-first U D V none y k = list-some U y.first k.form.first k.first none

  pub no-second : (U D V : Matrix ℕ) → IsNoPositiveMatrix f v V → IsNoForms f v U D V
  no-second U D V none y k = list-some V y.second k.form.second k.second none
