-- N_i moves weights as s_i does: over the integers by the grading and S6, over every finite field as the image, and along words.
use Rattle.std.proofs.Common.{◌≡◌, ◌≢◌, ℕ, zero, suc, ◌<◌, cond, eqb, List, [], ◌∷◌, map, length, ℤ, pos, negsuc, neg_ℤ, ◌+ℤ◌, ◌*ℤ◌, refl, sym, ap, ap₂, ◌∙◌, ⊎_elim, arith}
use Rattle.std.proofs.lemmas.Int.{ints}
use Rattle.std.proofs.lemmas.Bool.{cases_eq, ne_eqb}
use Rattle.lie_ring.specs.Rings.{sum_below}
use Rattle.lie_ring.specs.RingLemmas.{mul_zero, zero_mul, int_zero}
use Rattle.lie_ring.specs.Integers.{integers}
use Rattle.lie_ring.specs.IntegerLaws.{integers_ring}
use Rattle.lie_ring.specs.Matrices.{Matrix, entry, table, product, product_entry, product_term}
use Rattle.lie_ring.specs.MatrixLemmas.{entry-table, table-shaped}
use Rattle.lie_ring.specs.MatrixLaws.{product-one}
use Rattle.lie_field.specs.FiniteField.{FiniteField}
use Rattle.lie_field.specs.FieldRing.{field_ring, field_is_ring}
use Rattle.lie_field.specs.Quotient.{add, mul, of_int}
use Rattle.lie_poly.specs.Polynomials.{monomial, laurent}
use Rattle.lie_poly.specs.LaurentLaws.{laurent_ring}
use Rattle.lie_datum.specs.Vectors.{Vector, pairing, times}
use Rattle.lie_datum.specs.RootDatum.{vector, simple_root, simple_coroot, IsSimpleIndex}
use Rattle.lie_datum.specs.RootList.{RootDatum, root_of, IsNumber, IsLoaded}
use Rattle.lie_datum.proofs.Linear.{pairing-plus, pairing-times}
use Rattle.lie_datum.proofs.LoadedLaws.{short}
use Rattle.lie_datum.proofs.Reflections.{pairing-combination-unit, pairing-reflected_vector}
use Rattle.lie_datum.proofs.Turns.{pairing-combination-times}
use Rattle.lie_datum.proofs.SignedRoots.{opposite_number}
use Rattle.lie_datum.proofs.SimplesFirst.{simple_number}
use Rattle.lie_weyl.proofs.Words.{IsWord, letter, is_word}
use Rattle.lie_orbit.specs.Orbits.{reflected_weight}
use Rattle.lie_const.specs.ConstantTables.{ConstantTable}
use Rattle.lie_const.specs.Modules.{Module, dimension, divided_power, weyl_element}
use Rattle.lie_const.specs.Signs.{Signs}
use Rattle.lie_letters.specs.declared.letter.Letter.TheVariants.{N}
use Rattle.lie_identities.specs.Audit.{MeetsIdentities, IsMet}
use Rattle.lie_audit.specs.WordMatrix.{letter_matrix, word_matrix}
use Rattle.lie_audit.specs.WeylWeights.{weight_at, SameWeight, reflected_along, MovesWeights, WeylMovesWeights}
use Rattle.lie_audit.proofs.WordMatrixLemmas.{IsSquareOver, word-square, letter-square}
use Rattle.lie_audit.proofs.ListedRelations.{listed-S6}
use Rattle.lie_audit.proofs.GradedWeights.{raised}
use Rattle.lie_audit.proofs.Homogeneous.{IsMoved}
use Rattle.lie_audit.proofs.IntegerRoots.{weyl-cancels}
use Rattle.lie_audit.proofs.WeylEntries.{IsGradedAt, IsS6, sends, weyl_element-integers}

module _ (d : RootDatum) (loaded : IsLoaded d) where
  -- as many simple coroots as simple roots
  as_many : length d.base.coroots ≡ length d.base.roots
  as_many = loaded.axioms.input.corank

  -- a reflected weight
  pairing-reflected : (i : ℕ) (x c : Vector) → pairing (reflected_weight d i x) c ≡ pairing x c +ℤ neg_ℤ (pairing x (simple_coroot d.base i)) *ℤ pairing (simple_root d.base i) c
  pairing-reflected i x c = pairing-reflected_vector d.base (short d loaded) as_many i x c

  -- reflections of one weight are one weight
  reflected-same : (i : ℕ) (x y : Vector) → SameWeight x y → SameWeight (reflected_weight d i x) (reflected_weight d i y)
  reflected-same i x y e c =
      pairing-reflected i x c
      ∙ ap₂ (λ s t. s +ℤ neg_ℤ t *ℤ pairing (simple_root d.base i) c) (e c) (e (simple_coroot d.base i))
      ∙ sym (pairing-reflected i y c)

  -- x = y + <x, a_i^> a_i is x = s_i y
  moved-reflected : (i : ℕ) (x y : Vector) → IsSimpleIndex d.base i → IsMoved x y (pairing x (simple_coroot d.base i)) (simple_root d.base i) → SameWeight x (reflected_weight d i y)
  moved-reflected i x y index moved c =
      let alpha = simple_root d.base i in
      let gamma = simple_coroot d.base i in
      let at = moved gamma in
      let twice : pairing x gamma *ℤ pairing alpha gamma ≡ pairing x gamma *ℤ pos 2 = ap (λ s. pairing x gamma *ℤ s) (loaded.axioms.twos i index) in
      let turned : pairing x gamma ≡ neg_ℤ (pairing y gamma) = omega (arith, ints, at, twice) in
      moved c
      ∙ ap (λ k. pairing y c +ℤ k *ℤ pairing alpha c) turned
      ∙ sym (pairing-reflected i y c)

module _ (d : RootDatum) (loaded : IsLoaded d) (c : ConstantTable) (eta : Signs) (v : Module) (meets : MeetsIdentities d c eta v) where
  -- E_r^(k) moves weights by k r
  moves : (r : ℤ) → IsNumber d r → (k a b : ℕ) → a < dimension v → b < dimension v → entry (pos 0) (divided_power v r (suc k)) a b ≢ pos 0
      → IsMoved (weight_at v a) (weight_at v b) (pos (suc k)) (vector d.base (root_of d r))
  moves r number k a b p q some x =
      ap (λ w. pairing w x) (raised d v meets.graded r number (suc k) a b (omega arith) p q some)
      ∙ pairing-plus (weight_at v b) (times (pos (suc k)) (vector d.base (root_of d r))) x
      ∙ ap (λ s. pairing (weight_at v b) x +ℤ s) (pairing-times (pos (suc k)) (vector d.base (root_of d r)) x)

  module _ (i : ℕ) (index : IsSimpleIndex d.base i) where
    -- a_i and -a_i have numbers
    up_number : IsNumber d (pos i)
    up_number = (simple_number d loaded i index).0

    down_number : IsNumber d (neg_ℤ (pos i))
    down_number = (opposite_number d (pos i) up_number).0

    -- a_i and -a_i pair as the simple root does
    up_root : (x : Vector) → pairing (vector d.base (root_of d (pos i))) x ≡ pairing (simple_root d.base i) x
    up_root x =
        ap (λ r. pairing (vector d.base r) x) (simple_number d loaded i index).1
        ∙ pairing-combination-unit i d.base.roots x index.0 index.1 (short d loaded)

    down_root : (x : Vector) → pairing (vector d.base (root_of d (neg_ℤ (pos i)))) x ≡ negsuc 0 *ℤ pairing (simple_root d.base i) x
    down_root x =
        ap (λ r. pairing (vector d.base r) x) ((opposite_number d (pos i) up_number).1)
        ∙ pairing-combination-times (neg_ℤ (pos 1)) (root_of d (pos i)).coeffs d.base.roots x
        ∙ ap (λ s. negsuc 0 *ℤ s) (up_root x)

    -- the divided powers of a_i and -a_i raise weights by multiples of a_i
    graded_at : IsGradedAt v i (weight_at v) (simple_root d.base i) (λ a. pairing (weight_at v a) (simple_coroot d.base i))
    graded_at = record {
      up = λ k a b p q some x.
          (let one : pos (suc k) *ℤ pos 1 ≡ pos (suc k) = omega (arith, ints) in
          moves (pos i) up_number k a b p q some x ∙ ap₂ (λ s t. pairing (weight_at v b) x +ℤ s *ℤ t) (sym one) (up_root x));
      down = λ k a b p q some x.
          moves (neg_ℤ (pos i)) down_number k a b p q some x
          ∙ ap (λ t. pairing (weight_at v b) x +ℤ pos (suc k) *ℤ t) (down_root x)
          ∙ ap (λ t. pairing (weight_at v b) x +ℤ t) (sym (integers_ring.laws.mul_assoc (pos (suc k)) (negsuc 0) (pairing (simple_root d.base i) x) refl refl refl));
    }

    -- S6 on the module
    s6_at : IsS6 v i (weight_at v) (simple_root d.base i) (λ a. pairing (weight_at v a) (simple_coroot d.base i))
    s6_at =
        let T = table (dimension v) (dimension v) (λ a b. cond (eqb a b) (monomial (pos 1) (pairing (weight_at v a) (simple_coroot d.base i)) (pos 0)) laurent.zero) in
        (listed-S6 d (IsMet d c eta v) meets.relations i index).identity
        ∙ product-one laurent laurent_ring T (table-shaped laurent.zero (dimension v) (dimension v) _) (λ _ _ _ _. refl)

    -- N_i over the integers
    moves-integers : MovesWeights (pos 0) v (reflected_weight d i) (weyl_element integers v i)
    moves-integers a b p q apart =
        moved-reflected d loaded i (weight_at v a) (weight_at v b) index
        (sends v i (weight_at v) (simple_root d.base i) (λ x. pairing (weight_at v x) (simple_coroot d.base i)) graded_at s6_at
        (weyl-cancels d c eta v meets i up_number down_number) a b p q apart)

    -- and over a field
    moves-letter : (f : FiniteField) → MovesWeights 0 v (reflected_weight d i) (weyl_element (field_ring f) v i)
    moves-letter f a b p q apart =
        moves-integers a b p q (λ none. apart (weyl_element-integers (field_ring f) (field_is_ring f) v i a b ∙ ap (of_int f.given) none ∙ int_zero (field_ring f) (field_is_ring f)))

-- ---- products of matrices over a field
module _ (f : FiniteField) where
  -- a sum that is not 0 has a term that is not
  some_term : (n : ℕ) (g : ℕ → ℕ) → sum_below (field_ring f) n g ≢ 0 → (k : ℕ) × (k < n) × (g k ≢ 0)
  some_term zero g apart = absurd (apart refl)
  some_term (suc n) g apart = ⊎_elim
      (λ (none : g n ≡ 0). (let r = some_term n g (λ z. apart (ap₂ (add f.given) z none ∙ (field_is_ring f).laws.add_zero 0 (field_is_ring f).laws.zero_elem)) in (r.0, omega (arith, r.1), r.2)))
      (λ (some : g n ≢ 0). (n, omega arith, some))
      (cases_eq (g n) 0)

  -- an entry of a product that is not 0 has a middle place where both factors are not
  through : (n : ℕ) (L M : Matrix ℕ) (a b : ℕ) → IsSquareOver f n L → IsSquareOver f n M → a < n → b < n → entry 0 (product (field_ring f) L M) a b ≢ 0
      → (k : ℕ) × (k < n) × (entry 0 L a k ≢ 0) × (entry 0 M k b ≢ 0)
  through n L M a b l m p q apart =
      let laws = (field_is_ring f).laws in
      let high : a < L.height = omega (arith, p, l.height) in
      let wide : b < M.width = omega (arith, q, m.width) in
      let r = some_term L.width (product_term (field_ring f) L M a b) (λ z. apart (entry-table 0 L.height M.width (product_entry (field_ring f) L M) a b high wide ∙ z)) in
      let mid : r.0 < M.height = (let h = r.1 in let x = l.width in let y = m.height in omega (arith, h, x, y)) in (
        r.0,
        (let h = r.1 in let x = l.width in omega (arith, h, x)),
        (λ z. r.2 (ap (λ x. mul f.given x (entry 0 M r.0 b)) z ∙ zero_mul (field_ring f) laws (entry 0 M r.0 b) (m.elem r.0 b mid wide))),
        (λ z. r.2 (ap (mul f.given (entry 0 L a r.0)) z ∙ mul_zero (field_ring f) laws (entry 0 L a r.0) (l.elem a r.0 high r.1))),
      )

module _ (f : FiniteField) (d : RootDatum) (loaded : IsLoaded d) (c : ConstantTable) (eta : Signs) (v : Module) (meets : MeetsIdentities d c eta v) where
  -- along a word
  along : (w : List ℕ) → IsWord d.base w → MovesWeights 0 v (reflected_along d w) (word_matrix f v (map N w))
  along [] h a b p q apart x = ⊎_elim
      (λ (e : a ≡ b). ap (λ k. pairing (weight_at v k) x) e)
      (λ (other : a ≢ b). absurd (apart (entry-table 0 (dimension v) (dimension v) (λ i j. cond (eqb i j) 1 0) a b p q ∙ ap (λ t. cond t 1 0) (ne_eqb a b other))))
      (cases_eq a b)
  along (i ∷ w) (letter index h) a b p q apart x =
      let r = through f (dimension v) (letter_matrix f v (N i)) (word_matrix f v (map N w)) a b (letter-square f v (N i)) (word-square f v (map N w)) p q apart in
      moves-letter d loaded c eta v meets i index f a r.0 p r.1 r.2 x
      ∙ reflected-same d loaded i (weight_at v r.0) (reflected_along d w (weight_at v b)) (along w h r.0 b r.1 q r.3) x

-- the law
pub weyl_moves_weights : WeylMovesWeights
weyl_moves_weights = record {
  integers = λ d c eta v loaded meets i index. moves-integers d loaded c eta v meets i index;
  words = λ f d c eta v loaded meets w letters. along f d loaded c eta v meets w (is_word d.base w letters);
}
