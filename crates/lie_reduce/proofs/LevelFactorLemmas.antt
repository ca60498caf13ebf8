-- The factors of a matrix by levels are the triangular factors of the matrix in the order of the places.
use Rattle.std.proofs.Common.{◌≡◌, ℕ, ◌<◌, List, length, get_or, sym, ap, ap₂, ◌∙◌, subst, arith}
use Rattle.std.specs.Prelude.{pos, neg_ℤ}
use Rattle.std.proofs.lemmas.Int.{ints}
use Rattle.lie_ring.specs.Rings.{RingOn, IsElem, IsRing}
use Rattle.lie_ring.specs.Matrices.{Matrix, entry, table, product}
use Rattle.lie_ring.specs.MatrixLemmas.{entry-table, table-shaped, table-same}
use Rattle.lie_field.specs.FiniteField.{FiniteField}
use Rattle.lie_field.specs.FieldRing.{field_ring, field_is_ring}
use Rattle.lie_datum.specs.RootList.{RootDatum}
use Rattle.lie_const.specs.Modules.{Module, dimension}
use Rattle.lie_reduce.specs.Triangular.{IsSquare, IsUpperUnitriangular, IsLowerUnitriangular, IsInvertibleDiagonal, AreFactors, HasNoFactors}
use Rattle.lie_reduce.specs.Levels.{Raises, level}
use Rattle.lie_reduce.specs.Places.{AreInOrder}
use Rattle.lie_reduce.specs.Pivots.{sorted_entry}
use Rattle.lie_reduce.specs.FormReading.{AreLevelFactors, HasNoLevelFactors, AreOnlyFactors}
use Rattle.lie_reduce.proofs.LevelLemmas.{raises-diagonal, raises-zero, element}
use Rattle.lie_reduce.proofs.Peeling.{product-square}
use Rattle.lie_reduce.proofs.PlaceOrder.{falling}
use Rattle.lie_reduce.proofs.SortedPlaces.{distinct, sorted, sorted-square, sorted-entry, sorted-product, sorted-raises}
use Rattle.lie_reduce.proofs.Triangles.{one_factors}

module _ (f : FiniteField) (d : RootDatum) (v : Module) (ps : List ℕ) (o : AreInOrder d v ps) where
  abbrev R : RingOn ℕ
  R = field_ring f

  abbrev ring : IsRing (field_ring f)
  ring = field_is_ring f

  abbrev n : ℕ
  n = dimension v

  abbrev turn : Matrix ℕ → Matrix ℕ
  turn M = sorted (field_ring f) (field_is_ring f) d v ps o M

  -- ---- in the order of the places
  sorted-upper : (U : Matrix ℕ) → IsSquare (field_ring f) (dimension v) U → Raises (field_ring f) (dimension v) (level d v) (pos 1) U → IsUpperUnitriangular (field_ring f) (dimension v) (turn U)
  sorted-upper U s u =
      let levels = λ (i : ℕ). level d v (get_or ps i 0) in
      let one = sorted-raises R ring d v ps o (level d v) (pos 1) U s u in
      record {
        square = sorted-square R ring d v ps o U s;
        diagonal = λ i p. raises-diagonal R ring n levels (pos 1) (omega (arith, ints)) (turn U) one i p;
        below = λ i j p l. raises-zero R ring n levels (pos 1) (omega (arith, ints)) (turn U) one i j p (omega (arith, p, l)) (λ e. (let never : ⊥ = omega (arith, e, l) in never))
            (let h = falling d v ps o j i (omega (arith, l)) p in omega (arith, ints, h));
      }

  sorted-lower : (L : Matrix ℕ) → IsSquare (field_ring f) (dimension v) L → Raises (field_ring f) (dimension v) (λ i. neg_ℤ (level d v i)) (pos 1) L → IsLowerUnitriangular (field_ring f) (dimension v) (turn L)
  sorted-lower L s u =
      let levels = λ (i : ℕ). neg_ℤ (level d v (get_or ps i 0)) in
      let one = sorted-raises R ring d v ps o (λ i. neg_ℤ (level d v i)) (pos 1) L s u in
      record {
        square = sorted-square R ring d v ps o L s;
        diagonal = λ i p. raises-diagonal R ring n levels (pos 1) (omega (arith, ints)) (turn L) one i p;
        above = λ i j q l. raises-zero R ring n levels (pos 1) (omega (arith, ints)) (turn L) one i j (omega (arith, q, l)) q (λ e. (let never : ⊥ = omega (arith, e, l) in never))
            (let h = falling d v ps o i j (omega (arith, l)) q in omega (arith, ints, h));
      }

  sorted-diagonal : (D : Matrix ℕ) → IsInvertibleDiagonal (field_ring f) (dimension v) D → IsInvertibleDiagonal (field_ring f) (dimension v) (turn D)
  sorted-diagonal D h = record {
    square = sorted-square R ring d v ps o D h.square;
    beside = λ i j p q other. sorted-entry R ring d v ps o D h.square i j p q ∙ h.beside (get_or ps i 0) (get_or ps j 0) (o.within i p) (o.within j q) (distinct R ring d v ps o i j p q other);
    units = λ i p none. h.units (get_or ps i 0) (o.within i p) (sym (sorted-entry R ring d v ps o D h.square i i p p) ∙ none);
  }

  -- the table of the entries in that order
  sorted_table : (M T : Matrix ℕ) → IsSquare (field_ring f) (dimension v) M → T ≡ table (dimension v) (dimension v) (sorted_entry M ps) → T ≡ turn M
  sorted_table M T m is =
      is ∙ sym ((sorted-square R ring d v ps o M m).shape
      ∙ table-same n n (entry 0 (turn M)) (sorted_entry M ps) (λ i j p q. sorted-entry R ring d v ps o M m i j p q))

  pub sorted_elem : (M T : Matrix ℕ) → IsSquare (field_ring f) (dimension v) M → T ≡ table (dimension v) (dimension v) (sorted_entry M ps) → IsSquare (field_ring f) (dimension v) T
  sorted_elem M T m is = subst (IsSquare R n) (sym (sorted_table M T m is)) (sorted-square R ring d v ps o M m)

  -- factors by levels are triangular factors there
  sorted-factors : (G T U D L : Matrix ℕ) → IsSquare (field_ring f) (dimension v) G → T ≡ table (dimension v) (dimension v) (sorted_entry G ps) → AreLevelFactors f d v G U D L → AreFactors f T (turn U) (turn D) (turn L)
  sorted-factors G T U D L g is h =
      let tall : n ≡ T.height = sym (ap (λ M. M.height) is) in
      record {
        upper = subst (λ m. IsUpperUnitriangular R m (turn U)) tall (sorted-upper U h.upper_square h.upper);
        diagonal = subst (λ m. IsInvertibleDiagonal R m (turn D)) tall (sorted-diagonal D h.diagonal);
        lower = subst (λ m. IsLowerUnitriangular R m (turn L)) tall (sorted-lower L h.lower_square h.lower);
        product =
            sorted_table G T g is ∙ ap turn h.product
            ∙ sorted-product R ring d v ps o U (product R D L) h.upper_square (product-square R ring n D L h.diagonal.square h.lower_square)
            ∙ ap (product R (turn U)) (sorted-product R ring d v ps o D L h.diagonal.square h.lower_square);
      }

  pub level-none : (G T : Matrix ℕ) → IsSquare (field_ring f) (dimension v) G → T ≡ table (dimension v) (dimension v) (sorted_entry G ps) → HasNoFactors f T → HasNoLevelFactors f d v G
  level-none G T g is none U D L h = none (turn U) (turn D) (turn L) (sorted-factors G T U D L g is h)

  -- ---- and back
  module _ (ranks : List ℕ) (count : length ranks ≡ dimension v) (each : (a : ℕ) → a < dimension v → (get_or ranks a 0 < dimension v) × (get_or ps (get_or ranks a 0) 0 ≡ a)) where
    taken : Matrix ℕ → Matrix ℕ
    taken X = table (dimension v) (dimension v) (sorted_entry X ranks)

    taken-entry : (X : Matrix ℕ) (a b : ℕ) → a < dimension v → b < dimension v → entry 0 (taken X) a b ≡ entry 0 X (get_or ranks a 0) (get_or ranks b 0)
    unfolding taken
    taken-entry X a b p q = entry-table 0 n n (sorted_entry X ranks) a b p q

    taken-square : (X : Matrix ℕ) → IsSquare (field_ring f) (dimension v) X → IsSquare (field_ring f) (dimension v) (taken X)
    unfolding taken
    taken-square X s = record {
      shape = table-shaped 0 n n (sorted_entry X ranks);
      elem = λ a b p q. subst (IsElem R) (sym (taken-entry X a b p q)) (element R ring n X s (get_or ranks a 0) (get_or ranks b 0) (each a p).0 (each b q).0);
    }

    taken-diagonal : (X : Matrix ℕ) → IsInvertibleDiagonal (field_ring f) (dimension v) X → IsInvertibleDiagonal (field_ring f) (dimension v) (taken X)
    taken-diagonal X h = record {
      square = taken-square X h.square;
      beside = λ a b p q other. taken-entry X a b p q ∙ h.beside (get_or ranks a 0) (get_or ranks b 0) (each a p).0 (each b q).0
          (λ e. other (sym (each a p).1 ∙ ap (λ i. get_or ps i 0) e ∙ (each b q).1));
      units = λ a p none. h.units (get_or ranks a 0) (each a p).0 (sym (taken-entry X a a p p) ∙ none);
    }

    -- what is taken back is the matrix
    taken-back : (X : Matrix ℕ) → IsSquare (field_ring f) (dimension v) X → taken (turn X) ≡ X
    unfolding taken
    taken-back X s =
        table-same n n (sorted_entry (turn X) ranks) (entry 0 X) (λ a b p q.
        sorted-entry R ring d v ps o X s (get_or ranks a 0) (get_or ranks b 0) (each a p).0 (each b q).0 ∙ ap₂ (entry 0 X) (each a p).1 (each b q).1)
        ∙ sym s.shape

    -- a factor as the code takes it back
    taken_is : (X Y : Matrix ℕ) → X.height ≡ dimension v → Y ≡ table X.height X.height (sorted_entry X ranks) → Y ≡ taken X
    unfolding taken
    taken_is X Y tall is = is ∙ ap (λ m. table m m (sorted_entry X ranks)) tall

    pub level-some : (G T X Y Z U D L : Matrix ℕ) → IsSquare (field_ring f) (dimension v) G → T ≡ table (dimension v) (dimension v) (sorted_entry G ps) → AreFactors f T X Y Z
        → U ≡ table X.height X.height (sorted_entry X ranks) → D ≡ table Y.height Y.height (sorted_entry Y ranks) → L ≡ table Z.height Z.height (sorted_entry Z ranks)
        → AreOnlyFactors f d v G U D L
    level-some G T X Y Z U D L g is h u w l =
        let tall : T.height ≡ n = ap (λ M. M.height) is in
        let x = subst (λ m. IsSquare R m X) tall h.upper.square in
        let y = subst (λ m. IsInvertibleDiagonal R m Y) tall h.diagonal in
        let z = subst (λ m. IsSquare R m Z) tall h.lower.square in
        let is_u = taken_is X U (ap (λ M. M.height) x.shape) u in
        let is_d = taken_is Y D (ap (λ M. M.height) y.square.shape) w in
        let is_l = taken_is Z L (ap (λ M. M.height) z.shape) l in
        record {
          upper_square = subst (IsSquare R n) (sym is_u) (taken-square X x);
          diagonal = subst (IsInvertibleDiagonal R n) (sym is_d) (taken-diagonal Y y);
          lower_square = subst (IsSquare R n) (sym is_l) (taken-square Z z);
          only = λ A B C k. (
              let same = one_factors f T X Y Z (turn A) (turn B) (turn C) h (sorted-factors G T A B C g is k) in (
                is_u ∙ ap taken same.0 ∙ taken-back A k.upper_square,
                is_d ∙ ap taken same.1 ∙ taken-back B k.diagonal.square,
                is_l ∙ ap taken same.2 ∙ taken-back C k.lower_square,
              ));
        }
