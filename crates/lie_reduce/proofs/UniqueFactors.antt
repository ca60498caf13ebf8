-- From one product of an upper, a middle and an upper (or lower) factor to the middle and to the factors.
use Rattle.std.proofs.Common.{◌≡◌, ◌≢◌, ℕ, ◌<◌, sym, ap, ap₂, ◌∙◌, arith}
use Rattle.std.specs.Prelude.{ℤ, pos, ◌+ℤ◌, ◌≤ℤ◌, ◌⊎◌}
use Rattle.std.proofs.lemmas.Int.{ints}
use Rattle.lie_ring.specs.Rings.{RingOn, IsElem, IsRing}
use Rattle.lie_ring.specs.Matrices.{Matrix, table, entry, identity, product}
use Rattle.lie_ring.specs.MatrixLemmas.{table-same}
use Rattle.lie_ring.specs.MatrixLaws.{product-assoc, one-product, product-one}
use Rattle.lie_datum.specs.Vectors.{Vector, pairing}
use Rattle.lie_ring.specs.RingLemmas.{mul_zero, zero_mul}
use Rattle.lie_audit.specs.WeylWeights.{SameWeight}
use Rattle.lie_reduce.specs.Triangular.{IsSquare, IsInvertibleDiagonal}
use Rattle.lie_reduce.specs.Levels.{unit_entry, Raises, Sends}
use Rattle.lie_reduce.proofs.LevelLemmas.{pivots_determined, raises-product, factors_determined, product-only, element}
use Rattle.lie_reduce.proofs.Peeling.{product-square}

-- M raises levels, and so does its inverse N
pub record IsUnipotent {A : Type 0} (R : RingOn A) (n : ℕ) (level : ℕ → ℤ) (M N : Matrix A) : Type 0 where
  pub square : IsSquare R n M
  pub inverse_square : IsSquare R n N
  pub raises : Raises R n level (pos 1) M
  pub inverse_raises : Raises R n level (pos 1) N
  pub left : product R N M ≡ identity R n
  pub right : product R M N ≡ identity R n

module _ {A : Type 0} (R : RingOn A) (ring : IsRing R) (n : ℕ) where
  -- (L M) N = L (M N)
  pub assoc : (L M N : Matrix A) → IsSquare R n L → IsSquare R n M → IsSquare R n N → product R (product R L M) N ≡ product R L (product R M N)
  assoc L M N l m k =
      product-assoc R ring L M N (ap (λ X. X.width) l.shape ∙ sym (ap (λ X. X.height) m.shape)) (ap (λ X. X.width) m.shape ∙ sym (ap (λ X. X.height) k.shape)) l.elem m.elem k.elem

  shaped : (M : Matrix A) → IsSquare R n M → M ≡ table M.height M.width (entry R.zero M)
  shaped M s = s.shape ∙ sym (ap₂ (λ a b. table a b (entry R.zero M)) (ap (λ X. X.height) s.shape) (ap (λ X. X.width) s.shape))

  -- 1 M = M
  pub one_left : (M : Matrix A) → IsSquare R n M → product R (identity R n) M ≡ M
  one_left M s = ap (λ m. product R (identity R m) M) (sym (ap (λ X. X.height) s.shape)) ∙ one-product R ring M (shaped M s) s.elem

  -- M 1 = M
  pub one_right : (M : Matrix A) → IsSquare R n M → product R M (identity R n) ≡ M
  one_right M s = ap (λ m. product R M (identity R m)) (sym (ap (λ X. X.width) s.shape)) ∙ product-one R ring M (shaped M s) s.elem

  -- U (P V) = U' (P' V') with inverses W of U and X' of V': (W U') P' = P (V X')
  pub between : (U W P V U' P' V' X' : Matrix A) → IsSquare R n U → IsSquare R n W → IsSquare R n P → IsSquare R n V → IsSquare R n U' → IsSquare R n P' → IsSquare R n V' → IsSquare R n X'
      → product R W U ≡ identity R n → product R V' X' ≡ identity R n → product R U (product R P V) ≡ product R U' (product R P' V')
      → product R (product R W U') P' ≡ product R P (product R V X')
  between U W P V U' P' V' X' su sw sp sv su' sp' sv' sx' left right same =
      let sq = product-square R ring n in
      let WU' = product R W U' in
      let swu' = sq W U' sw su' in
      let whole : product R (product R WU' P') V' ≡ product R P V =
      assoc WU' P' V' swu' sp' sv'
      ∙ assoc W U' (product R P' V') sw su' (sq P' V' sp' sv')
      ∙ ap (product R W) (sym same)
      ∙ sym (assoc W U (product R P V) sw su (sq P V sp sv))
      ∙ ap (λ M. product R M (product R P V)) left
      ∙ one_left (product R P V) (sq P V sp sv) in
      sym (one_right (product R WU' P') (sq WU' P' swu' sp'))
      ∙ ap (product R (product R WU' P')) (sym right)
      ∙ sym (assoc (product R WU' P') V' X' (sq WU' P' swu' sp') sv' sx')
      ∙ ap (λ M. product R M X') whole
      ∙ assoc P V X' sp sv sx'

  -- ---- the middle factors send weights alike
  pub same_maps : (decide : (x : A) → (x ≡ R.zero) ⊎ (x ≢ R.zero)) (weight : ℕ → Vector) (rho : Vector) (U W V X U' W' V' X' P Q : Matrix A) (g h : Vector → Vector)
      → IsUnipotent R n (λ i. pairing (weight i) rho) U W → IsUnipotent R n (λ i. pairing (weight i) rho) V X
      → IsUnipotent R n (λ i. pairing (weight i) rho) U' W' → IsUnipotent R n (λ i. pairing (weight i) rho) V' X'
      → IsSquare R n P → IsSquare R n Q → Sends R n weight P g → Sends R n weight Q h
      → product R U (product R P V) ≡ product R U' (product R Q V') → (j : ℕ) → j < n → SameWeight (g (weight j)) (h (weight j))
  same_maps decide weight rho U W V X U' W' V' X' P Q g h u v u' v' sp sq s t same j low =
      let level = λ (i : ℕ). pairing (weight i) rho in
      let one : pos 1 ≤ℤ pos 1 = omega (arith, ints) in
      let sqr = product-square R ring n in
      let up = raises-product R ring n level (pos 1) one in
      let first = between U W P V U' Q V' X' u.square u.inverse_square sp v.square u'.square sq v'.square v'.inverse_square u.left v'.right same in
      let second = between U' W' Q V' U P V X u'.square u'.inverse_square sq v'.square u.square sp v.square v.inverse_square u'.left v.right (sym same) in
      pivots_determined R ring n decide weight rho
      (product R W U') (product R W' U) (product R V X') (product R V' X) P Q g h
      (sqr W U' u.inverse_square u'.square) (sqr W' U u'.inverse_square u.square) (sqr V X' v.square v'.inverse_square) (sqr V' X v'.square v.inverse_square) sp sq
      (up W U' u.inverse_square u'.square u.inverse_raises u'.raises) (up W' U u'.inverse_square u.square u'.inverse_raises u.raises)
      (up V X' v.square v'.inverse_square v.raises v'.inverse_raises) (up V' X v'.square v.inverse_square v'.raises v.inverse_raises)
      s t
      (λ i k _ _. ap (λ M. entry R.zero M i k) first) (λ i k _ _. ap (λ M. entry R.zero M i k) second) j low

  -- ---- a raising, a diagonal and a lowering factor are determined
  -- an entry of a product with a diagonal matrix on the right, and on the left
  diagonal_right : (M D : Matrix A) → IsSquare R n M → IsInvertibleDiagonal R n D → (i j : ℕ) → i < n → j < n → entry R.zero (product R M D) i j ≡ R.mul (entry R.zero M i j) (entry R.zero D j j)
  diagonal_right M D s d i j p q = product-only R ring n M D s d.square i j j p q q (λ l a other.
      ap (R.mul (entry R.zero M i l)) (d.beside l j a q other) ∙ mul_zero R ring.laws (entry R.zero M i l) (element R ring n M s i l p a))

  pub diagonal_left : (D M : Matrix A) → IsInvertibleDiagonal R n D → IsSquare R n M → (i j : ℕ) → i < n → j < n → entry R.zero (product R D M) i j ≡ R.mul (entry R.zero D i i) (entry R.zero M i j)
  diagonal_left D M d s i j p q = product-only R ring n D M d.square s i j i p q p (λ l a other.
      ap (λ x. R.mul x (entry R.zero M l j)) (d.beside i l p a (λ e. other (sym e))) ∙ zero_mul R ring.laws (entry R.zero M l j) (element R ring n M s l j a q))

  -- a matrix with the entries of the identity
  identity_is : (M : Matrix A) → IsSquare R n M → ((i j : ℕ) → i < n → j < n → entry R.zero M i j ≡ unit_entry R i j) → M ≡ identity R n
  identity_is M s same = s.shape ∙ table-same n n (entry R.zero M) (unit_entry R) same

  -- from N M' = 1 and M N = 1, M = M'
  pub inverse_same : (M M' N : Matrix A) → IsSquare R n M → IsSquare R n M' → IsSquare R n N → product R M N ≡ identity R n → product R N M' ≡ identity R n → M ≡ M'
  inverse_same M M' N s s' t right left =
      sym (one_right M s) ∙ ap (product R M) (sym left) ∙ sym (assoc M N M' s t s') ∙ ap (λ X. product R X M') right ∙ one_left M' s'

  pub record SameTriangular (U U' H H' L L' : Matrix A) : Type 0 where
    pub upper : U ≡ U'
    pub lower : L ≡ L'
    pub diagonal : (i : ℕ) → i < n → entry R.zero H i i ≡ entry R.zero H' i i

  pub same_triangular : (level down : ℕ → ℤ) → ((i : ℕ) → (level i +ℤ down i) ≡ pos 0)
      → ((x y : A) → IsElem R x → IsElem R y → R.mul x y ≡ R.zero → (x ≡ R.zero) ⊎ (y ≡ R.zero))
      → (U W L X U' W' L' X' H H' : Matrix A)
      → IsUnipotent R n level U W → IsUnipotent R n down L X → IsUnipotent R n level U' W' → IsUnipotent R n down L' X'
      → IsInvertibleDiagonal R n H → IsInvertibleDiagonal R n H'
      → product R U (product R H L) ≡ product R U' (product R H' L') → SameTriangular U U' H H' L L'
  same_triangular level down turned domain U W L X U' W' L' X' H H' u l u' l' d d' same =
      let one : pos 1 ≤ℤ pos 1 = omega (arith, ints) in
      let a = product R W U' in
      let c = product R L X' in
      let sa = product-square R ring n W U' u.inverse_square u'.square in
      let sc = product-square R ring n L X' l.square l'.inverse_square in
      let both = between U W H L U' H' L' X' u.square u.inverse_square d.square l.square u'.square d'.square l'.square l'.inverse_square u.left l'.right same in
      let result = factors_determined R ring n level down turned a c (λ i. entry R.zero H i i) (λ i. entry R.zero H' i i)
      (raises-product R ring n level (pos 1) one W U' u.inverse_square u'.square u.inverse_raises u'.raises)
      (raises-product R ring n down (pos 1) one L X' l.square l'.inverse_square l.raises l'.inverse_raises)
      domain sa sc
      (λ i p. element R ring n H d.square i i p p) (λ i p. element R ring n H' d'.square i i p p) d.units d'.units
      (λ i j p q. sym (diagonal_right a H' sa d' i j p q) ∙ ap (λ M. entry R.zero M i j) both ∙ diagonal_left H c d sc i j p q) in
      record {
        upper = inverse_same U U' W u.square u'.square u.inverse_square u.right (identity_is a sa (λ i j p q. (result i j p q).0));
        lower = inverse_same L L' X' l.square l'.square l'.inverse_square (identity_is c sc (λ i j p q. (result i j p q).1)) l'.left;
        diagonal = λ i p. (result i i p p).2;
      }
