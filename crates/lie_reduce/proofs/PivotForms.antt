-- The pivots of the matrix of a form, with rows and columns by falling level, send the weights as the Weyl element of the form does.
use Rattle.std.proofs.Common.{◌≡◌, ◌≢◌, ℕ, suc, ◌<◌, List, ◌∷◌, map, length, get_or, sym, ap, ◌∙◌, arith}
use Rattle.std.specs.Prelude.{ℤ, pos, neg_ℤ, ◌+ℤ◌, ◌*ℤ◌}
use Rattle.std.proofs.lemmas.Int.{ints}
use Rattle.lie_ring.specs.Rings.{RingOn, IsRing}
use Rattle.lie_ring.specs.RingLemmas.{int_zero}
use Rattle.lie_ring.specs.Matrices.{Matrix, entry, identity, product, table}
use Rattle.lie_ring.specs.MatrixLemmas.{table-same}
use Rattle.lie_field.specs.FieldRing.{field_ring, field_is_ring}
use Rattle.lie_field.specs.Quotient.{of_int}
use Rattle.lie_datum.specs.Vectors.{Vector, pairing, plus, times}
use Rattle.lie_datum.specs.declared.root_pair.Root.{Root}
use Rattle.lie_datum.specs.RootDatum.{vector, IsRoot}
use Rattle.lie_datum.specs.RootList.{RootDatum, root_of, IsNumber, IsLoaded}
use Rattle.lie_datum.specs.Laws.{positive_coroots}
use Rattle.lie_datum.proofs.Entries.{length-plus, length-times}
use Rattle.lie_datum.proofs.Linear.{pairing-plus, pairing-times}
use Rattle.lie_datum.proofs.SignedRoots.{root_is, number_is}
use Rattle.lie_weyl.specs.WeylElement.{moved}
use Rattle.lie_weyl.proofs.Words.{IsWord, IsRoot-moved}
use Rattle.lie_const.specs.Modules.{Module, dimension, divided_power}
use Rattle.lie_letters.specs.declared.letter.Letter.{Letter as CodeLetter}
use Rattle.lie_letters.specs.declared.letter.Letter.TheVariants.{H, N}
use Rattle.lie_letters.specs.Spelled.{reversed}
use Rattle.lie_letters.specs.SignedFrames.{SignedFrame}
use Rattle.lie_unip.specs.Forms.{FormData, IsShortest}
use Rattle.lie_bruhat.proofs.RulesHold.{reversed_cancels, shortest_words_joined}
use Rattle.lie_audit.specs.WordMatrix.{word_matrix}
use Rattle.lie_audit.specs.WeylWeights.{SameWeight, weight_at, reflected_along}
use Rattle.lie_audit.proofs.EqualMatricesLemmas.{equal_matrices}
use Rattle.lie_audit.proofs.WeylWeightsLemmas.{weyl_moves_weights}
use Rattle.lie_audit.proofs.Homogeneous.{IsMoved}
use Rattle.lie_reduce.specs.Triangular.{IsSquare}
use Rattle.lie_reduce.specs.Levels.{level}
use Rattle.lie_reduce.specs.Places.{AreInOrder}
use Rattle.lie_reduce.specs.Pivots.{IsPivot, IsRootBetween, HasNoRootBetween}
use Rattle.lie_reduce.specs.Reduction.{HasFormMatrix}
use Rattle.lie_reduce.specs.UniqueForms.{IsCoveringFor}
use Rattle.lie_reduce.proofs.FormParts.{letters_from}
use Rattle.lie_reduce.proofs.PivotWeights.{pivot-weight}
use Rattle.lie_reduce.proofs.PlaceOrder.{falling, together, alike}
use Rattle.lie_reduce.proofs.RootsApart.{same_in_X, roots_apart, vector-long}
use Rattle.lie_reduce.proofs.RootsPeel.{weights}
use Rattle.lie_reduce.proofs.SortedPlaces.{sorted, sorted-square, sorted-entry, sorted-product, sorted-identity, sorted-unipotent, sorted-sends}
use Rattle.lie_reduce.proofs.Peeling.{product-square}
use Rattle.lie_reduce.proofs.UniqueFactors.{assoc, one_left}
use Rattle.lie_reduce.proofs.WeylSends.{zero_or, along-same}
use Rattle.lie_reduce.proofs.WeylWords.{vector-moved, turned-moved}
use Rattle.lie_reduce.proofs.WordInverses.{matrix-square, cancels_left}
use Rattle.lie_reduce.proofs.UniqueFormsLemmas as Unique

module _ (f : SignedFrame) (v : Module) (ground : IsCoveringFor f v) (ps : List ℕ) (o : AreInOrder f.datum v ps) where
  abbrev R : RingOn ℕ
  R = field_ring f.field

  abbrev ring : IsRing (field_ring f.field)
  ring = field_is_ring f.field

  abbrev d : RootDatum
  d = f.datum

  abbrev n : ℕ
  n = dimension v

  abbrev loaded : IsLoaded f.datum
  loaded = ground.lawful.lawful.loaded

  abbrev weight : ℕ → Vector
  weight i = weight_at v (get_or ps i 0)

  abbrev turn : Matrix ℕ → Matrix ℕ
  turn M = sorted (field_ring f.field) (field_is_ring f.field) f.datum v ps o M

  -- the table of the entries in that order
  pub sorted-table : (M T : Matrix ℕ) → IsSquare (field_ring f.field) (dimension v) M → T ≡ table (dimension v) (dimension v) (λ i j. entry 0 M (get_or ps i 0) (get_or ps j 0)) → T ≡ turn M
  sorted-table M T m is =
      is ∙ sym ((sorted-square R ring d v ps o M m).shape
      ∙ table-same n n (entry 0 (turn M)) (λ i j. entry 0 M (get_or ps i 0) (get_or ps j 0)) (λ i j p q. sorted-entry R ring d v ps o M m i j p q))

  module _ (x : FormData) (M : Matrix ℕ) (h : HasFormMatrix f v x M) (w : List ℕ) (short : IsShortest f.datum x.weyl w) where
    abbrev U : Matrix ℕ
    U = word_matrix f.field v (letters_from 1 x.first)

    abbrev W : Matrix ℕ
    W = word_matrix f.field v (reversed f.field (letters_from 1 x.first))

    abbrev V : Matrix ℕ
    V = word_matrix f.field v (letters_from 1 x.second)

    abbrev X : Matrix ℕ
    X = word_matrix f.field v (reversed f.field (letters_from 1 x.second))

    abbrev middle : List CodeLetter
    middle = H x.torus ∷ map N w

    abbrev L : Matrix ℕ
    L = word_matrix f.field v middle

    abbrev Z : Matrix ℕ
    Z = word_matrix f.field v (reversed f.field middle)

    square : (u : List CodeLetter) → IsSquare (field_ring f.field) (dimension v) (word_matrix f.field v u)
    square u = matrix-square f.field v u

    parts : M ≡ product (field_ring f.field) U (product (field_ring f.field) L V)
    parts = sym (h.along w short) ∙ Unique.parts f v ground equal_matrices reversed_cancels shortest_words_joined weyl_moves_weights x h.form w short

    word : IsWord f.datum.base w
    word = Unique.word f v ground equal_matrices reversed_cancels shortest_words_joined weyl_moves_weights x h.form w short

    turned-parts : turn M ≡ product (field_ring f.field) (turn U) (product (field_ring f.field) (turn L) (turn V))
    turned-parts =
        ap turn parts
        ∙ sorted-product R ring d v ps o U (product R L V) (square (letters_from 1 x.first)) (product-square R ring n L V (square middle) (square (letters_from 1 x.second)))
        ∙ ap (product R (turn U)) (sorted-product R ring d v ps o L V (square middle) (square (letters_from 1 x.second)))

    -- the weight at the pivot of a column is the image of its weight
    pub pivot-is : (j p : ℕ) → j < dimension v → IsPivot (field_ring f.field) (dimension v) (turn M) j p → SameWeight (weight p) (reflected_along f.datum w (weight j))
    pivot-is j p low pivot =
        let upper = Unique.upper f v ground equal_matrices reversed_cancels shortest_words_joined weyl_moves_weights in
        let over = Unique.middle-over f v ground equal_matrices reversed_cancels shortest_words_joined weyl_moves_weights x h.form w short in
        pivot-weight R ring n zero_or (λ e. (let never : ⊥ = omega (arith, e) in never)) weight (positive_coroots d) (alike d v ps o) (falling d v ps o) (together d v ps o)
        (turn U) (turn W) (turn V) (turn X) (turn L) (turn Z) (turn M) (reflected_along d w)
        (sorted-unipotent R ring d v ps o (level d v) U W (upper x.first h.form.first)) (sorted-unipotent R ring d v ps o (level d v) V X (upper x.second h.form.second))
        (sorted-square R ring d v ps o L (square middle)) (sorted-square R ring d v ps o Z (square (reversed f.field middle)))
        (sorted-sends R ring d v ps o (weight_at v) L (reflected_along d w) (square middle) (Unique.sends f v ground equal_matrices reversed_cancels shortest_words_joined weyl_moves_weights x h.form w short))
        (along-same d loaded w)
        (sym (sorted-product R ring d v ps o Z L (square (reversed f.field middle)) (square middle)) ∙ ap turn (cancels_left f ground.lawful v ground.audited equal_matrices reversed_cancels middle over) ∙ sorted-identity R ring d v ps o)
        turned-parts j p low pivot

    -- the matrix has an inverse
    pub has-inverse : (Y : Matrix ℕ) × IsSquare (field_ring f.field) (dimension v) Y × (product (field_ring f.field) Y (turn M) ≡ identity (field_ring f.field) (dimension v))
    has-inverse =
        let upper = Unique.upper f v ground equal_matrices reversed_cancels shortest_words_joined weyl_moves_weights in
        let over = Unique.middle-over f v ground equal_matrices reversed_cancels shortest_words_joined weyl_moves_weights x h.form w short in
        let u = sorted-unipotent R ring d v ps o (level d v) U W (upper x.first h.form.first) in
        let t = sorted-unipotent R ring d v ps o (level d v) V X (upper x.second h.form.second) in
        let sl = sorted-square R ring d v ps o L (square middle) in
        let sz = sorted-square R ring d v ps o Z (square (reversed f.field middle)) in
        let zl = sym (sorted-product R ring d v ps o Z L (square (reversed f.field middle)) (square middle)) ∙ ap turn (cancels_left f ground.lawful v ground.audited equal_matrices reversed_cancels middle over) ∙ sorted-identity R ring d v ps o in
        let sq = product-square R ring n in
        let LV = product R (turn L) (turn V) in
        let slv = sq (turn L) (turn V) sl t.square in
        let ZW = product R (turn Z) (turn W) in
        let szw = sq (turn Z) (turn W) sz u.inverse_square in (
          product R (turn X) ZW,
          sq (turn X) ZW t.inverse_square szw,
          ap (product R (product R (turn X) ZW)) turned-parts
              ∙ assoc R ring n (turn X) ZW (product R (turn U) LV) t.inverse_square szw (sq (turn U) LV u.square slv)
              ∙ ap (product R (turn X)) (
              assoc R ring n (turn Z) (turn W) (product R (turn U) LV) sz u.inverse_square (sq (turn U) LV u.square slv)
              ∙ ap (product R (turn Z)) (sym (assoc R ring n (turn W) (turn U) LV u.inverse_square u.square slv) ∙ ap (λ S. product R S LV) u.left ∙ one_left R ring n LV slv)
              ∙ sym (assoc R ring n (turn Z) (turn L) (turn V) sz sl t.square) ∙ ap (λ S. product R S (turn V)) zl ∙ one_left R ring n (turn V) t.square)
              ∙ t.left,
        )

    -- at a place of a root vector the pivots stand apart by the image of the root
    module _ (r : ℤ) (number : IsNumber f.datum r) (positive : (k : ℕ) × (k < length f.datum.positive) × (r ≡ pos (suc k))) (a b p q : ℕ) (a_low : a < dimension v) (b_low : b < dimension v)
        (nonzero : of_int f.field.given (entry (pos 0) (divided_power v r 1) (get_or ps a 0) (get_or ps b 0)) ≢ 0)
        (pivot-a : IsPivot (field_ring f.field) (dimension v) (turn M) a p) (pivot-b : IsPivot (field_ring f.field) (dimension v) (turn M) b q) where
      image : Root
      image = moved f.datum.base w (root_of f.datum r)

      image-root : IsRoot f.datum.base image
      unfolding image
      image-root = IsRoot-moved d loaded w (root_of d r) word (root_is d loaded r number)

      apart : (c : Vector) → pairing (weight p) c ≡ pairing (weight q) c +ℤ pairing (vector f.datum.base image) c
      unfolding image
      apart c =
          let k = positive.0 in
          let is = positive.2 in
          let some : entry (pos 0) (divided_power v (pos (suc k)) 1) (get_or ps a 0) (get_or ps b 0) ≢ pos 0 =
          λ none. nonzero (ap (λ z. of_int f.field.given (entry (pos 0) (divided_power v z 1) (get_or ps a 0) (get_or ps b 0))) is ∙ ap (of_int f.field.given) none ∙ int_zero R ring) in
          let step : IsMoved (weight a) (weight b) (pos 1) (vector d.base (root_of d (pos (suc k)))) = weights d loaded v ground.audited.graded k 0 (get_or ps a 0) (get_or ps b 0) positive.1 (o.within a a_low) (o.within b b_low) some in
          let turned = turned-moved d loaded w (weight a) (weight b) (vector d.base (root_of d r)) (λ e. step e ∙ ap (λ z. pairing (weight b) e +ℤ (pos 1 *ℤ pairing (vector d.base (root_of d z)) e)) (sym is)) c in
          let first = pivot-is a p a_low pivot-a c in
          let second = pivot-is b q b_low pivot-b c in
          let whole = vector-moved d loaded w (root_of d r) word c in
          omega (arith, ints, turned, first, second, whole)

      -- the root between them is the image
      pub between-is : (s : ℤ) → IsRootBetween f.datum (weight p) (weight q) s → root_of f.datum s ≡ moved f.datum.base w (root_of f.datum r)
      unfolding image
      between-is s h = roots_apart d loaded (root_of d s) image (root_is d loaded s h.0) image-root (λ c.
          (let e = ap (λ z. pairing z c) (sym h.1) ∙ pairing-plus (weight p) (times (neg_ℤ (pos 1)) (vector d.base (root_of d s))) c ∙ ap (λ z. pairing (weight p) c +ℤ z) (pairing-times (neg_ℤ (pos 1)) (vector d.base (root_of d s)) c) in
          let g = apart c in
          omega (arith, ints, e, g)))

      -- there is one
      pub between-some : HasNoRootBetween f.datum (weight p) (weight q) → ⊥
      between-some none =
          let found = number_is d loaded image image-root in
          let k = found.0 in
          let is : root_of d k ≡ image = found.2 in
          let long = o.long p pivot-a.within in
          let wide : length (times (neg_ℤ (pos 1)) (vector d.base (root_of d k))) ≡ 8 = length-times (neg_ℤ (pos 1)) (vector d.base (root_of d k)) ∙ vector-long d loaded (root_of d k) (root_is d loaded k found.1) in
          none k found.1 (same_in_X (plus (weight p) (times (neg_ℤ (pos 1)) (vector d.base (root_of d k)))) (weight q)
          (length-plus (weight p) (times (neg_ℤ (pos 1)) (vector d.base (root_of d k))) 8 long wide ∙ sym (o.long q pivot-b.within))
          (λ c. (let e = pairing-plus (weight p) (times (neg_ℤ (pos 1)) (vector d.base (root_of d k))) c ∙ ap (λ z. pairing (weight p) c +ℤ z) (pairing-times (neg_ℤ (pos 1)) (vector d.base (root_of d k)) c) in
          let g = apart c in
          let same = ap (λ z. pairing (vector d.base z) c) is in
          omega (arith, ints, e, g, same))))
