-- One root element after the other is peeled off a matrix, and the elements are those of any list with that matrix.
use Rattle.std.proofs.Common.{◌≡◌, ◌≢◌, ℕ, suc, ◌+◌, ◌<◌, ◌≤◌, cond, eqb, true, ◌-◌, ◌^◌, List, [], ◌∷◌, ◌++◌, length, get_or, drop, refl, sym, ap, ap₂, ◌∙◌, inl, inr, subst, arith, length-drop, drop-cons, length-append}
use Rattle.std.specs.Prelude.{pos, ◌⊎◌}
use Rattle.std.proofs.Math.Seq.{take-suc}
use Rattle.std.proofs.lemmas.List.{get_or-drop, drop_all, map-append}
use Rattle.std.proofs.lemmas.List.Elements.{All-append, All-cons, All-nil}
use Rattle.std.proofs.lemmas.Bool.{cases_eq, eq-eqb, ne_eqb, lt-ltb}
use Rattle.lie_ring.specs.Rings.{RingOn, IsElem, IsRing}
use Rattle.lie_ring.specs.Matrices.{Matrix, entry, identity, product}
use Rattle.lie_field.specs.FieldRing.{field_ring, field_is_ring}
use Rattle.lie_field.specs.Quotient.{order, mul, neg, of_int}
use Rattle.lie_datum.proofs.NumberLemmas.{some_within}
use Rattle.lie_const.specs.Modules.{Module, dimension, divided_power, root_element}
use Rattle.lie_letters.specs.declared.letter.Letter.TheVariants.{X}
use Rattle.lie_letters.specs.RingLetters.{RingLetter, full_from, full_word}
use Rattle.lie_letters.specs.SignedFrames.{SignedFrame, unsigned}
use Rattle.lie_letters.specs.Spelled.{root_letters, IsWordOver}
use Rattle.lie_unip.proofs.FullWordLemmas.{full_append}
use Rattle.lie_audit.specs.WordMatrix.{word_matrix}
use Rattle.lie_audit.proofs.EqualMatricesLemmas.{equal_matrices}
use Rattle.lie_audit.proofs.WeylWeightsLemmas.{weyl_moves_weights}
use Rattle.lie_audit.proofs.WordMatrixLemmas.{joined-words}
use Rattle.lie_letters.proofs.GroupSpelledLemmas.{JoinedInGroup-plain, JoinedInGroup-trans, JoinedInGroup-flip}
use Rattle.lie_unip.specs.Forms.{nonzero_letters}
use Rattle.lie_bruhat.proofs.FormLemmas.{listed_some}
use Rattle.lie_bruhat.proofs.ListLemmas.{full_joined}
use Rattle.lie_bruhat.proofs.RulesHold.{reversed_cancels, shortest_words_joined}
use Rattle.lie_reduce.specs.Triangular.{IsSquare}
use Rattle.lie_reduce.specs.Levels.{level}
use Rattle.lie_reduce.specs.UniqueForms.{IsCoveringFor}
use Rattle.lie_reduce.specs.Reduction.{HasListMatrix, IsNoPositiveMatrix}
use Rattle.lie_reduce.specs.PeelSteps.{IsCoefficient, ArePeeled}
use Rattle.lie_reduce.proofs.Peeling.{ArePeelable, factors-first, product-square}
use Rattle.lie_reduce.proofs.RootsPeel.{AreLivePlaces}
use Rattle.lie_reduce.proofs.UniqueFactors.{assoc, one_left, one_right}
use Rattle.lie_reduce.proofs.FormParts.{full-product}
use Rattle.lie_reduce.proofs.WordInverses.{matrix-square, cancels_left, cancels_right}
use Rattle.lie_reduce.proofs.UniqueFormsLemmas as Unique

module _ (f : SignedFrame) (v : Module) (ground : IsCoveringFor f v) where
  abbrev R : RingOn ℕ
  R = field_ring f.field

  abbrev n : ℕ
  n = dimension v

  abbrev m : ℕ
  m = length f.datum.positive

  -- the matrix of a list's letters
  abbrev pub list_matrix : ℕ → List ℕ → Matrix ℕ
  list_matrix s us = word_matrix f.field v (root_letters (full_from s us))

  -- a place at which a root vector lives, and places for the others
  module _ (k : ℕ) (M : Matrix ℕ) (a : ℕ) (c : IsCoefficient f.field v (pos (suc k)) M a) where
    abbrev others : AreLivePlaces (field_ring f.field) f.datum v
    others = Unique.live f v ground equal_matrices reversed_cancels shortest_words_joined weyl_moves_weights

    places : AreLivePlaces (field_ring f.field) f.datum v
    places = record {
      row = λ i. cond (eqb i k) c.row (others.row i);
      col = λ i. cond (eqb i k) c.col (others.col i);
      row_low = λ i l. row_low i (cases_eq i k) l;
      col_low = λ i l. col_low i (cases_eq i k) l;
      unit = λ i l. unit i (cases_eq i k) l;
    }
      where
        row_low : (i : ℕ) → (i ≡ k) ⊎ (i ≢ k) → i < length f.datum.positive → cond (eqb i k) c.row (others.row i) < dimension v
        row_low i (inl e) l = rw (eq-eqb i k e) c.row_within
        row_low i (inr e) l = rw (ne_eqb i k e) (others.row_low i l)

        col_low : (i : ℕ) → (i ≡ k) ⊎ (i ≢ k) → i < length f.datum.positive → cond (eqb i k) c.col (others.col i) < dimension v
        col_low i (inl e) l = rw (eq-eqb i k e) c.col_within
        col_low i (inr e) l = rw (ne_eqb i k e) (others.col_low i l)

        unit : (i : ℕ) → (i ≡ k) ⊎ (i ≢ k) → i < length f.datum.positive
            → of_int f.field.given (entry (pos 0) (divided_power v (pos (suc i)) 1) (cond (eqb i k) c.row (others.row i)) (cond (eqb i k) c.col (others.col i))) ≢ 0
        unit i (inl e) l = rw (eq-eqb i k e) (subst (λ j. of_int f.field.given (entry (pos 0) (divided_power v (pos (suc j)) 1) c.row c.col) ≢ 0) (sym e) c.nonzero)
        unit i (inr e) l = rw (ne_eqb i k e) (others.unit i l)

    abbrev peel : ArePeelable (field_ring f.field) (dimension v) (length f.datum.positive) (level f.datum v) (λ i b. root_element (field_ring f.field) v (pos (suc i)) b)
    peel = Unique.peel_at f v ground equal_matrices reversed_cancels shortest_words_joined weyl_moves_weights places

    place-here : (peel.row k ≡ c.row) × (peel.col k ≡ c.col) × (peel.value k ≡ of_int f.field.given (entry (pos 0) (divided_power v (pos (suc k)) 1) c.row c.col))
    unfolding places
    place-here =
        let here : eqb k k ≡ true = eq-eqb k k refl in
        let all = Unique.peel_at-places f v ground equal_matrices reversed_cancels shortest_words_joined weyl_moves_weights places k in
        let row : places.row k ≡ c.row = rw here refl in
        let col : places.col k ≡ c.col = rw here refl in
        (all.0 ∙ row, all.1 ∙ col, all.2 ∙ ap₂ (λ i j. of_int f.field.given (entry (pos 0) (divided_power v (pos (suc k)) 1) i j)) row col)

    -- at that place the product from root k on has the multiple by its first element
    pub coefficient-is : (b : ℕ) (us : List ℕ) → suc k + length us ≡ length f.datum.positive
        → ((i : ℕ) → i < suc (length us) → IsElem (field_ring f.field) (get_or (b ∷ us) i 0))
        → list_matrix (suc k) (b ∷ us) ≡ M → a ≡ b
    coefficient-is b us long elems same =
        let u = λ (i : ℕ). get_or (b ∷ us) (i - k) 0 in
        let entries = λ (i : ℕ) (l : i < m). elems (i - k) (omega (arith, l, long)) in
        let whole = full-product f.field v m (level f.datum v) peel k (b ∷ us) u (λ i l. ap (λ j. get_or (b ∷ us) j 0) (let e : i ≡ (k + i) - k = omega arith in e)) in
        let first = factors-first R (field_is_ring f.field) n m (level f.datum v) (λ i b. root_element R v (pos (suc i)) b) peel k (length us) u (omega (arith, long)) entries in
        let at_k : u k ≡ b = ap (λ j. get_or (b ∷ us) j 0) (let e : k - k ≡ 0 = omega arith in e) in
        let place = place-here in
        let e = of_int f.field.given (entry (pos 0) (divided_power v (pos (suc k)) 1) c.row c.col) in
        let found : entry 0 M c.row c.col ≡ mul f.field.given b e =
        ap₂ (entry 0 M) (sym place.0) (sym place.1)
        ∙ ap (λ N. entry 0 N (peel.row k) (peel.col k)) (sym same ∙ whole)
        ∙ first ∙ ap₂ (mul f.field.given) at_k place.2 in
        Unique.cancel f v ground equal_matrices reversed_cancels shortest_words_joined weyl_moves_weights a b e
        (lt-ltb a (order f.field.given) c.below) (elems 0 (omega arith)) ((field_is_ring f.field).integers.int_elem (entry (pos 0) (divided_power v (pos (suc k)) 1) c.row c.col)) c.nonzero (c.value ∙ found)

  abbrev ring : IsRing (field_ring f.field)
  ring = field_is_ring f.field

  -- one root element more behind those of a list
  list-more : (u : List ℕ) (a : ℕ) → list_matrix 1 (u ++ a ∷ []) ≡ product (field_ring f.field) (list_matrix 1 u) (word_matrix f.field v (X (pos (1 + length u)) a ∷ []))
  list-more u a =
      ap (λ w. word_matrix f.field v (root_letters w)) (full_append 1 u (a ∷ []))
      ∙ ap (word_matrix f.field v) (map-append (λ (x : RingLetter ℕ). X (pos x.0) x.1) (full_word u) (full_from (1 + length u) (a ∷ [])))
      ∙ joined-words f.field v (root_letters (full_word u)) (X (pos (1 + length u)) a ∷ [])

  -- before the first root all is left
  pub peeled-start : (M : Matrix ℕ) → IsSquare (field_ring f.field) (dimension v) M → ArePeeled f v M 0 [] M
  peeled-start M s = record {
    count = refl;
    below = All-nil (λ a. a < order f.field.given);
    square = s;
    product = sym (one_left R ring n M s);
    only = λ us h. (refl, sym h.matrix);
  }

  pub peeled-step : (M rest next : Matrix ℕ) (k a : ℕ) (u : List ℕ) → ArePeeled f v M k u rest → k < length f.datum.positive → IsCoefficient f.field v (pos (suc k)) rest a
      → next ≡ product (field_ring f.field) (word_matrix f.field v (X (pos (suc k)) (neg f.field.given a) ∷ [])) rest → ArePeeled f v M (suc k) (u ++ a ∷ []) next
  peeled-step M rest next k a u p low c is =
      let g = f.field.given in
      let elem = lt-ltb a (order g) c.below in
      let letter = X (pos (suc k)) a in
      let back = X (pos (suc k)) (neg g a) in
      let K = word_matrix f.field v (letter ∷ []) in
      let B = word_matrix f.field v (back ∷ []) in
      let P = list_matrix 1 u in
      let sq = matrix-square f.field v in
      let over : IsWordOver (unsigned f) (letter ∷ []) = ((some_within f.datum.positive k low, c.below), tt) in
      let right : product R K B ≡ identity R n = cancels_right f ground.lawful v ground.audited equal_matrices reversed_cancels (letter ∷ []) over in
      let left : product R B K ≡ identity R n = cancels_left f ground.lawful v ground.audited equal_matrices reversed_cancels (letter ∷ []) over in
      let place : 1 + length u ≡ suc k = (let l = p.count in omega (arith, l)) in
      record {
        count = length-append u (a ∷ []) ∙ (let l = p.count in omega (arith, l));
        below = All-append (λ b. b < order g) u (a ∷ []) p.below (All-cons (λ b. b < order g) a [] c.below (All-nil (λ b. b < order g)));
        square = subst (IsSquare R n) (sym is) (product-square R ring n B rest (sq (back ∷ [])) p.square);
        product =
            p.product
            ∙ ap (product R P) (sym (one_left R ring n rest p.square) ∙ ap (λ N. product R N rest) (sym right) ∙ assoc R ring n K B rest (sq (letter ∷ [])) (sq (back ∷ [])) p.square)
            ∙ sym (assoc R ring n P K (product R B rest) (sq (root_letters (full_word u))) (sq (letter ∷ [])) (product-square R ring n B rest (sq (back ∷ [])) p.square))
            ∙ ap₂ (product R) (sym (list-more u a ∙ ap (λ s. product R P (word_matrix f.field v (X (pos s) a ∷ []))) place)) (sym is);
        only = λ us h. (
            let known = p.only us h in
            let long : length us ≡ m = h.entries.count in
            let within : k < length us = omega (arith, low, long) in
            let b = get_or us k 0 in
            let after = drop (suc k) us in
            let parts : drop k us ≡ b ∷ after = drop-cons us k 0 within in
            let many : length after ≡ length us - suc k = length-drop (suc k) us in
            let elems = λ (i : ℕ) (l : i < suc (length after)). subst (IsElem R) (sym (ap (λ w. get_or w i 0) (sym parts) ∙ get_or-drop k us i 0)) (h.entries.fit (k + i) 0 (omega (arith, l, many, within))).0 in
            let same : list_matrix (suc k) (b ∷ after) ≡ rest = ap (list_matrix (suc k)) (sym parts) ∙ sym known.1 in
            let equal : a ≡ b = coefficient-is k rest a c b after (omega (arith, many, within, long)) elems same in
            let behind = list_matrix (suc k + 1) after in
            let next_place : suc k + 1 ≡ suc (suc k) = omega arith in
            let tail = root_letters (full_from (suc k + 1) after) in (
              ap₂ (λ w x. w ++ x ∷ []) known.0 equal ∙ sym (take-suc us k 0 within),
              is ∙ ap (product R B) (sym same ∙ ap (λ x. list_matrix (suc k) (x ∷ after)) (sym equal) ∙ joined-words f.field v (letter ∷ []) tail)
                  ∙ sym (assoc R ring n B K behind (sq (back ∷ [])) (sq (letter ∷ [])) (sq tail))
                  ∙ ap (λ N. product R N behind) left ∙ one_left R ring n behind (sq tail) ∙ ap (λ s. list_matrix s after) next_place,
            ));
      }

  -- in the end, where nothing is left, the list has the matrix; else no word of positive root letters has it
  pub peeled-all : (M rest : Matrix ℕ) (u : List ℕ) → ArePeeled f v M (length f.datum.positive) u rest → rest ≡ identity (field_ring f.field) (dimension v) → HasListMatrix f v u M
  peeled-all M rest u p none =
      let small : 0 < 2 ^ 126 = omega arith in
      record {
        entries = record { count = p.count; fit = λ k z l. (lt-ltb (get_or u k z) (order f.field.given) (p.below k z l), small) };
        matrix = sym (p.product ∙ ap (product R (list_matrix 1 u)) none ∙ one_right R ring n (list_matrix 1 u) (matrix-square f.field v (root_letters (full_word u))));
      }

  pub peeled-none : (M rest : Matrix ℕ) (u : List ℕ) → ArePeeled f v M (length f.datum.positive) u rest → rest ≢ identity (field_ring f.field) (dimension v) → IsNoPositiveMatrix f v M
  peeled-none M rest u p some w is same =
      let lawful = ground.lawful in
      let found = listed_some (unsigned f) lawful.lawful w is in
      let us = found.0 in
      let entries = found.1.entries in
      let joined = JoinedInGroup-trans f (root_letters w) (root_letters (nonzero_letters us)) (root_letters (full_word us))
      (JoinedInGroup-plain f (root_letters w) (root_letters (nonzero_letters us)) found.1.joined)
      (JoinedInGroup-flip f (root_letters (full_word us)) (root_letters (nonzero_letters us)) (full_joined f lawful us entries)) in
      let h : HasListMatrix f v us M = record { entries = entries; matrix = sym (equal_matrices f v lawful ground.audited (root_letters w) (root_letters (full_word us)) joined) ∙ same } in
      some ((p.only us h).1 ∙ ap (λ z. word_matrix f.field v (root_letters (full_from (suc m) z))) (drop_none us (let l = entries.count in omega (arith, l))))
    where
      drop_none : (us : List ℕ) → length us ≤ m → drop m us ≡ []
      drop_none us l = drop_all m us l
