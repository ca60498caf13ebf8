-- What is kept while the columns of a matrix are reduced, and that the places that were found are the pivots.
use Rattle.std.proofs.Common.{◌≡◌, ◌≢◌, ℕ, zero, suc, ◌<◌, ◌≤◌, true, false, List, [], ◌∷◌, ◌++◌, get_or, refl, sym, ap, ap₂, ◌∙◌, inl, inr, subst, arith, ⊎_elim, length-append}
use Rattle.std.specs.Prelude.{◌⊎◌, nat_lt}
use Rattle.std.proofs.Math.ListN.{get_or-append}
use Rattle.std.proofs.Math.Seq.{get_or-append_seam}
use Rattle.std.proofs.lemmas.Bool.{cases_eq, cases_lt}
use Rattle.std.proofs.lemmas.Bool.Decides.{nat_tests}
use Rattle.lie_ring.specs.Rings.{RingOn, IsElem, IsRing}
use Rattle.lie_ring.specs.RingLemmas.{zero_mul, mul_neg, one_mul}
use Rattle.lie_ring.specs.SumLemmas.{sum-zeros}
use Rattle.lie_ring.specs.Matrices.{Matrix, table, entry, identity, product, product_term}
use Rattle.lie_ring.specs.MatrixLemmas.{entry-table, table-shaped}
use Rattle.lie_field.specs.FiniteField.{FiniteField}
use Rattle.lie_field.specs.FieldRing.{field_ring, field_is_ring}
use Rattle.lie_field.specs.Quotient.{add, mul, neg}
use Rattle.lie_reduce.specs.Triangular.{IsSquare, IsUpperUnitriangular}
use Rattle.lie_reduce.specs.Pivots.{IsPivot, without_column, AreReduced, ArePivots}
use Rattle.lie_reduce.proofs.LevelLemmas.{product-sum_below, product-only, left_zero, right_zero, element}
use Rattle.lie_reduce.proofs.Peeling.{product-square}
use Rattle.lie_reduce.proofs.UniqueFactors.{assoc, one_left, one_right}
use Rattle.lie_reduce.proofs.CoefficientLemmas.{field_domain}
use Rattle.lie_reduce.proofs.Shears.{shear, shear-upper, shear-early, shear-late, same_square, upper-product, upper-identity}

-- of the places where b is not 0 one has the greatest h
greatest : (n : ℕ) (b h : ℕ → ℕ) → ((k : ℕ) → k < n → b k ≡ 0) ⊎ ((K : ℕ) × (K < n) × (b K ≢ 0) × ((k : ℕ) → k < n → b k ≢ 0 → h k ≤ h K))
greatest zero b h = inl (λ k l. absurd (let never : ⊥ = omega (arith, l) in never))
greatest (suc n) b h = ⊎_elim
    (λ (none : (k : ℕ) → k < n → b k ≡ 0). ⊎_elim
    (λ (last : b n ≡ 0). inl (λ k l. at_last k l (λ e. ap b e ∙ last) (none k)))
    (λ (some : b n ≢ 0). inr (n, omega arith, some, λ k l nz. at_most k l (λ e. (let same = ap h e in omega (arith, same))) (λ low. absurd (nz (none k low)))))
    (cases_eq (b n) 0))
    (λ (found : (K : ℕ) × (K < n) × (b K ≢ 0) × ((k : ℕ) → k < n → b k ≢ 0 → h k ≤ h K)). ⊎_elim
    (λ (last : b n ≡ 0). inr (found.0, (let l = found.1 in omega (arith, l)), found.2, λ k l nz. at_most k l (λ e. absurd (nz (ap b e ∙ last))) (λ low. found.3 k low nz)))
    (λ (some : b n ≢ 0). ⊎_elim
    (λ (more : h found.0 < h n). inr (n, omega arith, some, λ k l nz. at_most k l (λ e. (let same = ap h e in omega (arith, same))) (λ low. (let f = found.3 k low nz in omega (arith, f, more)))))
    (λ (less : h n ≤ h found.0). inr (found.0, (let l = found.1 in omega (arith, l)), found.2, λ k l nz. at_most k l (λ e. (let same = ap h e in omega (arith, same, less))) (λ low. found.3 k low nz)))
    (cases_lt (h found.0) (h n)))
    (cases_eq (b n) 0))
    (greatest n b h)
  where
    at_last : (k : ℕ) → k < suc n → (k ≡ n → b k ≡ 0) → (k < n → b k ≡ 0) → b k ≡ 0
    at_last k l here low = ⊎_elim (λ (e : k ≡ n). here e) (λ (o : k ≢ n). low (omega (arith, l, o))) (cases_eq k n)

    at_most : {x : ℕ} (k : ℕ) → k < suc n → (k ≡ n → h k ≤ x) → (k < n → h k ≤ x) → h k ≤ x
    at_most k l here low = ⊎_elim (λ (e : k ≡ n). here e) (λ (o : k ≢ n). low (omega (arith, l, o))) (cases_eq k n)

module _ (f : FiniteField) (n : ℕ) (M : Matrix ℕ) (sm : IsSquare (field_ring f) n M) where
  abbrev R : RingOn ℕ
  R = field_ring f

  abbrev ring : IsRing (field_ring f)
  ring = field_is_ring f

  -- before the first column
  pub reduced-start : AreReduced f n 0 M M []
  reduced-start = record {
    count = refl;
    square = sm;
    within = λ j l. absurd (let never : ⊥ = omega (arith, l) in never);
    corner = λ j l. absurd (let never : ⊥ = omega (arith, l) in never);
    behind = λ j i l _ _. absurd (let never : ⊥ = omega (arith, l) in never);
    beside = λ j i l _ _. absurd (let never : ⊥ = omega (arith, l) in never);
    to = identity R n;
    to_upper = upper-identity R ring n;
    made = sym (one_right R ring n M sm);
    from = identity R n;
    from_upper = upper-identity R ring n;
    back = sym (one_right R ring n M sm);
  }

  module _ (k : ℕ) (N : Matrix ℕ) (p : List ℕ) (r : AreReduced f n k M N p) (low : k < n) where
    -- a matrix with a left inverse has an entry that is not 0 in each column
    pub reduced-some : (Z : Matrix ℕ) → IsSquare (field_ring f) n Z → product (field_ring f) Z M ≡ identity (field_ring f) n → ((i : ℕ) → i < n → entry 0 N i k ≡ 0) → ⊥
    reduced-some Z sz inverse none =
        let back : product R Z N ≡ r.to =
        ap (product R Z) r.made ∙ sym (assoc R ring n Z M r.to sz sm r.to_upper.square) ∙ ap (λ L. product R L r.to) inverse ∙ one_left R ring n r.to r.to_upper.square in
        let one : entry 0 r.to k k ≡ 1 = r.to_upper.diagonal k low in
        let gone : entry 0 (product R Z N) k k ≡ 0 =
        product-sum_below R ring n Z N sz r.square k k low low
        ∙ sum-zeros R ring.laws n (product_term R Z N k k) (λ a l. right_zero R ring n Z N sz k k a low l (none a l)) in
        let both = sym one ∙ ap (λ L. entry 0 L k k) (sym back) ∙ gone in
        (let never : ⊥ = omega (arith, both) in never)

    module _ (q inverse : ℕ) (within : q < n) (some : entry 0 N q k ≢ 0) (none : (i : ℕ) → q < i → i < n → entry 0 N i k ≡ 0)
        (inverse-elem : IsElem (field_ring f) inverse) (inverts : mul f.given (entry 0 N q k) inverse ≡ 1)
        (next : Matrix ℕ) (is : next ≡ table n n (without_column f.given N inverse q k)) where
      c : ℕ → ℕ
      c b = neg f.given (mul f.given inverse (entry 0 N q b))

      at : (i j : ℕ) → i < n → j < n → IsElem (field_ring f) (entry 0 N i j)
      at i j a b = element R ring n N r.square i j a b

      c-elem : (b : ℕ) → b < n → IsElem (field_ring f) (c b)
      unfolding c
      c-elem b l = ring.laws.neg_elem (mul f.given inverse (entry 0 N q b)) (ring.laws.mul_elem inverse (entry 0 N q b) inverse-elem (at q b within l))

      early : (i l : ℕ) → i < n → l < n → l ≤ k → entry 0 next i l ≡ entry 0 N i l
      early i l a b more =
          ap (λ L. entry 0 L i l) is ∙ entry-table 0 n n (without_column f.given N inverse q k) i l a b
          ∙ (let t : nat_lt k l ≡ false = grind (arith, nat_tests) in rw t refl)

      late : (i l : ℕ) → i < n → l < n → k < l → entry 0 next i l ≡ add f.given (entry 0 N i l) (mul f.given (entry 0 N i k) (c l))
      unfolding c
      late i l a b less =
          ap (λ L. entry 0 L i l) is ∙ entry-table 0 n n (without_column f.given N inverse q k) i l a b
          ∙ (let t : nat_lt k l ≡ true = grind (arith, nat_tests) in rw t refl)

      next-elem : (i l : ℕ) → i < n → l < n → IsElem (field_ring f) (entry 0 next i l)
      next-elem i l a b = ⊎_elim
          (λ (less : k < l). subst (IsElem R) (sym (late i l a b less)) (ring.laws.add_elem (entry 0 N i l) (mul f.given (entry 0 N i k) (c l)) (at i l a b) (ring.laws.mul_elem (entry 0 N i k) (c l) (at i k a low) (c-elem l b))))
          (λ (more : l ≤ k). subst (IsElem R) (sym (early i l a b more)) (at i l a b))
          (cases_lt k l)

      sn : IsSquare (field_ring f) n next
      sn = subst (IsSquare R n) (sym is) (record {
        shape = table-shaped 0 n n (without_column f.given N inverse q k);
        elem = λ i l a b. subst (IsElem R) (ap (λ L. entry 0 L i l) is) (next-elem i l a b);
      })

      S : Matrix ℕ
      S = shear R ring n k low c c-elem

      back-elem : (b : ℕ) → b < n → IsElem (field_ring f) (neg f.given (c b))
      back-elem b l = ring.laws.neg_elem (c b) (c-elem b l)

      T : Matrix ℕ
      T = shear R ring n k low (λ b. neg f.given (c b)) back-elem

      s-upper : IsUpperUnitriangular (field_ring f) n S
      unfolding S
      s-upper = shear-upper R ring n k low c c-elem

      t-upper : IsUpperUnitriangular (field_ring f) n T
      unfolding T
      t-upper = shear-upper R ring n k low (λ b. neg f.given (c b)) back-elem

      forth : next ≡ product (field_ring f) N S
      unfolding S
      forth = same_square R ring n next (product R N S) sn (product-square R ring n N S r.square s-upper.square) (λ i l a b. ⊎_elim
          (λ (less : k < l). late i l a b less ∙ sym (shear-late R ring n k low c c-elem N r.square i l a b less))
          (λ (more : l ≤ k). early i l a b more ∙ sym (shear-early R ring n k low c c-elem N r.square i l a b more))
          (cases_lt k l))

      undone : N ≡ product (field_ring f) next T
      unfolding T
      undone = same_square R ring n N (product R next T) r.square (product-square R ring n next T sn t-upper.square) (λ i l a b. ⊎_elim
          (λ (less : k < l).
          let x = entry 0 N i l in
          let y = entry 0 N i k in
          let m = mul f.given y (c l) in
          let px = at i l a b in
          let py = at i k a low in
          let pm = ring.laws.mul_elem y (c l) py (c-elem l b) in
          sym (
          shear-late R ring n k low (λ b. neg f.given (c b)) back-elem next sn i l a b less
          ∙ ap₂ (add f.given) (late i l a b less) (ap (λ z. mul f.given z (neg f.given (c l))) (early i k a low (omega arith)) ∙ mul_neg R ring.laws y (c l) py (c-elem l b))
          ∙ ring.laws.add_assoc x m (neg f.given m) px pm (ring.laws.neg_elem m pm)
          ∙ ap (add f.given x) (ring.laws.add_neg m pm) ∙ ring.laws.add_zero x px))
          (λ (more : l ≤ k). sym (shear-early R ring n k low (λ b. neg f.given (c b)) back-elem next sn i l a b more ∙ early i l a b more))
          (cases_lt k l))

      -- row q is 0 in the later columns
      row-gone : (l : ℕ) → l < n → k < l → entry 0 next q l ≡ 0
      unfolding c
      row-gone l b less =
          let x = entry 0 N q l in
          let y = entry 0 N q k in
          let px = at q l within b in
          let py = at q k within low in
          let pz = ring.laws.mul_elem inverse x inverse-elem px in
          late q l within b less
          ∙ ap (add f.given x) (
          mul_neg R ring.laws y (mul f.given inverse x) py pz
          ∙ ap (neg f.given) (sym (ring.laws.mul_assoc y inverse x py inverse-elem px) ∙ ap (λ z. mul f.given z x) inverts ∙ one_mul R ring.laws x px))
          ∙ ring.laws.add_neg x px

      old : (j : ℕ) → j < k → get_or (p ++ q ∷ []) j 0 ≡ get_or p j 0
      old j l = get_or-append p (q ∷ []) 0 j (let e = r.count in omega (arith, l, e))

      new : get_or (p ++ q ∷ []) k 0 ≡ q
      new = ap (λ j. get_or (p ++ q ∷ []) j 0) (sym r.count) ∙ get_or-append_seam p q [] 0

      -- one column more
      pub reduced-step : AreReduced f n (suc k) M next (p ++ q ∷ [])
      reduced-step = record {
        count = length-append p (q ∷ []) ∙ (let e = r.count in omega (arith, e));
        square = sn;
        within = λ j l. ⊎_elim
            (λ (e : j ≡ k). subst (λ z. z < n) (sym (ap (λ j. get_or (p ++ q ∷ []) j 0) e ∙ new)) within)
            (λ (o : j ≢ k). (let less : j < k = omega (arith, l, o) in subst (λ z. z < n) (sym (old j less)) (r.within j less)))
            (cases_eq j k);
        corner = λ j l zero_there. ⊎_elim
            (λ (e : j ≡ k). some (sym (early q k within low (omega arith)) ∙ ap₂ (entry 0 next) (sym (ap (λ j. get_or (p ++ q ∷ []) j 0) e ∙ new)) (sym e) ∙ zero_there))
            (λ (o : j ≢ k). (let less : j < k = omega (arith, l, o) in
            r.corner j less (sym (early (get_or p j 0) j (r.within j less) (omega (arith, less, low)) (omega (arith, less))) ∙ ap (λ i. entry 0 next i j) (sym (old j less)) ∙ zero_there)))
            (cases_eq j k);
        behind = λ j i l after a. ⊎_elim
            (λ (e : j ≡ k). (let s : get_or (p ++ q ∷ []) j 0 ≡ q = ap (λ j. get_or (p ++ q ∷ []) j 0) e ∙ new in
            ap (entry 0 next i) e ∙ early i k a low (omega arith) ∙ none i (omega (arith, after, s)) a))
            (λ (o : j ≢ k). (let less : j < k = omega (arith, l, o) in let s = old j less in
            early i j a (omega (arith, less, low)) (omega (arith, less)) ∙ r.behind j i less (omega (arith, after, s)) a))
            (cases_eq j k);
        beside = λ j l small after b. ⊎_elim
            (λ (e : j ≡ k). ap (λ i. entry 0 next i l) (ap (λ j. get_or (p ++ q ∷ []) j 0) e ∙ new) ∙ row-gone l b (omega (arith, after, e)))
            (λ (o : j ≢ k). (let less : j < k = omega (arith, small, o) in let row = get_or p j 0 in let a = r.within j less in
            ap (λ i. entry 0 next i l) (old j less)
            ∙ ⊎_elim
            (λ (later : k < l).
            late row l a b later
            ∙ ap₂ (add f.given) (r.beside j l less after b) (ap (λ z. mul f.given z (c l)) (r.beside j k less less low) ∙ zero_mul R ring.laws (c l) (c-elem l b))
            ∙ ring.laws.add_zero 0 ring.laws.zero_elem)
            (λ (more : l ≤ k). early row l a b more ∙ r.beside j l less after b)
            (cases_lt k l)))
            (cases_eq j k);
        to = product R r.to S;
        to_upper = upper-product R ring n r.to S r.to_upper s-upper;
        made = forth ∙ ap (λ L. product R L S) r.made ∙ assoc R ring n M r.to S sm r.to_upper.square s-upper.square;
        from = product R T r.from;
        from_upper = upper-product R ring n T r.from t-upper r.from_upper;
        back = r.back ∙ ap (λ L. product R L r.from) undone ∙ assoc R ring n next T r.from sn t-upper.square r.from_upper.square;
      }

  -- the places are the pivots
  module _ (domain : (a b : ℕ) → IsElem (field_ring f) a → IsElem (field_ring f) b → mul f.given a b ≡ 0 → (a ≡ 0) ⊎ (b ≡ 0)) (N : Matrix ℕ) (p : List ℕ) (r : AreReduced f n n M N p) where
    pub reduced-pivot : (j : ℕ) → j < n → IsPivot (field_ring f) n M j (get_or p j 0)
    reduced-pivot j low = record {
      within = r.within j low;
      least = λ X u.
          (let T = product R r.from X in
          let tu = upper-product R ring n r.from X r.from_upper u in
          let whole : product R M X ≡ product R N T = ap (λ L. product R L X) r.back ∙ assoc R ring n N r.from X r.square r.from_upper.square u.square in
          let corner : entry 0 T j j ≡ 1 = tu.diagonal j low in
          let apart : entry 0 T j j ≢ 0 = λ none. (let both = sym corner ∙ none in let never : ⊥ = omega (arith, both) in never) in
          ⊎_elim
          (λ (none : (k : ℕ) → k < n → entry 0 T k j ≡ 0). absurd (apart (none j low)))
          (λ (found : (K : ℕ) × (K < n) × (entry 0 T K j ≢ 0) × ((k : ℕ) → k < n → entry 0 T k j ≢ 0 → get_or p k 0 ≤ get_or p K 0)).
          let K = found.0 in
          let row = get_or p K 0 in
          let row_low = r.within K found.1 in
          let value : entry 0 (product R N T) row j ≡ mul f.given (entry 0 N row K) (entry 0 T K j) =
          product-only R ring n N T r.square tu.square row j K row_low low found.1 (λ l l_low other. ⊎_elim
          (λ (none : entry 0 T l j ≡ 0). right_zero R ring n N T r.square row j l row_low l_low none)
          (λ (some : entry 0 T l j ≢ 0). left_zero R ring n N T tu.square row j l low l_low (gone K l found.1 l_low other (found.3 l l_low some)))
          (cases_eq (entry 0 T l j) 0)) in (
            row,
            found.3 j low apart,
            row_low,
            λ none. ⊎_elim
                (λ (z : entry 0 N row K ≡ 0). r.corner K found.1 z)
                (λ (z : entry 0 T K j ≡ 0). found.2 z)
                (domain (entry 0 N row K) (entry 0 T K j) (element R ring n N r.square row K row_low found.1) (element R ring n T tu.square K j found.1 low)
                (sym value ∙ ap (λ L. entry 0 L row j) (sym whole) ∙ none)),
          ))
          (greatest n (λ k. entry 0 T k j) (λ k. get_or p k 0)));
      some = r.to;
      upper = r.to_upper;
      reached = λ i after l. ap (λ L. entry 0 L i j) (sym r.made) ∙ r.behind j i low after l;
    }
      where
        -- in row p_K the columns with pivots up to p_K have 0
        gone : (K l : ℕ) → K < n → l < n → l ≢ K → get_or p l 0 ≤ get_or p K 0 → entry 0 N (get_or p K 0) l ≡ 0
        gone K l a b other up = ⊎_elim
            (λ (less : get_or p l 0 < get_or p K 0). r.behind l (get_or p K 0) b less (r.within K a))
            (λ (more : get_or p K 0 ≤ get_or p l 0).
            let same : get_or p l 0 ≡ get_or p K 0 = omega (arith, up, more) in
            ⊎_elim
            (λ (early : l < K). absurd (r.corner K a (ap (λ i. entry 0 N i K) (sym same) ∙ r.beside l K b early a)))
            (λ (late : K ≤ l). r.beside K l a (omega (arith, late, other)) b)
            (cases_lt l K))
            (cases_lt (get_or p l 0) (get_or p K 0))

-- in the end they are the pivots of the columns
pub reduced-pivots : (f : FiniteField) (M : Matrix ℕ) → IsSquare (field_ring f) M.height M → (N : Matrix ℕ) (p : List ℕ) → AreReduced f M.height M.height M N p → ArePivots f M p
reduced-pivots f M s N p r = (r.count, reduced-pivot f M.height M s (field_domain f) N p r)
