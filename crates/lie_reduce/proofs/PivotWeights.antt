-- The pivots of a matrix u n v, where u and v raise levels and n sends weights by g, stand at the images of the weights under g.
use Rattle.std.proofs.Common.{◌≡◌, ◌≢◌, ℕ, ◌<◌, ◌≤◌, refl, sym, ap, ap₂, ◌∙◌, inl, inr, subst, arith, ⊎_elim}
use Rattle.std.specs.Prelude.{ℤ, pos, ◌≤ℤ◌, ◌⊎◌}
use Rattle.std.proofs.lemmas.Int.{ints}
use Rattle.std.proofs.lemmas.Bool.{cases_lt}
use Rattle.lie_ring.specs.Rings.{RingOn, IsElem, IsRing}
use Rattle.lie_ring.specs.SumLemmas.{sum-same}
use Rattle.lie_ring.specs.Matrices.{Matrix, table, entry, identity, product, product_term}
use Rattle.lie_ring.specs.MatrixLemmas.{entry-table, table-shaped}
use Rattle.lie_datum.specs.Vectors.{Vector, pairing}
use Rattle.lie_audit.specs.WeylWeights.{SameWeight}
use Rattle.lie_reduce.specs.Triangular.{IsSquare, IsUpperUnitriangular}
use Rattle.lie_reduce.specs.Levels.{Raises, Sends}
use Rattle.lie_reduce.specs.Pivots.{IsPivot}
use Rattle.lie_reduce.proofs.LevelLemmas.{some_term, product-sum_below, product-only, left_zero, right_zero, element, raises-diagonal, raises-zero}
use Rattle.lie_reduce.proofs.Peeling.{product-square}
use Rattle.lie_reduce.proofs.UniqueFactors.{IsUnipotent, assoc, one_left, one_right}

module _ {A : Type 0} (R : RingOn A) (ring : IsRing R) (n : ℕ) (decide : (x : A) → (x ≡ R.zero) ⊎ (x ≢ R.zero)) (nontrivial : R.one ≢ R.zero) where
  -- an entry of a product that is not 0 has a term that is not 0
  pub term : (M N : Matrix A) → IsSquare R n M → IsSquare R n N → (i j : ℕ) → i < n → j < n → entry R.zero (product R M N) i j ≢ R.zero
      → (k : ℕ) × (k < n) × (entry R.zero M i k ≢ R.zero) × (entry R.zero N k j ≢ R.zero)
  term M N s t i j p q some =
      let r = some_term R ring n decide n (product_term R M N i j) (λ none. some (product-sum_below R ring n M N s t i j p q ∙ none)) in
      (r.0, r.1, (λ none. r.2 (left_zero R ring n M N t i j r.0 q r.1 none)), (λ none. r.2 (right_zero R ring n M N s i j r.0 p r.1 none)))

  -- the diagonal of a product of upper unitriangular matrices
  pub upper-corner : (M N : Matrix A) → IsUpperUnitriangular R n M → IsUpperUnitriangular R n N → (i : ℕ) → i < n → entry R.zero (product R M N) i i ≡ R.one
  upper-corner M N u v i p =
      product-only R ring n M N u.square v.square i i i p p p (λ k q other. ⊎_elim
      (λ (less : k < i). left_zero R ring n M N v.square i i k p q (u.below i k p less))
      (λ (more : i ≤ k). right_zero R ring n M N u.square i i k p q (v.below k i q (omega (arith, more, other))))
      (cases_lt k i))
      ∙ ap₂ R.mul (u.diagonal i p) (v.diagonal i p) ∙ ring.laws.mul_one R.one ring.laws.one_elem

  module _ (weight : ℕ → Vector) (rho : Vector) (alike : (a b : ℕ) → a < n → b < n → SameWeight (weight a) (weight b) ⊎ ¬ SameWeight (weight a) (weight b))
      (falling : (i j : ℕ) → i ≤ j → j < n → pairing (weight j) rho ≤ℤ pairing (weight i) rho)
      (together : (i p k : ℕ) → i ≤ p → p ≤ k → k < n → SameWeight (weight i) (weight k) → SameWeight (weight p) (weight i)) where
    abbrev level : ℕ → ℤ
    level i = pairing (weight i) rho

    -- what raises levels is upper unitriangular
    upper : (M : Matrix A) → IsSquare R n M → Raises R n (λ i. pairing (weight i) rho) (pos 1) M → IsUpperUnitriangular R n M
    upper M s u = record {
      square = s;
      diagonal = λ i p. raises-diagonal R ring n level (pos 1) (omega (arith, ints)) M u i p;
      below = λ i j p less. raises-zero R ring n level (pos 1) (omega (arith, ints)) M u i j p (omega (arith, less, p)) (λ e. absurd (let never : ⊥ = omega (arith, e, less) in never))
          (let f = falling j i (omega (arith, less)) p in omega (arith, ints, f));
    }

    -- an entry of it that is not 0 is not behind its column
    not_behind : (M : Matrix A) → IsSquare R n M → Raises R n (λ i. pairing (weight i) rho) (pos 1) M → (i j : ℕ) → i < n → j < n → entry R.zero M i j ≢ R.zero → i ≤ j
    not_behind M s u i j p q some = ⊎_elim
        (λ (less : j < i). absurd (some ((upper M s u).below i j p less)))
        (λ (more : i ≤ j). more)
        (cases_lt j i)

    module _ (U W V X N Z M : Matrix A) (g : Vector → Vector) (u : IsUnipotent R n (λ i. pairing (weight i) rho) U W) (v : IsUnipotent R n (λ i. pairing (weight i) rho) V X)
        (sn : IsSquare R n N) (sz : IsSquare R n Z) (sends : Sends R n weight N g) (respects : (x y : Vector) → SameWeight x y → SameWeight (g x) (g y))
        (inverse : product R Z N ≡ identity R n) (is : M ≡ product R U (product R N V)) where
      snv : IsSquare R n (product R N V)
      snv = product-square R ring n N V sn v.square

      square : IsSquare R n (product R U (product R N V))
      square = product-square R ring n U (product R N V) u.square snv

      -- at the pivot or behind it stands a place of the image
      behind : (j p : ℕ) → j < n → IsPivot R n M j p → (k : ℕ) × (p ≤ k) × (k < n) × SameWeight (weight k) (g (weight j))
      behind j p low pivot =
          let found = pivot.least X (upper X v.inverse_square v.inverse_raises) in
          let i = found.0 in
          let whole : product R M X ≡ product R U N =
          ap (λ L. product R L X) is
          ∙ assoc R ring n U (product R N V) X u.square snv v.inverse_square
          ∙ ap (product R U) (assoc R ring n N V X sn v.square v.inverse_square ∙ ap (product R N) v.right ∙ one_right R ring n N sn) in
          let t = term U N u.square sn i j found.2 low (λ none. found.3 (ap (λ L. entry R.zero L i j) whole ∙ none)) in
          let after = not_behind U u.square u.raises i t.0 found.2 t.1 t.2 in
          let first = found.1 in
          (t.0, omega (arith, after, first), t.1, sends.to t.0 j t.1 low t.3)

      -- at the pivot or before it stands one too
      module _ (j p : ℕ) (low : j < n) (pivot : IsPivot R n M j p) where
        B : Matrix A
        B = product R V pivot.some

        sb : IsSquare R n B
        unfolding B
        sb = product-square R ring n V pivot.some v.square pivot.upper.square

        -- a has the weight of j, or is no place of it
        abbrev Kind : ℕ → Type 0
        Kind a = SameWeight (weight a) (weight j) ⊎ (a < n → ¬ SameWeight (weight a) (weight j))

        kind : (a : ℕ) → Kind a
        kind a = ⊎_elim
            (λ (in_range : a < n). ⊎_elim (λ same. inl same) (λ other. inr (λ _. other)) (alike a j in_range low))
            (λ (beyond : n ≤ a). inr (λ l. absurd (let never : ⊥ = omega (arith, l, beyond) in never)))
            (cases_lt a n)

        -- the entries at places of the weight of j
        keep : (a : ℕ) → Kind a → ℕ → A
        keep a (inl same) b = entry R.zero B a b
        keep a (inr other) b = R.zero

        K : Matrix A
        K = table n n (λ a b. keep a (kind a) b)

        keep-elem : (a b : ℕ) → a < n → b < n → (c : Kind a) → IsElem R (keep a c b)
        unfolding keep
        keep-elem a b p q (inl same) = element R ring n B sb a b p q
        keep-elem a b p q (inr other) = ring.laws.zero_elem

        sk : IsSquare R n K
        unfolding K
        sk = record { shape = table-shaped R.zero n n (λ a b. keep a (kind a) b); elem = λ a b p q. subst (IsElem R) (sym (entry-table R.zero n n (λ a b. keep a (kind a) b) a b p q)) (keep-elem a b p q (kind a)) }

        K-entry : (a b : ℕ) → a < n → b < n → entry R.zero K a b ≡ keep a (kind a) b
        unfolding K
        K-entry a b p q = entry-table R.zero n n (λ a b. keep a (kind a) b) a b p q

        -- the place j itself is kept, and has 1
        corner : entry R.zero K j j ≡ R.one
        unfolding keep B
        corner = K-entry j j low low ∙ here (kind j) ∙ diagonal
          where
            here : (c : Kind j) → keep j c j ≡ entry R.zero B j j
            here (inl same) = refl
            here (inr other) = absurd (other low (λ c. refl))

            diagonal : entry R.zero B j j ≡ R.one
            diagonal = upper-corner V pivot.some (upper V v.square v.raises) pivot.upper j low

        -- at places of the image weight nothing else of B counts
        same_there : (i : ℕ) → i < n → SameWeight (weight i) (g (weight j)) → entry R.zero (product R N B) i j ≡ entry R.zero (product R N K) i j
        unfolding keep
        same_there i p image =
            product-sum_below R ring n N B sn sb i j p low
            ∙ sum-same R n (product_term R N B i j) (product_term R N K i j) (λ a q. by a q (kind a) (K-entry a j q low))
            ∙ sym (product-sum_below R ring n N K sn sk i j p low)
          where
            by : (a : ℕ) → a < n → (c : Kind a) → entry R.zero K a j ≡ keep a c j → product_term R N B i j a ≡ product_term R N K i j a
            by a q (inl same) e = ap (R.mul (entry R.zero N i a)) (sym e)
            by a q (inr other) e = ⊎_elim
                (λ (none : entry R.zero N i a ≡ R.zero). left_zero R ring n N B sb i j a low q none ∙ sym (left_zero R ring n N K sk i j a low q none))
                (λ (some : entry R.zero N i a ≢ R.zero). absurd (other q (sends.one_to_one (weight a) (weight j) (λ c. sym (sends.to i a p q some c) ∙ image c))))
                (decide (entry R.zero N i a))

        -- at the pivot or before it stands a place of the image
        before : (k : ℕ) × (k ≤ p) × (k < n) × SameWeight (weight k) (g (weight j))
        unfolding keep B
        before =
            let one_some : entry R.zero K j j ≢ R.zero = λ none. nontrivial (sym corner ∙ none) in
            let snk = product-square R ring n N K sn sk in
            let back : product R Z (product R N K) ≡ K = sym (assoc R ring n Z N K sz sn sk) ∙ ap (λ L. product R L K) inverse ∙ one_left R ring n K sk in
            let t = term Z (product R N K) sz snk j j low low (λ none. one_some (ap (λ L. entry R.zero L j j) (sym back) ∙ none)) in
            let i = t.0 in
            let s = term N K sn sk i j t.1 low t.3 in
            let a = s.0 in
            let image : SameWeight (weight i) (g (weight j)) = λ c. sends.to i a t.1 s.1 s.2 c ∙ respects (weight a) (weight j) (kept_same a s.1 s.3) c in
            let there : entry R.zero (product R N B) i j ≢ R.zero = λ none. t.3 (sym (same_there i t.1 image) ∙ none) in
            let moved = raised-back in
            let l = term W (product R M pivot.some) u.inverse_square sm i j t.1 low (λ none. there (ap (λ L. entry R.zero L i j) moved ∙ none)) in
            let after = not_behind W u.inverse_square u.inverse_raises i l.0 t.1 l.1 l.2 in
            let within : l.0 ≤ p = ⊎_elim
            (λ (less : p < l.0). absurd (l.3 (pivot.reached l.0 less l.1)))
            (λ (more : l.0 ≤ p). more)
            (cases_lt p l.0) in
            (i, omega (arith, after, within), t.1, image)
          where
            kept_same : (a : ℕ) → a < n → entry R.zero K a j ≢ R.zero → SameWeight (weight a) (weight j)
            kept_same a q some = by (kind a) (λ none. some (K-entry a j q low ∙ none))
              where
                by : (c : Kind a) → keep a c j ≢ R.zero → SameWeight (weight a) (weight j)
                by (inl same) h = same
                by (inr other) h = absurd (h refl)

            sm : IsSquare R n (product R M pivot.some)
            sm = product-square R ring n M pivot.some (subst (IsSquare R n) (sym is) square) pivot.upper.square

            raised-back : product R N B ≡ product R W (product R M pivot.some)
            raised-back =
                let X1 = pivot.some in
                let s1 = pivot.upper.square in
                sym (
                ap (λ L. product R W (product R L X1)) is
                ∙ ap (product R W) (assoc R ring n U (product R N V) X1 u.square snv s1)
                ∙ sym (assoc R ring n W U (product R (product R N V) X1) u.inverse_square u.square (product-square R ring n (product R N V) X1 snv s1))
                ∙ ap (λ L. product R L (product R (product R N V) X1)) u.left
                ∙ one_left R ring n (product R (product R N V) X1) (product-square R ring n (product R N V) X1 snv s1)
                ∙ assoc R ring n N V X1 sn v.square s1)

      -- the weight at a pivot is the image
      pub pivot-weight : (j p : ℕ) → j < n → IsPivot R n M j p → SameWeight (weight p) (g (weight j))
      pivot-weight j p low pivot c =
          let first = before j p low pivot in
          let last = behind j p low pivot in
          together first.0 p last.0 first.1 last.1 last.2 (λ e. first.3 e ∙ sym (last.3 e)) c ∙ first.3 c
