-- Square matrices with rows and columns in another order of the places: products, and what raises levels or sends weights.
use Rattle.std.proofs.Common.{◌≡◌, ◌≢◌, ℕ, ◌<◌, ◌≤◌, cond, eqb, Bool, true, false, List, get_or, refl, sym, ap, ap₂, ◌∙◌, inl, inr, subst, arith, ⊎_elim, eq-eqb}
use Rattle.std.specs.Prelude.{ℤ, pos}
use Rattle.std.proofs.lemmas.Bool.{cases_eq, cases_lt, ne_eqb}
use Rattle.lie_ring.specs.Rings.{RingOn, IsElem, IsRing}
use Rattle.lie_ring.specs.RingLemmas.{one_mul}
use Rattle.lie_ring.specs.Matrices.{Matrix, table, entry, identity, product}
use Rattle.lie_ring.specs.MatrixLemmas.{entry-table, table-shaped}
use Rattle.lie_datum.specs.Vectors.{Vector}
use Rattle.lie_datum.specs.RootList.{RootDatum}
use Rattle.lie_const.specs.Modules.{Module, dimension}
use Rattle.lie_reduce.specs.Triangular.{IsSquare}
use Rattle.lie_reduce.specs.Levels.{unit_entry, Raises, Sends}
use Rattle.lie_reduce.specs.Places.{AreInOrder}
use Rattle.lie_reduce.proofs.LevelLemmas.{product-only, left_zero, right_zero, element}
use Rattle.lie_reduce.proofs.Peeling.{product-square}
use Rattle.lie_reduce.proofs.Shears.{same_square}
use Rattle.lie_reduce.proofs.UniqueFactors.{IsUnipotent, assoc, one_left}

module _ {A : Type 0} (R : RingOn A) (ring : IsRing R) (d : RootDatum) (v : Module) (ps : List ℕ) (o : AreInOrder d v ps) where
  abbrev n : ℕ
  n = dimension v

  abbrev s : ℕ → ℕ
  s i = get_or ps i 0

  -- places in different positions are different
  pub distinct : (i j : ℕ) → i < dimension v → j < dimension v → i ≢ j → get_or ps i 0 ≢ get_or ps j 0
  distinct i j p q h e = ⊎_elim
      (λ (less : i < j). o.apart i j less q e)
      (λ (more : j ≤ i). o.apart j i (omega (arith, more, h)) p (sym e))
      (cases_lt i j)

  unit_elem : (z : Bool) → IsElem R (cond z R.one R.zero)
  unit_elem true = ring.laws.one_elem
  unit_elem false = ring.laws.zero_elem

  -- row i has 1 in the column of the place i, and column j has it in the row of the place j
  P : Matrix A
  P = table (dimension v) (dimension v) (λ i a. cond (eqb (get_or ps i 0) a) R.one R.zero)

  Q : Matrix A
  Q = table (dimension v) (dimension v) (λ a j. cond (eqb (get_or ps j 0) a) R.one R.zero)

  P-entry : (i a : ℕ) → i < dimension v → a < dimension v → entry R.zero P i a ≡ cond (eqb (get_or ps i 0) a) R.one R.zero
  unfolding P
  P-entry i a p q = entry-table R.zero n n (λ i a. cond (eqb (get_or ps i 0) a) R.one R.zero) i a p q

  Q-entry : (a j : ℕ) → a < dimension v → j < dimension v → entry R.zero Q a j ≡ cond (eqb (get_or ps j 0) a) R.one R.zero
  unfolding Q
  Q-entry a j p q = entry-table R.zero n n (λ a j. cond (eqb (get_or ps j 0) a) R.one R.zero) a j p q

  P-square : IsSquare R (dimension v) P
  unfolding P
  P-square = record { shape = table-shaped R.zero n n (λ i a. cond (eqb (get_or ps i 0) a) R.one R.zero); elem = λ i a p q. subst (IsElem R) (sym (P-entry i a p q)) (unit_elem (eqb (get_or ps i 0) a)) }

  Q-square : IsSquare R (dimension v) Q
  unfolding Q
  Q-square = record { shape = table-shaped R.zero n n (λ a j. cond (eqb (get_or ps j 0) a) R.one R.zero); elem = λ a j p q. subst (IsElem R) (sym (Q-entry a j p q)) (unit_elem (eqb (get_or ps j 0) a)) }

  -- P M has the rows of M in the new order
  rows : (M : Matrix A) → IsSquare R (dimension v) M → (i j : ℕ) → i < dimension v → j < dimension v → entry R.zero (product R P M) i j ≡ entry R.zero M (get_or ps i 0) j
  rows M m i j p q =
      product-only R ring n P M P-square m i j (s i) p q (o.within i p) (λ l a h. left_zero R ring n P M m i j l q a
      (P-entry i l p a ∙ ap (λ z. cond z R.one R.zero) (ne_eqb (s i) l (λ e. h (sym e)))))
      ∙ ap (λ x. R.mul x (entry R.zero M (s i) j)) (P-entry i (s i) p (o.within i p) ∙ ap (λ z. cond z R.one R.zero) (eq-eqb (s i) (s i) refl))
      ∙ one_mul R ring.laws (entry R.zero M (s i) j) (element R ring n M m (s i) j (o.within i p) q)

  -- M Q has the columns in it
  columns : (M : Matrix A) → IsSquare R (dimension v) M → (i j : ℕ) → i < dimension v → j < dimension v → entry R.zero (product R M Q) i j ≡ entry R.zero M i (get_or ps j 0)
  columns M m i j p q =
      product-only R ring n M Q m Q-square i j (s j) p q (o.within j q) (λ l a h. right_zero R ring n M Q m i j l p a
      (Q-entry l j a q ∙ ap (λ z. cond z R.one R.zero) (ne_eqb (s j) l (λ e. h (sym e)))))
      ∙ ap (R.mul (entry R.zero M i (s j))) (Q-entry (s j) j (o.within j q) q ∙ ap (λ z. cond z R.one R.zero) (eq-eqb (s j) (s j) refl))
      ∙ ring.laws.mul_one (entry R.zero M i (s j)) (element R ring n M m i (s j) p (o.within j q))

  -- Q P = 1
  cancels : product R Q P ≡ identity R (dimension v)
  cancels = same_square R ring n (product R Q P) (identity R n) (product-square R ring n Q P Q-square P-square) (record { shape = table-shaped R.zero n n (unit_entry R); elem = λ i j p q. subst (IsElem R) (sym (entry-table R.zero n n (unit_entry R) i j p q)) (unit_elem (eqb i j)) })
      (λ a b p q.
      (let found = o.onto a p in
      let i = found.0 in
      let low = found.1 in
      let is = found.2 in
      product-only R ring n Q P Q-square P-square a b i p q low (λ l l_low h. left_zero R ring n Q P P-square a b l q l_low
      (Q-entry a l p l_low ∙ ap (λ z. cond z R.one R.zero) (ne_eqb (s l) a (λ e. distinct l i l_low low h (e ∙ sym is)))))
      ∙ ap₂ R.mul (Q-entry a i p low ∙ ap (λ z. cond z R.one R.zero) (eq-eqb (s i) a is)) (P-entry i b low q ∙ ap (λ x. cond (eqb x b) R.one R.zero) is)
      ∙ one_mul R ring.laws (cond (eqb a b) R.one R.zero) (unit_elem (eqb a b))
      ∙ sym (entry-table R.zero n n (unit_entry R) a b p q)))

  -- M in the new order
  pub sorted : Matrix A → Matrix A
  sorted M = product R P (product R M Q)

  pub sorted-square : (M : Matrix A) → IsSquare R (dimension v) M → IsSquare R (dimension v) (sorted M)
  unfolding sorted
  sorted-square M m = product-square R ring n P (product R M Q) P-square (product-square R ring n M Q m Q-square)

  pub sorted-entry : (M : Matrix A) → IsSquare R (dimension v) M → (i j : ℕ) → i < dimension v → j < dimension v → entry R.zero (sorted M) i j ≡ entry R.zero M (get_or ps i 0) (get_or ps j 0)
  unfolding sorted
  sorted-entry M m i j p q = rows (product R M Q) (product-square R ring n M Q m Q-square) i j p q ∙ columns M m (s i) j (o.within i p) q

  pub sorted-product : (M N : Matrix A) → IsSquare R (dimension v) M → IsSquare R (dimension v) N → sorted (product R M N) ≡ product R (sorted M) (sorted N)
  unfolding sorted
  sorted-product M N m k =
      let sq = product-square R ring n in
      let MQ = product R M Q in
      let NQ = product R N Q in
      let mq = sq M Q m Q-square in
      let nq = sq N Q k Q-square in
      sym (
      assoc R ring n P MQ (product R P NQ) P-square mq (sq P NQ P-square nq)
      ∙ ap (product R P) (
      assoc R ring n M Q (product R P NQ) m Q-square (sq P NQ P-square nq)
      ∙ ap (product R M) (sym (assoc R ring n Q P NQ Q-square P-square nq) ∙ ap (λ L. product R L NQ) cancels ∙ one_left R ring n NQ nq)
      ∙ sym (assoc R ring n M N Q m k Q-square)))

  -- entries of the identity stay
  pub units : (i j : ℕ) → i < dimension v → j < dimension v → unit_entry R (get_or ps i 0) (get_or ps j 0) ≡ unit_entry R i j
  units i j p q = ⊎_elim
      (λ (e : i ≡ j). ap (λ z. cond z R.one R.zero) (eq-eqb (s i) (s j) (ap s e) ∙ sym (eq-eqb i j e)))
      (λ (h : i ≢ j). ap (λ z. cond z R.one R.zero) (ne_eqb (s i) (s j) (distinct i j p q h) ∙ sym (ne_eqb i j h)))
      (cases_eq i j)

  pub sorted-identity : sorted (identity R (dimension v)) ≡ identity R (dimension v)
  sorted-identity =
      let one : IsSquare R n (identity R n) = record { shape = table-shaped R.zero n n (unit_entry R); elem = λ i j p q. subst (IsElem R) (sym (entry-table R.zero n n (unit_entry R) i j p q)) (unit_elem (eqb i j)) } in
      same_square R ring n (sorted (identity R n)) (identity R n) (sorted-square (identity R n) one) one (λ i j p q.
      sorted-entry (identity R n) one i j p q
      ∙ entry-table R.zero n n (unit_entry R) (s i) (s j) (o.within i p) (o.within j q)
      ∙ units i j p q
      ∙ sym (entry-table R.zero n n (unit_entry R) i j p q))

  pub sorted-raises : (level : ℕ → ℤ) (g : ℤ) (M : Matrix A) → IsSquare R (dimension v) M → Raises R (dimension v) level g M → Raises R (dimension v) (λ i. level (get_or ps i 0)) g (sorted M)
  sorted-raises level g M m u i j p q = ⊎_elim
      (λ d. inl (sorted-entry M m i j p q ∙ d ∙ units i j p q))
      (λ up. inr up)
      (u (s i) (s j) (o.within i p) (o.within j q))

  pub sorted-unipotent : (level : ℕ → ℤ) (M N : Matrix A) → IsUnipotent R (dimension v) level M N → IsUnipotent R (dimension v) (λ i. level (get_or ps i 0)) (sorted M) (sorted N)
  sorted-unipotent level M N u = record {
    square = sorted-square M u.square;
    inverse_square = sorted-square N u.inverse_square;
    raises = sorted-raises level (pos 1) M u.square u.raises;
    inverse_raises = sorted-raises level (pos 1) N u.inverse_square u.inverse_raises;
    left = sym (sorted-product N M u.inverse_square u.square) ∙ ap sorted u.left ∙ sorted-identity;
    right = sym (sorted-product M N u.square u.inverse_square) ∙ ap sorted u.right ∙ sorted-identity;
  }

  pub sorted-sends : (weight : ℕ → Vector) (M : Matrix A) (g : Vector → Vector) → IsSquare R (dimension v) M → Sends R (dimension v) weight M g → Sends R (dimension v) (λ i. weight (get_or ps i 0)) (sorted M) g
  sorted-sends weight M g m h = record {
    to = λ i j p q some. h.to (s i) (s j) (o.within i p) (o.within j q) (λ none. some (sorted-entry M m i j p q ∙ none));
    one_to_one = h.one_to_one;
    full = λ j q. (let found = h.full (s j) (o.within j q) in
        let place = o.onto found.0 found.1 in
        (place.0, place.1, λ none. found.2 (ap (λ a. entry R.zero M a (s j)) (sym place.2) ∙ sym (sorted-entry M m place.0 j place.1 q) ∙ none)));
  }
