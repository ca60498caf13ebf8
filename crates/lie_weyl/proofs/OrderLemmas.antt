-- The product of two different simple reflections on the coefficients at their simple roots, and its order.
use Rattle.std.proofs.Common.{◌≡◌, ◌≢◌, ℕ, zero, suc, ◌+◌, ◌*◌, ◌≤◌, ℤ, pos, negsuc, neg_ℤ, ◌+ℤ◌, ◌-ℤ◌, ◌*ℤ◌, ◌≤ℤ◌, List, [], ◌∷◌, length, unsigned_abs, refl, sym, ap, ap₂, subst, ◌∙◌, arith, lit≤, ⊎_elim}
use Rattle.std.specs.Prelude.{⊤, T, leb}
use Rattle.std.proofs.Math.IntN.{pos-*ℤ-pos}
use Rattle.std.proofs.lemmas.Int.{ints}
use Rattle.std.proofs.lemmas.Bool.{cases_eq}
use Rattle.lie_datum.specs.declared.root_pair.Root.{Root}
use Rattle.lie_datum.specs.Vectors.{Vector, pairing, plus, times, unit, entry}
use Rattle.lie_datum.specs.RootDatum.{vector, simple_root, simple_coroot, cartan, root_pairing, simple, reflected, IsSimpleIndex, IsRoot, is_simple, IsPositive}
use Rattle.lie_datum.specs.RootList.{RootDatum, IsLoaded}
use Rattle.lie_base.proofs.RingSolver.{ring, var, num, neg, ◌⊕◌, ◌⊗◌}
use Rattle.lie_datum.proofs.Entries.{entry-plus, entry-times, entry-unit, length-plus, length-times, length-unit, same_entries}
use Rattle.lie_datum.proofs.Roots.{entry-moved, simple_vector, simple_covector}
use Rattle.lie_datum.proofs.Turns.{pairing-combination-plus, pairing-combination-times}
use Rattle.lie_datum.proofs.LoadedLaws.{short, positive_or, at_entry, second_product}
use Rattle.lie_weyl.specs.WeylElement.{moved}
use Rattle.lie_weyl.specs.Orders.{repeated, IsOrder, order_for}
use Rattle.lie_weyl.proofs.Words.{IsWord, empty, letter, IsRoot-moved}
use Rattle.lie_weyl.proofs.LengthLemmas.{trivial}

-- the unit vector has 0 at every other place
entry-other : (n i k : ℕ) → k ≢ i → entry (unit n (suc i)) k ≡ pos 0
entry-other zero i k h = refl
entry-other (suc n) zero zero h = absurd (h refl)
entry-other (suc n) zero (suc k) h = none n k
  where
    none : (n k : ℕ) → entry (unit n zero) k ≡ pos 0
    none zero k = refl
    none (suc n) zero = refl
    none (suc n) (suc k) = none n k
entry-other (suc n) (suc i) zero h = refl
entry-other (suc n) (suc i) (suc k) h = entry-other n i k (λ e. h (ap suc e))

-- the coefficients at a_i and a_j after s_i s_j, where p is c_ji and q is c_ij
abbrev next : ℤ → ℤ → ℤ × ℤ → ℤ × ℤ
next p q s = (neg_ℤ s.0 +ℤ neg_ℤ ((neg_ℤ s.1 +ℤ neg_ℤ (s.0 *ℤ q)) *ℤ p), neg_ℤ s.1 +ℤ neg_ℤ (s.0 *ℤ q))

-- and after n times s_i s_j
abbrev turned : ℤ → ℤ → ℕ → ℤ × ℤ → ℤ × ℤ
turned p q zero s = s
turned p q (suc n) s = next p q (turned p q n s)

-- how far the coefficients are from those of a_i
abbrev off : ℤ × ℤ → ℕ
off s = unsigned_abs (s.0 -ℤ pos 1) + unsigned_abs s.1

-- a_i is elsewhere after 1 to n times s_i s_j
abbrev AreOff : ℤ → ℤ → ℕ → Type 0
AreOff p q zero = ⊤
AreOff p q (suc n) = T (leb 1 (off (turned p q (suc n) (pos 1, pos 0)))) × AreOff p q n

off_at : (p q : ℤ) (n k : ℕ) → AreOff p q n → 1 ≤ k → k ≤ n → 1 ≤ off (turned p q k (pos 1, pos 0))
off_at p q zero k h a b = absurd (omega (arith, a, b))
off_at p q (suc n) k h a b =
    ⊎_elim (λ e. subst (λ m. 1 ≤ off (turned p q m (pos 1, pos 0))) (sym e) (lit≤ h.0)) (λ e. off_at p q n k h.1 a (omega (arith, b, e))) (cases_eq k (suc n))

minus_of : (z : ℤ) → z ≤ℤ pos 0 → z ≡ neg_ℤ (pos (unsigned_abs z))
minus_of z h = omega (arith, ints, h)

module _ (d : RootDatum) (loaded : IsLoaded d) where
  -- a root with a coefficient 1 is positive
  positive_at : (r : Root) (k : ℕ) → IsRoot d.base r → entry r.coeffs k ≡ pos 1 → IsPositive r
  positive_at r k p e = ⊎_elim (λ h. h) (λ n. (let s = at_entry (λ c. c ≤ℤ pos 0) (omega (arith, ints)) r.coeffs n k in absurd (omega (arith, ints, s, e)))) (positive_or d loaded r p)

  -- s_i keeps the coefficients at the other simple roots
  kept : (i k : ℕ) (r : Root) → k ≢ i → entry (reflected d.base (suc i) r).coeffs k ≡ entry r.coeffs k
  kept i k r h =
      let m = neg_ℤ (pairing (vector d.base r) (simple_coroot d.base (suc i))) in
      entry-moved r.coeffs m (unit 8 (suc i)) k ∙ ap (λ t. entry r.coeffs k +ℤ m *ℤ t) (entry-other 8 i k h)
      ∙ ring (entry r.coeffs k ∷ (m ∷ [])) (var 0 ⊕ var 1 ⊗ num (pos 0)) (var 0) refl

  simple_pairing : (i j : ℕ) → IsSimpleIndex d.base i → IsSimpleIndex d.base j → root_pairing d.base (simple i) (simple j) ≡ cartan d.base i j
  simple_pairing i j s t =
      simple_covector d.base (short d loaded) loaded.axioms.input.corank j (vector d.base (simple i)) t
      ∙ simple_vector d.base (short d loaded) loaded.axioms.input.corank i (simple_coroot d.base j) s

  -- x a_i + y a_j
  abbrev HasPair : ℕ → ℕ → Root → ℤ → ℤ → Type 0
  HasPair i j r x y = r.coeffs ≡ plus (times x (unit 8 (suc i))) (times y (unit 8 (suc j)))

  pair_entry : (i j : ℕ) (x y : ℤ) (k : ℕ) → entry (plus (times x (unit 8 (suc i))) (times y (unit 8 (suc j)))) k ≡ x *ℤ entry (unit 8 (suc i)) k +ℤ y *ℤ entry (unit 8 (suc j)) k
  pair_entry i j x y k =
      entry-plus (times x (unit 8 (suc i))) (times y (unit 8 (suc j))) k ∙ ap₂ ◌+ℤ◌ (entry-times x (unit 8 (suc i)) k) (entry-times y (unit 8 (suc j)) k)

  pair_length : (i j : ℕ) (x y : ℤ) → length (plus (times x (unit 8 (suc i))) (times y (unit 8 (suc j)))) ≡ 8
  pair_length i j x y =
      length-plus (times x (unit 8 (suc i))) (times y (unit 8 (suc j))) 8 (length-times x (unit 8 (suc i)) ∙ length-unit 8 (suc i)) (length-times y (unit 8 (suc j)) ∙ length-unit 8 (suc j))

  pair_pairing : (i j : ℕ) (r : Root) (x y : ℤ) (a : Vector) → IsSimpleIndex d.base (suc i) → IsSimpleIndex d.base (suc j) → HasPair i j r x y →
      pairing (vector d.base r) a ≡ x *ℤ pairing (vector d.base (simple (suc i))) a +ℤ y *ℤ pairing (vector d.base (simple (suc j))) a
  pair_pairing i j r x y a s t h =
      let u = unit 8 (suc i) in
      let v = unit 8 (suc j) in
      ap (λ c. pairing (vector d.base (record { coeffs = c; co_coeffs = r.co_coeffs })) a) h ∙ pairing-combination-plus (times x u) v y d.base.roots a
      ∙ ap (λ z. z +ℤ y *ℤ pairing (vector d.base (simple (suc j))) a) (pairing-combination-times x u d.base.roots a)

  module _ (i j : ℕ) (s : IsSimpleIndex d.base (suc i)) (t : IsSimpleIndex d.base (suc j)) (apart : i ≢ j) where
    low_i : suc i ≤ 8
    low_i = let a = s.1 in let b = short d loaded in omega (arith, a, b)

    low_j : suc j ≤ 8
    low_j = let a = t.1 in let b = short d loaded in omega (arith, a, b)

    apart' : j ≢ i
    apart' e = apart (sym e)

    first_entry : (r : Root) (x y : ℤ) → HasPair i j r x y → entry r.coeffs i ≡ x
    first_entry r x y h =
        ap (λ v. entry v i) h ∙ pair_entry i j x y i ∙ ap₂ (λ a b. x *ℤ a +ℤ y *ℤ b) (entry-unit 8 i low_i) (entry-other 8 j i apart)
        ∙ ring (x ∷ (y ∷ [])) (var 0 ⊗ num (pos 1) ⊕ var 1 ⊗ num (pos 0)) (var 0) refl

    second_entry : (r : Root) (x y : ℤ) → HasPair i j r x y → entry r.coeffs j ≡ y
    second_entry r x y h =
        ap (λ v. entry v j) h ∙ pair_entry i j x y j ∙ ap₂ (λ a b. x *ℤ a +ℤ y *ℤ b) (entry-other 8 i j apart') (entry-unit 8 j low_j)
        ∙ ring (x ∷ (y ∷ [])) (var 0 ⊗ num (pos 0) ⊕ var 1 ⊗ num (pos 1)) (var 1) refl

    pair_i : HasPair i j (simple (suc i)) (pos 1) (pos 0)
    pair_i = same_entries (unit 8 (suc i)) (plus (times (pos 1) (unit 8 (suc i))) (times (pos 0) (unit 8 (suc j)))) (length-unit 8 (suc i) ∙ sym (pair_length i j (pos 1) (pos 0)))
        (λ k. ring (entry (unit 8 (suc i)) k ∷ (entry (unit 8 (suc j)) k ∷ [])) (var 0) (num (pos 1) ⊗ var 0 ⊕ num (pos 0) ⊗ var 1) refl ∙ sym (pair_entry i j (pos 1) (pos 0) k))

    pair_j : HasPair i j (simple (suc j)) (pos 0) (pos 1)
    pair_j = same_entries (unit 8 (suc j)) (plus (times (pos 0) (unit 8 (suc i))) (times (pos 1) (unit 8 (suc j)))) (length-unit 8 (suc j) ∙ sym (pair_length i j (pos 0) (pos 1)))
        (λ k. ring (entry (unit 8 (suc i)) k ∷ (entry (unit 8 (suc j)) k ∷ [])) (var 1) (num (pos 0) ⊗ var 0 ⊕ num (pos 1) ⊗ var 1) refl ∙ sym (pair_entry i j (pos 0) (pos 1) k))

    abbrev p : ℤ
    p = cartan d.base (suc j) (suc i)

    abbrev q : ℤ
    q = cartan d.base (suc i) (suc j)

    simple_at : (k : ℕ) (a : Vector) → IsSimpleIndex d.base k → pairing (vector d.base (simple k)) a ≡ pairing (simple_root d.base k) a
    simple_at k a h = simple_vector d.base (short d loaded) loaded.axioms.input.corank k a h

    -- s_i and s_j on x a_i + y a_j
    by_first : (r : Root) (x y : ℤ) → HasPair i j r x y → HasPair i j (reflected d.base (suc i) r) (neg_ℤ x +ℤ neg_ℤ (y *ℤ p)) y
    by_first r x y h =
        let u = unit 8 (suc i) in
        let v = unit 8 (suc j) in
        let a = simple_coroot d.base (suc i) in
        let k = pair_pairing i j r x y a s t h ∙ ap₂ (λ b c. x *ℤ b +ℤ y *ℤ c) (simple_at (suc i) a s ∙ loaded.axioms.twos (suc i) s) (simple_at (suc j) a t) in
        let z = neg_ℤ x +ℤ neg_ℤ (y *ℤ p) in
        ap₂ (λ c m. plus c (times (neg_ℤ m) u)) h k
        ∙ same_entries (plus (plus (times x u) (times y v)) (times (neg_ℤ (x *ℤ pos 2 +ℤ y *ℤ p)) u)) (plus (times z u) (times y v))
        (length-plus (plus (times x u) (times y v)) (times (neg_ℤ (x *ℤ pos 2 +ℤ y *ℤ p)) u) 8 (pair_length i j x y) (length-times (neg_ℤ (x *ℤ pos 2 +ℤ y *ℤ p)) u ∙ length-unit 8 (suc i)) ∙ sym (pair_length i j z y))
        (λ e. entry-moved (plus (times x u) (times y v)) (neg_ℤ (x *ℤ pos 2 +ℤ y *ℤ p)) u e ∙ ap (λ b. b +ℤ neg_ℤ (x *ℤ pos 2 +ℤ y *ℤ p) *ℤ entry u e) (pair_entry i j x y e)
        ∙ ring (x ∷ (y ∷ (p ∷ (entry u e ∷ (entry v e ∷ []))))) (var 0 ⊗ var 3 ⊕ var 1 ⊗ var 4 ⊕ neg (var 0 ⊗ num (pos 2) ⊕ var 1 ⊗ var 2) ⊗ var 3) ((neg (var 0) ⊕ neg (var 1 ⊗ var 2)) ⊗ var 3 ⊕ var 1 ⊗ var 4) refl
        ∙ sym (pair_entry i j z y e))

    by_second : (r : Root) (x y : ℤ) → HasPair i j r x y → HasPair i j (reflected d.base (suc j) r) x (neg_ℤ y +ℤ neg_ℤ (x *ℤ q))
    by_second r x y h =
        let u = unit 8 (suc i) in
        let v = unit 8 (suc j) in
        let a = simple_coroot d.base (suc j) in
        let k = pair_pairing i j r x y a s t h ∙ ap₂ (λ b c. x *ℤ b +ℤ y *ℤ c) (simple_at (suc i) a s) (simple_at (suc j) a t ∙ loaded.axioms.twos (suc j) t) in
        let z = neg_ℤ y +ℤ neg_ℤ (x *ℤ q) in
        ap₂ (λ c m. plus c (times (neg_ℤ m) v)) h k
        ∙ same_entries (plus (plus (times x u) (times y v)) (times (neg_ℤ (x *ℤ q +ℤ y *ℤ pos 2)) v)) (plus (times x u) (times z v))
        (length-plus (plus (times x u) (times y v)) (times (neg_ℤ (x *ℤ q +ℤ y *ℤ pos 2)) v) 8 (pair_length i j x y) (length-times (neg_ℤ (x *ℤ q +ℤ y *ℤ pos 2)) v ∙ length-unit 8 (suc j)) ∙ sym (pair_length i j x z))
        (λ e. entry-moved (plus (times x u) (times y v)) (neg_ℤ (x *ℤ q +ℤ y *ℤ pos 2)) v e ∙ ap (λ b. b +ℤ neg_ℤ (x *ℤ q +ℤ y *ℤ pos 2) *ℤ entry v e) (pair_entry i j x y e)
        ∙ ring (x ∷ (y ∷ (q ∷ (entry u e ∷ (entry v e ∷ []))))) (var 0 ⊗ var 3 ⊕ var 1 ⊗ var 4 ⊕ neg (var 0 ⊗ var 2 ⊕ var 1 ⊗ num (pos 2)) ⊗ var 4) (var 0 ⊗ var 3 ⊕ (neg (var 1) ⊕ neg (var 0 ⊗ var 2)) ⊗ var 4) refl
        ∙ sym (pair_entry i j x z e))

    abbrev word : List ℕ
    word = suc i ∷ suc j ∷ []

    turns : (n : ℕ) (r : Root) (c : ℤ × ℤ) → HasPair i j r c.0 c.1 → HasPair i j (moved d.base (repeated n word) r) (turned p q n c).0 (turned p q n c).1
    turns zero r c h = h
    turns (suc n) r c h =
        let a = turned p q n c in
        let m = moved d.base (repeated n word) r in
        by_first (reflected d.base (suc j) m) a.0 (neg_ℤ a.1 +ℤ neg_ℤ (a.0 *ℤ q)) (by_second m a.0 a.1 (turns n r c h))

    is_word : (n : ℕ) → IsWord d.base (repeated n word)
    is_word zero = empty
    is_word (suc n) = letter s (letter t (is_word n))

    all_kept : (n k : ℕ) (r : Root) → k ≢ i → k ≢ j → entry (moved d.base (repeated n word) r).coeffs k ≡ entry r.coeffs k
    all_kept zero k r a b = refl
    all_kept (suc n) k r a b =
        let m = moved d.base (repeated n word) r in
        kept i k (reflected d.base (suc j) m) a ∙ kept j k m b ∙ all_kept n k r a b

    -- where the coefficients come back for the first time, the product is 1 for the first time
    order_from : (n : ℕ) → turned p q (suc n) (pos 1, pos 0) ≡ (pos 1, pos 0) → turned p q (suc n) (pos 0, pos 1) ≡ (pos 0, pos 1) → AreOff p q n → IsOrder d word (suc n)
    order_from n e f o = record {
      some = omega arith;
      one = trivial d loaded (repeated (suc n) word) (is_word (suc n)) up;
      least = λ k a b h.
          let c = turned p q k (pos 1, pos 0) in
          let m = moved d.base (repeated k word) (simple (suc i)) in
          let g = turns k (simple (suc i)) (pos 1, pos 0) pair_i in
          let same = h (simple (suc i)) (is_simple (suc i) s) in
          let x = sym (first_entry m c.0 c.1 g) ∙ ap (λ r. entry r.coeffs i) same ∙ entry-unit 8 i low_i in
          let y = sym (second_entry m c.0 c.1 g) ∙ ap (λ r. entry r.coeffs j) same ∙ entry-other 8 i j apart' in
          let z : off c ≡ 0 = ap₂ (λ v w. unsigned_abs (v -ℤ pos 1) + unsigned_abs w) x y in
          let l = off_at p q n k o a (omega (arith, b)) in
          absurd (omega (arith, z, l));
    }
      where
        root : (k : ℕ) → IsSimpleIndex d.base k → IsRoot d.base (moved d.base (repeated (suc n) word) (simple k))
        root k h = IsRoot-moved d loaded (repeated (suc n) word) (simple k) (is_word (suc n)) (is_simple k h)

        up : (k : ℕ) → IsSimpleIndex d.base k → IsPositive (moved d.base (repeated (suc n) word) (simple k))
        up zero h = absurd (let a = h.0 in omega (arith, a))
        up (suc k) h =
            ⊎_elim (λ a. subst (λ m. IsPositive (moved d.base (repeated (suc n) word) (simple (suc m)))) (sym a) up_i)
            (λ a. ⊎_elim (λ b. subst (λ m. IsPositive (moved d.base (repeated (suc n) word) (simple (suc m)))) (sym b) up_j)
            (λ b. positive_at (moved d.base (repeated (suc n) word) (simple (suc k))) k (root (suc k) h)
            (all_kept (suc n) k (simple (suc k)) a b ∙ entry-unit 8 k (let x = h.1 in let y = short d loaded in omega (arith, x, y))))
            (cases_eq k j)) (cases_eq k i)
          where
            up_i : IsPositive (moved d.base (repeated (suc n) word) (simple (suc i)))
            up_i =
                let c = turned p q (suc n) (pos 1, pos 0) in
                let m = moved d.base (repeated (suc n) word) (simple (suc i)) in
                positive_at m i (root (suc i) s) (first_entry m c.0 c.1 (turns (suc n) (simple (suc i)) (pos 1, pos 0) pair_i) ∙ ap (λ v. v.0) e)

            up_j : IsPositive (moved d.base (repeated (suc n) word) (simple (suc j)))
            up_j =
                let c = turned p q (suc n) (pos 0, pos 1) in
                let m = moved d.base (repeated (suc n) word) (simple (suc j)) in
                positive_at m j (root (suc j) t) (second_entry m c.0 c.1 (turns (suc n) (simple (suc j)) (pos 0, pos 1) pair_j) ∙ ap (λ v. v.1) f)

    -- the same for numbers known to be the Cartan integers
    order_at : (n : ℕ) (a b : ℤ) → p ≡ a → q ≡ b → turned a b (suc n) (pos 1, pos 0) ≡ (pos 1, pos 0) → turned a b (suc n) (pos 0, pos 1) ≡ (pos 0, pos 1) → AreOff a b n → IsOrder d word (suc n)
    order_at n a b x y e f o =
        order_from n (ap₂ (λ v w. turned v w (suc n) (pos 1, pos 0)) x y ∙ e) (ap₂ (λ v w. turned v w (suc n) (pos 0, pos 1)) x y ∙ f)
        (subst (λ v. AreOff v q n) (sym x) (subst (λ w. AreOff a w n) (sym y) o))

    -- the Cartan integers are -c and -e, in six cases
    by_numbers : (c e : ℕ) → (c ≡ 0 → e ≡ 0) → (e ≡ 0 → c ≡ 0) → c * e ≤ 3 → p ≡ neg_ℤ (pos c) → q ≡ neg_ℤ (pos e) → IsOrder d word (order_for (neg_ℤ (pos e) *ℤ neg_ℤ (pos c)))
    by_numbers zero zero z w h x y = order_at 1 (pos 0) (pos 0) x y refl refl (tt, tt)
    by_numbers zero (suc e) z w h x y = absurd (let n = z refl in omega (arith, n))
    by_numbers (suc c) zero z w h x y = absurd (let n = w refl in omega (arith, n))
    by_numbers (suc zero) (suc zero) z w h x y = order_at 2 (negsuc 0) (negsuc 0) x y refl refl (tt, (tt, tt))
    by_numbers (suc zero) (suc (suc zero)) z w h x y = order_at 3 (negsuc 0) (negsuc 1) x y refl refl (tt, (tt, (tt, tt)))
    by_numbers (suc (suc zero)) (suc zero) z w h x y = order_at 3 (negsuc 1) (negsuc 0) x y refl refl (tt, (tt, (tt, tt)))
    by_numbers (suc zero) (suc (suc (suc zero))) z w h x y = order_at 5 (negsuc 0) (negsuc 2) x y refl refl (tt, (tt, (tt, (tt, (tt, tt)))))
    by_numbers (suc (suc (suc zero))) (suc zero) z w h x y = order_at 5 (negsuc 2) (negsuc 0) x y refl refl (tt, (tt, (tt, (tt, (tt, tt)))))
    by_numbers (suc zero) (suc (suc (suc (suc e)))) z w h x y = absurd (omega (arith, h))
    by_numbers (suc (suc c)) (suc (suc e)) z w h x y = absurd (let n : suc (suc c) * suc (suc e) ≡ 4 + (2 * c + (2 * e + c * e)) = grind arith in omega (arith, h, n))
    by_numbers (suc (suc (suc (suc c)))) (suc zero) z w h x y = absurd (omega (arith, h))

    -- the order, where both indices are above 0
    pub order : IsOrder d word (order_for (q *ℤ p))
    order =
        let low_p = loaded.axioms.signs (suc j) (suc i) t s (λ e. apart' (omega (arith, e))) in
        let low_q = loaded.axioms.signs (suc i) (suc j) s t (λ e. apart (omega (arith, e))) in
        let one = entry-unit 8 i low_i in
        let none = entry-other 8 j i apart in
        let bound = second_product d loaded (simple (suc i)) (simple (suc j)) (is_simple (suc i) s) (is_simple (suc j) t)
        (λ e. (let f = ap (λ r. entry r.coeffs i) e in absurd (omega (arith, ints, f, one, none))))
        (λ e. (let f = ap (λ r. entry r.coeffs i) e in let g = entry-times (negsuc 0) (unit 8 (suc j)) i in absurd (omega (arith, ints, f, g, one, none)))) in
        let product : (q *ℤ p) ≤ℤ pos 3 = subst (λ v. v ≤ℤ pos 3) (ap₂ ◌*ℤ◌ (simple_pairing (suc i) (suc j) s t) (simple_pairing (suc j) (suc i) t s)) bound in
        let c = unsigned_abs p in
        let e = unsigned_abs q in
        let x = minus_of p low_p in
        let y = minus_of q low_q in
        let product_is : q *ℤ p ≡ pos (c * e) = ap₂ ◌*ℤ◌ y x ∙ ring (pos c ∷ (pos e ∷ [])) (neg (var 1) ⊗ neg (var 0)) (var 0 ⊗ var 1) refl ∙ pos-*ℤ-pos c e in
        subst (λ v. IsOrder d word (order_for v)) (sym (ap₂ ◌*ℤ◌ y x))
        (by_numbers c e
        (λ z. ap unsigned_abs (loaded.axioms.zeros (suc j) (suc i) t s (x ∙ ap (λ k. neg_ℤ (pos k)) z)))
        (λ z. ap unsigned_abs (loaded.axioms.zeros (suc i) (suc j) s t (y ∙ ap (λ k. neg_ℤ (pos k)) z)))
        (omega (arith, ints, product, product_is)) x y)

-- the order of s_i s_j, from its indices
pub order_of_product : (d : RootDatum) → IsLoaded d → (i j : ℕ) → IsSimpleIndex d.base i → IsSimpleIndex d.base j → i ≢ j → IsOrder d (i ∷ j ∷ []) (order_for (cartan d.base i j *ℤ cartan d.base j i))
order_of_product d loaded zero j s t h = absurd (let a = s.0 in omega (arith, a))
order_of_product d loaded (suc i) zero s t h = absurd (let a = t.0 in omega (arith, a))
order_of_product d loaded (suc i) (suc j) s t h = order d loaded i j s t (λ e. h (ap suc e))
