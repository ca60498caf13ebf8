-- X_r(0) = 1, so relations between root letters that hold at values other than 0 hold at all; and n_i as three root letters.
use Rattle.std.specs.Prelude.{◌≢◌}
use Rattle.std.specs.List.{AllByRecursion}
use Rattle.std.proofs.Common.{◌≡◌, ℕ, zero, suc, ◌≤◌, ℤ, pos, neg_ℤ, List, [], ◌∷◌, map, cond, eqb, refl, sym, ap, ◌∙◌, arith}
use Rattle.lie_ring.specs.Rings.{RingOn, IsElem, IsRing}
use Rattle.lie_ring.specs.Powers.{power}
use Rattle.lie_ring.specs.RingLemmas.{mul_zero, zero_mul, zero_add, neg_zero}
use Rattle.lie_ring.specs.SumLemmas.{sum-zeros}
use Rattle.lie_ring.specs.Matrices.{Matrix, entry, identity, product}
use Rattle.lie_ring.specs.MatrixLemmas.{table-same}
use Rattle.lie_ring.specs.MatrixLaws.{product-assoc}
use Rattle.lie_field.specs.FiniteField.{FiniteField}
use Rattle.lie_field.specs.FieldRing.{field_ring, field_is_ring}
use Rattle.lie_field.specs.Quotient.{add, mul, neg, of_int}
use Rattle.lie_datum.specs.RootList.{RootDatum}
use Rattle.lie_const.specs.declared.term.Term.{Term}
use Rattle.lie_const.specs.ConstantTables.{ConstantTable, terms_of}
use Rattle.lie_const.specs.Modules.{Module, dimension, top, divided_power, root_element, root_element_entry, weyl_element, weyl_inverse}
use Rattle.lie_const.specs.Signs.{Signs, image}
use Rattle.lie_letters.specs.declared.letter.Letter.{Letter as CodeLetter}
use Rattle.lie_letters.specs.declared.letter.Letter.TheVariants.{X, N, Ninv}
use Rattle.lie_identities.proofs.FactorLemmas.{power-elem, cond-elem}
use Rattle.lie_audit.specs.WordMatrix.{word_matrix, letter_matrix}
use Rattle.lie_audit.proofs.WordMatrixLemmas.{IsSquareOver, one-before, word-square, letter-square, square-times}

module _ {A : Type 0} (R : RingOn A) (ring : IsRing R) where
  -- a power of 0 from the first on
  pub power-zero : (k : ℕ) → 1 ≤ k → power R R.zero k ≡ R.zero
  power-zero zero p = absurd (omega (arith, p))
  power-zero (suc k) p = mul_zero R ring.laws (power R R.zero k) (power-elem R ring R.zero k ring.laws.zero_elem)

  -- X_r(0) = 1
  pub root_element-zero : (v : Module) (r : ℤ) → root_element R v r R.zero ≡ identity R (dimension v)
  unfolding root_element
  root_element-zero v r = table-same (dimension v) (dimension v) (root_element_entry R v r R.zero) _ (λ i j _ _.
      let e = λ (k : ℕ). R.of_int (entry (pos 0) (divided_power v r (suc k)) i j) in
      ap (R.add (cond (eqb i j) R.one R.zero))
      (sum-zeros R ring.laws (top v r) _ (λ k _.
      ap (λ x. R.mul x (e k)) (power-zero (suc k) (omega arith)) ∙ zero_mul R ring.laws (e k) (ring.integers.int_elem _)))
      ∙ ring.laws.add_zero _ (cond-elem R ring (eqb i j) R.one R.zero ring.laws.one_elem ring.laws.zero_elem))

-- C_ijrs (-t)^i u^j, in the field
abbrev pub value_at : FiniteField → ℕ → ℕ → Term → ℕ
value_at f t u c = mul f.given (of_int f.given c.value) (mul f.given (power (field_ring f) (neg f.given t) c.i) (power (field_ring f) u c.j))

-- the letters of the terms
abbrev pub letters_at : FiniteField → List Term → ℕ → ℕ → List CodeLetter
letters_at f cs t u = map (λ c. X c.root (value_at f t u c)) cs

module _ (f : FiniteField) (v : Module) where
  -- a letter x_r(0) in front
  pub zero-letter : (r : ℤ) (a : ℕ) (w : List CodeLetter) → a ≡ 0 → word_matrix f v (X r a ∷ w) ≡ word_matrix f v w
  zero-letter r a w e =
      ap (λ b. product (field_ring f) (root_element (field_ring f) v r b) (word_matrix f v w)) e
      ∙ ap (λ M. product (field_ring f) M (word_matrix f v w)) (root_element-zero (field_ring f) (field_is_ring f) v r)
      ∙ one-before f v (word_matrix f v w) (word-square f v w)

  -- a word behind a letter
  pub letter-same : (x : CodeLetter) (u w : List CodeLetter) → word_matrix f v u ≡ word_matrix f v w → word_matrix f v (x ∷ u) ≡ word_matrix f v (x ∷ w)
  letter-same x u w e = ap (product (field_ring f) (letter_matrix f v x)) e

  -- (A (B C)) M = A (B (C M))
  pub three-before : (a b c : CodeLetter) (M : Matrix ℕ) → IsSquareOver f (dimension v) M →
      product (field_ring f) (product (field_ring f) (letter_matrix f v a) (product (field_ring f) (letter_matrix f v b) (letter_matrix f v c))) M
      ≡ product (field_ring f) (letter_matrix f v a) (product (field_ring f) (letter_matrix f v b) (product (field_ring f) (letter_matrix f v c) M))
  three-before a b c M m =
      let p = letter-square f v a in
      let q = letter-square f v b in
      let r = letter-square f v c in
      let qr = square-times f (dimension v) _ _ q r in
      product-assoc (field_ring f) (field_is_ring f) (letter_matrix f v a) (product (field_ring f) (letter_matrix f v b) (letter_matrix f v c)) M (p.width ∙ sym qr.height) (qr.width ∙ sym m.height) p.elem qr.elem m.elem
      ∙ ap (product (field_ring f) (letter_matrix f v a))
      (product-assoc (field_ring f) (field_is_ring f) (letter_matrix f v b) (letter_matrix f v c) M (q.width ∙ sym r.height) (r.width ∙ sym m.height) q.elem r.elem m.elem)

  -- S5: a letter n_i in front stands for three root letters, and its inverse too
  pub weyl-letters : (i : ℕ) (w : List CodeLetter) → word_matrix f v (N i ∷ w) ≡ word_matrix f v (X (pos i) 1 ∷ (X (neg_ℤ (pos i)) (neg f.given 1) ∷ (X (pos i) 1 ∷ w)))
  unfolding weyl_element
  weyl-letters i w = three-before (X (pos i) 1) (X (neg_ℤ (pos i)) (neg f.given 1)) (X (pos i) 1) (word_matrix f v w) (word-square f v w)

  -- and the inverse of n_i
  pub inverse-letters : (i : ℕ) (w : List CodeLetter) → word_matrix f v (Ninv i ∷ w) ≡ word_matrix f v (X (pos i) (neg f.given 1) ∷ (X (neg_ℤ (pos i)) 1 ∷ (X (pos i) (neg f.given 1) ∷ w)))
  unfolding weyl_inverse
  inverse-letters i w = three-before (X (pos i) (neg f.given 1)) (X (neg_ℤ (pos i)) 1) (X (pos i) (neg f.given 1)) (word_matrix f v w) (word-square f v w)

  -- ---- terms at 0
  zero_elem : IsElem (field_ring f) 0
  zero_elem = (field_is_ring f).laws.zero_elem

  -- -0 = 0
  negative_zero : neg f.given 0 ≡ 0
  negative_zero = neg_zero (field_ring f) (field_is_ring f).laws

  -- t = 0
  value-first : (u : ℕ) (c : Term) → IsElem (field_ring f) u → 1 ≤ c.i → value_at f 0 u c ≡ 0
  value-first u c p first =
      let laws = (field_is_ring f).laws in
      ap (λ x. mul f.given (of_int f.given c.value) (mul f.given x (power (field_ring f) u c.j)))
      (ap (λ x. power (field_ring f) x c.i) negative_zero ∙ power-zero (field_ring f) (field_is_ring f) c.i first)
      ∙ ap (mul f.given (of_int f.given c.value)) (zero_mul (field_ring f) laws (power (field_ring f) u c.j) (power-elem (field_ring f) (field_is_ring f) u c.j p))
      ∙ mul_zero (field_ring f) laws (of_int f.given c.value) ((field_is_ring f).integers.int_elem c.value)

  -- u = 0
  value-second : (t : ℕ) (c : Term) → IsElem (field_ring f) t → 1 ≤ c.j → value_at f t 0 c ≡ 0
  value-second t c p second =
      let laws = (field_is_ring f).laws in
      let n = laws.neg_elem t p in
      ap (λ x. mul f.given (of_int f.given c.value) (mul f.given (power (field_ring f) (neg f.given t) c.i) x)) (power-zero (field_ring f) (field_is_ring f) c.j second)
      ∙ ap (mul f.given (of_int f.given c.value)) (mul_zero (field_ring f) laws (power (field_ring f) (neg f.given t) c.i) (power-elem (field_ring f) (field_is_ring f) (neg f.given t) c.i n))
      ∙ mul_zero (field_ring f) laws (of_int f.given c.value) ((field_is_ring f).integers.int_elem c.value)

  -- letters whose values are all 0
  zero-letters : (cs : List Term) (t u : ℕ) → AllByRecursion (λ c. value_at f t u c ≡ 0) cs → word_matrix f v (letters_at f cs t u) ≡ word_matrix f v []
  zero-letters [] t u p = refl
  zero-letters (c ∷ cs) t u p = zero-letter c.root (value_at f t u c) (letters_at f cs t u) p.0 ∙ zero-letters cs t u p.1

  -- all are 0 at t = 0
  pub zero_first : (cs : List Term) (u : ℕ) → IsElem (field_ring f) u → AllByRecursion (λ c. 1 ≤ c.i) cs → AllByRecursion (λ c. value_at f 0 u c ≡ 0) cs
  zero_first [] u p h = tt
  zero_first (c ∷ cs) u p h = (value-first u c p h.0, zero_first cs u p h.1)

  -- and at u = 0
  pub zero_second : (cs : List Term) (t : ℕ) → IsElem (field_ring f) t → AllByRecursion (λ c. 1 ≤ c.j) cs → AllByRecursion (λ c. value_at f t 0 c ≡ 0) cs
  zero_second [] t p h = tt
  zero_second (c ∷ cs) t p h = (value-second t c p h.0, zero_second cs t p h.1)

  -- ---- the relations, where they hold at values that are not 0
  module _ (d : RootDatum) (c : ConstantTable) (eta : Signs) where
    -- S1
    pub s1-everywhere : (r : ℤ) → ((t u : ℕ) → t ≢ 0 → u ≢ 0 → IsElem (field_ring f) t → IsElem (field_ring f) u → word_matrix f v (X r t ∷ (X r u ∷ [])) ≡ word_matrix f v (X r (add f.given t u) ∷ []))
        → (a b : ℕ) → IsElem (field_ring f) a → IsElem (field_ring f) b → word_matrix f v (X r a ∷ (X r b ∷ [])) ≡ word_matrix f v (X r (add f.given a b) ∷ [])
    s1-everywhere r units zero b p q =
        zero-letter r 0 (X r b ∷ []) refl
        ∙ ap (λ x. word_matrix f v (X r x ∷ [])) (sym (zero_add (field_ring f) (field_is_ring f).laws b q))
    s1-everywhere r units (suc a) zero p q =
        letter-same (X r (suc a)) (X r 0 ∷ []) [] (zero-letter r 0 [] refl)
        ∙ ap (λ x. word_matrix f v (X r x ∷ [])) (sym ((field_is_ring f).laws.add_zero (suc a) p))
    s1-everywhere r units (suc a) (suc b) p q = units (suc a) (suc b) (λ e. absurd (omega (arith, e))) (λ e. absurd (omega (arith, e))) p q

    -- S2
    pub s2-everywhere : (r s : ℤ) → AllByRecursion (λ x. 1 ≤ x.i) (terms_of c r s) → AllByRecursion (λ x. 1 ≤ x.j) (terms_of c r s)
        → ((t u : ℕ) → t ≢ 0 → u ≢ 0 → IsElem (field_ring f) t → IsElem (field_ring f) u → word_matrix f v (X s u ∷ (X r t ∷ [])) ≡ word_matrix f v (X r t ∷ (X s u ∷ letters_at f (terms_of c r s) t u)))
        → (t u : ℕ) → IsElem (field_ring f) t → IsElem (field_ring f) u → word_matrix f v (X s u ∷ (X r t ∷ [])) ≡ word_matrix f v (X r t ∷ (X s u ∷ letters_at f (terms_of c r s) t u))
    s2-everywhere r s first second units zero u p q =
        letter-same (X s u) (X r 0 ∷ []) [] (zero-letter r 0 [] refl)
        ∙ letter-same (X s u) [] (letters_at f (terms_of c r s) 0 u) (sym (zero-letters (terms_of c r s) 0 u (zero_first (terms_of c r s) u q first)))
        ∙ sym (zero-letter r 0 (X s u ∷ letters_at f (terms_of c r s) 0 u) refl)
    s2-everywhere r s first second units (suc t) zero p q =
        zero-letter s 0 (X r (suc t) ∷ []) refl
        ∙ letter-same (X r (suc t)) [] (X s 0 ∷ letters_at f (terms_of c r s) (suc t) 0)
        (sym (zero-letter s 0 (letters_at f (terms_of c r s) (suc t) 0) refl ∙ zero-letters (terms_of c r s) (suc t) 0 (zero_second (terms_of c r s) (suc t) p second)))
    s2-everywhere r s first second units (suc t) (suc u) p q = units (suc t) (suc u) (λ e. absurd (omega (arith, e))) (λ e. absurd (omega (arith, e))) p q

    -- S7
    pub s7-everywhere : (i : ℕ) (s : ℤ) → ((t : ℕ) → t ≢ 0 → IsElem (field_ring f) t → word_matrix f v (N i ∷ (X s t ∷ [])) ≡ word_matrix f v (X (image d i s) (mul f.given (of_int f.given (eta i s)) t) ∷ (N i ∷ [])))
        → (t : ℕ) → IsElem (field_ring f) t → word_matrix f v (N i ∷ (X s t ∷ [])) ≡ word_matrix f v (X (image d i s) (mul f.given (of_int f.given (eta i s)) t) ∷ (N i ∷ []))
    s7-everywhere i s units zero p =
        letter-same (N i) (X s 0 ∷ []) [] (zero-letter s 0 [] refl)
        ∙ sym (zero-letter (image d i s) (mul f.given (of_int f.given (eta i s)) 0) (N i ∷ []) (mul_zero (field_ring f) (field_is_ring f).laws (of_int f.given (eta i s)) ((field_is_ring f).integers.int_elem (eta i s))))
    s7-everywhere i s units (suc t) p = units (suc t) (λ e. absurd (omega (arith, e))) p
