-- The relations of torus letters, S0, S3 and S4, on a graded module.
use Rattle.std.specs.Ordering.{int_eq}
use Rattle.std.proofs.Common.{◌≡◌, ◌≢◌, ℕ, zero, suc, ◌<◌, ◌≤◌, ℤ, pos, List, [], ◌∷◌, length, replicate, cond, eqb, true, false, Bool, refl, sym, ap, ap₂, ◌∙◌, subst, arith, inl, inr, get_or}
use Rattle.std.proofs.lemmas.Bool.{eq-eqb, ne_eqb, lt-ltb, cases_eq}
use Rattle.std.proofs.lemmas.Bool.Decides.{Decides-int_eq}
use Rattle.lie_base.specs.Below.{is_below}
use Rattle.lie_ring.specs.Rings.{IsElem, sum_below}
use Rattle.lie_ring.specs.Powers.{power}
use Rattle.lie_ring.specs.RingLemmas.{zero_mul, mul_zero, add_mul, mul_middle, int_zero}
use Rattle.lie_ring.specs.SumLemmas.{sum-same, sum-mul, mul-sum, sum-elem}
use Rattle.lie_ring.specs.Matrices.{entry, product, identity}
use Rattle.lie_ring.specs.MatrixLemmas.{entry-table, table-same, matrix-same}
use Rattle.lie_field.specs.FiniteField.{FiniteField}
use Rattle.lie_field.specs.FieldRing.{field_ring, field_is_ring}
use Rattle.lie_field.specs.Quotient.{order, mul, of_int}
use Rattle.lie_field.specs.Elements.{NonZero, unit_one}
use Rattle.lie_datum.specs.Vectors.{Vector, times}
use Rattle.lie_datum.specs.RootDatum.{vector}
use Rattle.lie_datum.specs.RootList.{RootDatum, IsNumber, root_of}
use Rattle.lie_const.specs.Modules.{Module, dimension, top, divided_power, root_element, root_element_entry}
use Rattle.lie_letters.specs.declared.letter.Letter.TheVariants.{X, H}
use Rattle.lie_letters.specs.Entries.{character, AreUnits}
use Rattle.lie_letters.specs.Torus.{each_mul}
use Rattle.lie_letters.specs.Characters.{monomial}
use Rattle.lie_letters.specs.Spelled.{numbers}
use Rattle.lie_letters.proofs.CharacterLemmas.{monomial-number}
use Rattle.lie_identities.specs.Audit.{IsGraded}
use Rattle.lie_identities.proofs.FactorLemmas.{power-elem, cond-elem, step-elem}
use Rattle.lie_audit.specs.WordMatrix.{word_matrix, torus_element, weight_value}
use Rattle.lie_audit.proofs.WordMatrixLemmas.{one-behind, one-before, one-square, root-square, torus-square, square-times}
use Rattle.lie_audit.proofs.CharacterValues.{one-one, character_elem, character-plus, character-times, character-ones, character-each}
use Rattle.lie_audit.proofs.GradedWeights.{raised}
use Rattle.lie_audit.proofs.Diagonals.{diagonal-before, diagonal-behind}

module _ (f : FiniteField) where
  module _ (d : RootDatum) (v : Module) (graded : IsGraded d v) (t : List ℕ) (units : AreUnits f t) (r : ℤ) (number : IsNumber d r) (a : ℕ) (value : IsElem (field_ring f) a) where
    -- the value of a weight, and of the root
    abbrev g : ℕ → ℕ
    g i = weight_value f v t i

    abbrev rho : ℕ
    rho = character f t (vector d.base (root_of d r))

    -- both are elements
    g-elem : (i : ℕ) → IsElem (field_ring f) (g i)
    g-elem i = character_elem f t (get_or v.weights i []) units

    rho-elem : IsElem (field_ring f) rho
    rho-elem = character_elem f t (vector d.base (root_of d r)) units

    -- (r(t) a)^k
    product_power : (k : ℕ) → power (field_ring f) (mul f.given rho a) k ≡ mul f.given (power (field_ring f) rho k) (power (field_ring f) a k)
    product_power zero = sym (one-one f)
    product_power (suc k) =
        ap (λ x. mul f.given x (mul f.given rho a)) (product_power k)
        ∙ mul_middle (field_ring f) (field_is_ring f).laws (power (field_ring f) rho k) (power (field_ring f) a k) rho a (power-elem (field_ring f) (field_is_ring f) rho k rho-elem) (power-elem (field_ring f) (field_is_ring f) a k value) rho-elem value

    -- a term of the entries of both products
    term-same : (k i j : ℕ) → 1 ≤ k → i < dimension v → j < dimension v →
        mul f.given (g i) (mul f.given (power (field_ring f) a k) (of_int f.given (entry (pos 0) (divided_power v r k) i j)))
        ≡ mul f.given (mul f.given (power (field_ring f) (mul f.given rho a) k) (of_int f.given (entry (pos 0) (divided_power v r k) i j))) (g j)
    term-same k i j one p q = by_test (int_eq n (pos 0)) refl
      where
        n : ℤ
        n = entry (pos 0) (divided_power v r k) i j

        ak : ℕ
        ak = power (field_ring f) a k

        rk : ℕ
        rk = power (field_ring f) rho k

        by_test : (b : Bool) → int_eq n (pos 0) ≡ b → mul f.given (g i) (mul f.given (power (field_ring f) a k) (of_int f.given n)) ≡ mul f.given (mul f.given (power (field_ring f) (mul f.given rho a) k) (of_int f.given n)) (g j)
        by_test true e =
            let laws = (field_is_ring f).laws in
            let none : of_int f.given n ≡ 0 = ap (of_int f.given) ((Decides-int_eq n (pos 0)).0 e) ∙ int_zero (field_ring f) (field_is_ring f) in
            let pa = power-elem (field_ring f) (field_is_ring f) a k value in
            let pb = power-elem (field_ring f) (field_is_ring f) (mul f.given rho a) k (laws.mul_elem rho a rho-elem value) in
            ap (λ x. mul f.given (g i) (mul f.given (power (field_ring f) a k) x)) none
            ∙ ap (mul f.given (g i)) (mul_zero (field_ring f) laws (power (field_ring f) a k) pa) ∙ mul_zero (field_ring f) laws (g i) (g-elem i)
            ∙ sym (ap (λ x. mul f.given (mul f.given (power (field_ring f) (mul f.given rho a) k) x) (g j)) none
            ∙ ap (λ x. mul f.given x (g j)) (mul_zero (field_ring f) laws (power (field_ring f) (mul f.given rho a) k) pb) ∙ zero_mul (field_ring f) laws (g j) (g-elem j))
        by_test false e =
            let laws = (field_is_ring f).laws in
            let x = of_int f.given n in
            let px = (field_is_ring f).integers.int_elem n in
            let pa = power-elem (field_ring f) (field_is_ring f) a k value in
            let pr = power-elem (field_ring f) (field_is_ring f) rho k rho-elem in
            let some : n ≢ pos 0 = λ h. (let t = (Decides-int_eq n (pos 0)).1 h in true_false (sym t ∙ e)) in
            let raised : g i ≡ mul f.given (g j) (power (field_ring f) rho k) =
            ap (character f t) (raised d v graded r number k i j one p q some)
            ∙ character-plus f t (get_or v.weights j []) (times (pos k) (vector d.base (root_of d r))) units
            ∙ ap (mul f.given (g j)) (character-times f t (vector d.base (root_of d r)) k units) in
            ap (λ y. mul f.given y (mul f.given (power (field_ring f) a k) x)) raised
            ∙ laws.mul_assoc (g j) (power (field_ring f) rho k) (mul f.given (power (field_ring f) a k) x) (g-elem j) pr (laws.mul_elem _ _ pa px)
            ∙ ap (mul f.given (g j)) (sym (laws.mul_assoc (power (field_ring f) rho k) (power (field_ring f) a k) x pr pa px))
            ∙ laws.mul_comm (g j) (mul f.given (mul f.given (power (field_ring f) rho k) (power (field_ring f) a k)) x) (g-elem j) (laws.mul_elem _ _ (laws.mul_elem _ _ pr pa) px)
            ∙ ap (λ y. mul f.given (mul f.given y x) (g j)) (sym (product_power k))
          where
            true_false : ¬ (true ≡ false)
            true_false e = cc

    -- the diagonal of 1
    unit-same : (i j : ℕ) → mul f.given (g i) (cond (eqb i j) 1 0) ≡ mul f.given (cond (eqb i j) 1 0) (g j)
    unit-same i j = elim (cases_eq i j) [
      | inl e ↦
          ap (λ b. mul f.given (g i) (cond b 1 0)) (eq-eqb i j e) ∙ (field_is_ring f).laws.mul_comm (g i) 1 (g-elem i) (field_is_ring f).laws.one_elem
          ∙ ap (λ k. mul f.given 1 (g k)) e ∙ ap (λ b. mul f.given (cond b 1 0) (g j)) (sym (eq-eqb i j e))
      | inr h ↦
          ap (λ b. mul f.given (g i) (cond b 1 0)) (ne_eqb i j h) ∙ mul_zero (field_ring f) (field_is_ring f).laws (g i) (g-elem i)
          ∙ sym (ap (λ b. mul f.given (cond b 1 0) (g j)) (ne_eqb i j h) ∙ zero_mul (field_ring f) (field_is_ring f).laws (g j) (g-elem j))
    ]

    -- the entries of both products
    pub entries-same : (i j : ℕ) → i < dimension v → j < dimension v → mul f.given (g i) (root_element_entry (field_ring f) v r a i j) ≡ mul f.given (root_element_entry (field_ring f) v r (mul f.given rho a) i j) (g j)
    entries-same i j p q =
        let laws = (field_is_ring f).laws in
        let ra = mul f.given rho a in
        let pra = laws.mul_elem rho a rho-elem value in
        let m = top v r in
        let T = λ (k : ℕ). mul f.given (power (field_ring f) a (suc k)) (of_int f.given (entry (pos 0) (divided_power v r (suc k)) i j)) in
        let U = λ (k : ℕ). mul f.given (power (field_ring f) ra (suc k)) (of_int f.given (entry (pos 0) (divided_power v r (suc k)) i j)) in
        let pt = λ (k : ℕ) (c : k < m). step-elem (field_ring f) (field_is_ring f) v r a i j k value in
        let pu = λ (k : ℕ) (c : k < m). step-elem (field_ring f) (field_is_ring f) v r ra i j k pra in
        let one = cond-elem (field_ring f) (field_is_ring f) (eqb i j) 1 0 laws.one_elem laws.zero_elem in
        laws.mul_add (g i) (cond (eqb i j) 1 0) (sum_below (field_ring f) m T) (g-elem i) one (sum-elem (field_ring f) laws m T pt)
        ∙ ap₂ (field_ring f).add (unit-same i j)
        (mul-sum (field_ring f) laws m (g i) T (g-elem i) pt
        ∙ sum-same (field_ring f) m _ _ (λ k c. term-same (suc k) i j (omega arith) p q)
        ∙ sym (sum-mul (field_ring f) laws m U (g j) (g-elem j) pu))
        ∙ sym (add_mul (field_ring f) laws (cond (eqb i j) 1 0) (sum_below (field_ring f) m U) (g j) one (sum-elem (field_ring f) laws m U pu) (g-elem j))

    -- S4: a torus letter passes a root letter
    pub s4-holds : word_matrix f v (H t ∷ (X r a ∷ [])) ≡ word_matrix f v (X r (mul f.given rho a) ∷ (H t ∷ []))
    unfolding torus_element root_element
    s4-holds =
        let n = dimension v in
        let D = torus_element f v t in
        let Xa = root_element (field_ring f) v r a in
        let Xb = root_element (field_ring f) v r (mul f.given rho a) in
        let sd = torus-square f v t in
        let sa = root-square f v r a in
        let sb = root-square f v r (mul f.given rho a) in
        let left = square-times f n D Xa sd sa in
        let right = square-times f n Xb D sb sd in
        ap (product (field_ring f) D) (one-behind f v Xa sa)
        ∙ matrix-same 0 (product (field_ring f) D Xa) (product (field_ring f) Xb D) left.shaped right.shaped (left.height ∙ sym right.height) (left.width ∙ sym right.width) (λ i j p q.
        let pi : i < n = omega (arith, p, left.height) in
        let pj : j < n = omega (arith, q, left.width) in
        diagonal-before f n g g-elem Xa i j sa.height sa.elem pi (omega (arith, pj, sa.width))
        ∙ ap (mul f.given (g i)) (entry-table 0 n n (root_element_entry (field_ring f) v r a) i j pi pj)
        ∙ entries-same i j pi pj
        ∙ ap (λ x. mul f.given x (g j)) (sym (entry-table 0 n n (root_element_entry (field_ring f) v r (mul f.given rho a)) i j pi pj))
        ∙ sym (diagonal-behind f n g g-elem Xb i j sb.width sb.elem (omega (arith, pi, sb.height)) pj))
        ∙ sym (ap (product (field_ring f) Xb) (one-behind f v D sd))

module _ (f : FiniteField) (v : Module) where
  -- h(1, .., 1) is 1
  pub ones-identity : (n : ℕ) → torus_element f v (numbers f (replicate n (unit_one f))) ≡ identity (field_ring f) (dimension v)
  unfolding torus_element
  ones-identity n = table-same (dimension v) (dimension v) _ (λ i j. cond (eqb i j) 1 0) (λ i j _ _. ap (λ a. cond (eqb i j) a 0) (character-ones f n (get_or v.weights i [])))

  -- S0: the letter h(1, .., 1) stands for the empty word
  pub s0-torus-holds : (n : ℕ) → word_matrix f v (H (numbers f (replicate n (unit_one f))) ∷ []) ≡ word_matrix f v []
  s0-torus-holds n =
      ap (λ M. product (field_ring f) M (identity (field_ring f) (dimension v))) (ones-identity n)
      ∙ one-before f v (identity (field_ring f) (dimension v)) (one-square f v)

  -- h(t) h(u) = h(tu)
  pub s3-holds : (t u : List (NonZero f)) → length t ≡ length u → word_matrix f v (H (numbers f t) ∷ (H (numbers f u) ∷ [])) ≡ word_matrix f v (H (numbers f (each_mul f t u)) ∷ [])
  unfolding torus_element
  s3-holds t u e =
      let n = dimension v in
      let D = torus_element f v (numbers f t) in
      let E = torus_element f v (numbers f u) in
      let G = torus_element f v (numbers f (each_mul f t u)) in
      let g = weight_value f v (numbers f t) in
      let h = weight_value f v (numbers f u) in
      let sd = torus-square f v (numbers f t) in
      let se = torus-square f v (numbers f u) in
      let sg = torus-square f v (numbers f (each_mul f t u)) in
      let left = square-times f n D E sd se in
      let g-elem = λ (i : ℕ). value-elem t (get_or v.weights i []) in
      ap (product (field_ring f) D) (one-behind f v E se)
      ∙ matrix-same 0 (product (field_ring f) D E) G left.shaped sg.shaped (left.height ∙ sym sg.height) (left.width ∙ sym sg.width) (λ i j p q.
      let pi : i < n = omega (arith, p, left.height) in
      let pj : j < n = omega (arith, q, left.width) in
      diagonal-before f n g g-elem E i j se.height se.elem pi (omega (arith, pj, se.width))
      ∙ ap (mul f.given (g i)) (entry-table 0 n n (λ i j. cond (eqb i j) (h i) 0) i j pi pj)
      ∙ inside (eqb i j) (g i) (h i) (g-elem i)
      ∙ ap (λ x. cond (eqb i j) x 0) (sym (character-each f t u (get_or v.weights i []) e))
      ∙ sym (entry-table 0 n n (λ i j. cond (eqb i j) (weight_value f v (numbers f (each_mul f t u)) i) 0) i j pi pj))
      ∙ sym (one-behind f v G sg)
    where
      value-elem : (t : List (NonZero f)) (x : Vector) → IsElem (field_ring f) (character f (numbers f t) x)
      value-elem t x = subst (IsElem (field_ring f)) (monomial-number f t x) (lt-ltb _ (order f.given) (is_below (order f.given) (monomial f t x).element))

      inside : (b : Bool) (x z : ℕ) → IsElem (field_ring f) x → mul f.given x (cond b z 0) ≡ cond b (mul f.given x z) 0
      inside true x z p = refl
      inside false x z p = mul_zero (field_ring f) (field_is_ring f).laws x p
