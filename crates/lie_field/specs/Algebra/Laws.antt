-- The laws of a commutative ring with one, for the numbers below q.
-- For proofs: no public clause cites it.
use Rattle.std.proofs.Common.{◌≡◌, ℕ, ◌+◌, ◌-◌, ◌%◌, ◌^◌, ◌<◌, List, [], ◌∷◌, length, replicate, take, get_or, refl, sym, ap, ◌∙◌, arith}
use Rattle.std.proofs.Math.Nat.{zero-mod, le_of_eq}
use Rattle.std.proofs.lemmas.List.{length-replicate}
use Rattle.lie_field.specs.Polynomials.{plus, scale, times, residues, number, digits}
use Rattle.lie_field.specs.Quotient.{FieldData, degree, order, leading, shift, remainder, element, polynomial, add, mul, neg, IsRingData}
use Rattle.lie_field.specs.Algebra.Lists.{plus_comm, plus_assoc, plus2, plus-zeros, add-scale, one-scale, residues_plus, residues_scale, residue_scale, residues_whole, take-residues, residues-cons, get_or-residues, length-residues, length-scale, length-plus, scale-zeros, zero-scale, residues-zeros}
use Rattle.lie_field.specs.Algebra.Shifts.{act, act-plus, act-scale, act_length, remainder_length, remainder_short, remainder_padded, remainder-scale, remainder-plus, remainder-times, times_comm, times_assoc, act_one}
use Rattle.lie_field.specs.Algebra.Digits.{length-digits, digits-number, number-digits, residues-digits, number_below, number-zeros, digits-zero, digits-one}

module _ (f : FieldData) where
  -- a sum of residues has the residues of the sum
  pub residues2 : (u v : List ℕ) → residues f.p (plus (residues f.p u) (residues f.p v)) ≡ residues f.p (plus u v)
  residues2 u v =
      residues_plus f.p (residues f.p u) v ∙ ap (residues f.p) (plus_comm (residues f.p u) v) ∙ residues_plus f.p v u ∙ ap (residues f.p) (plus_comm v u)

  -- congruent lists have congruent multiples by x
  pub residues_shift : (v : List ℕ) → residues f.p (shift f (residues f.p v)) ≡ residues f.p (shift f v)
  unfolding shift
  residues_shift v =
      let p = f.p in
      let k = degree f in
      let n = leading f in
      let c = get_or v (k - 1) 0 in
      let t : take k (0 ∷ residues p v) ≡ residues p (take k (0 ∷ v)) =
      ap (λ z. take k (z ∷ residues p v)) (sym (zero-mod p)) ∙ ap (take k) (sym (residues-cons p 0 v)) ∙ take-residues k p (0 ∷ v)
      in
      ap (λ x. residues p (plus x (scale (get_or (residues p v) (k - 1) 0) n))) t
      ∙ ap (λ y. residues p (plus (residues p (take k (0 ∷ v))) (scale y n))) (get_or-residues p v (k - 1))
      ∙ sym (residues_plus p (residues p (take k (0 ∷ v))) (scale (c % p) n))
      ∙ ap (λ y. residues p (plus (residues p (take k (0 ∷ v))) y)) (residue_scale p c n)
      ∙ residues2 (take k (0 ∷ v)) (scale c n)

  -- congruent polynomials have congruent multiples
  pub residues_act : (u w : List ℕ) → residues f.p (act f u (residues f.p w)) ≡ residues f.p (act f u w)
  residues_act [] w = residues_scale f.p 0 w
  residues_act (a ∷ u) w =
      let p = f.p in
      sym (residues2 (scale a (residues p w)) (shift f (act f u (residues p w))))
      ∙ ap (λ y. residues p (plus y (residues p (shift f (act f u (residues p w)))))) (residues_scale p a w)
      ∙ ap (λ y. residues p (plus (residues p (scale a w)) y))
      (sym (residues_shift (act f u (residues p w))) ∙ ap (λ z. residues p (shift f z)) (residues_act u w) ∙ residues_shift (act f u w))
      ∙ residues2 (scale a w) (shift f (act f u w))

  module _ (d : IsRingData f) where
    -- p is positive
    p_pos : 0 < f.p
    p_pos = let h = d.p_large in omega arith

    -- the polynomial of an element is the remainder, modulo p
    polynomial-element : (v : List ℕ) → polynomial f (element f v) ≡ residues f.p (remainder f v)
    unfolding element
    polynomial-element v =
        let p = f.p in
        let r = remainder f v in
        ap (λ k. digits p k (number p (residues p r))) (sym (remainder_length f v d.has_degree))
        ∙ digits-number p p_pos r

    -- an element is the number of a remainder
    pub element-is : (v : List ℕ) → element f v ≡ number f.p (residues f.p (remainder f v))
    unfolding element
    element-is v = refl

    -- the remainder of the polynomial of an element
    remainder-polynomial : (v : List ℕ) → remainder f (polynomial f (element f v)) ≡ residues f.p (remainder f v)
    remainder-polynomial v =
        ap (remainder f) (polynomial-element v)
        ∙ remainder_short f (residues f.p (remainder f v)) (length-residues f.p (remainder f v) ∙ remainder_length f v d.has_degree)

    -- an element is below q
    pub element_below : (v : List ℕ) → element f v < order f
    unfolding order
    element_below v =
        rw (element-is v) (let n : number f.p (residues f.p (remainder f v)) < f.p ^ degree f =
        rw (← remainder_length f v d.has_degree) (number_below f.p p_pos (remainder f v)) in n)

    -- sums and products of elements are those of the polynomials
    pub element-plus : (u v : List ℕ) → element f (plus u (polynomial f (element f v))) ≡ element f (plus u v)
    element-plus u v =
        let p = f.p in
        element-is (plus u (polynomial f (element f v)))
        ∙ ap (number p) (
        ap (residues p) (remainder-plus f d.has_degree u (polynomial f (element f v)) ∙ ap (plus (remainder f u)) (remainder-polynomial v))
        ∙ residues_plus p (remainder f u) (remainder f v)
        ∙ ap (residues p) (sym (remainder-plus f d.has_degree u v)))
        ∙ sym (element-is (plus u v))

    -- and so for products
    pub element-times : (u v : List ℕ) → element f (times u (polynomial f (element f v))) ≡ element f (times u v)
    element-times u v =
        let p = f.p in
        element-is (times u (polynomial f (element f v)))
        ∙ ap (number p) (
        ap (residues p) (remainder-times f d.has_degree u (polynomial f (element f v)) ∙ ap (act f u) (remainder-polynomial v))
        ∙ residues_act u (remainder f v)
        ∙ ap (residues p) (sym (remainder-times f d.has_degree u v)))
        ∙ sym (element-is (times u v))

    -- polynomials with one remainder stand for one element
    pub element-same : (u v : List ℕ) → remainder f u ≡ remainder f v → element f u ≡ element f v
    element-same u v e = element-is u ∙ ap (λ r. number f.p (residues f.p r)) e ∙ sym (element-is v)

    -- the polynomial of an element stands for it
    pub element-polynomial : (a : ℕ) → a < order f → element f (polynomial f a) ≡ a
    unfolding order
    element-polynomial a h =
        element-is (polynomial f a)
        ∙ ap (λ r. number f.p (residues f.p r)) (remainder_short f (polynomial f a) (length-digits f.p (degree f) a))
        ∙ ap (number f.p) (residues-digits f.p (degree f) a)
        ∙ number-digits f.p p_pos (degree f) a h

    -- ---- the laws
    pub add_below : (a b : ℕ) → add f a b < order f
    unfolding add
    add_below a b = element_below (plus (polynomial f a) (polynomial f b))

    -- a product is an element
    pub mul_below : (a b : ℕ) → mul f a b < order f
    unfolding mul
    mul_below a b = element_below (times (polynomial f a) (polynomial f b))

    -- a negative is an element
    pub neg_below : (a : ℕ) → neg f a < order f
    unfolding neg
    neg_below a = element_below (scale (f.p - 1) (polynomial f a))

    -- sums are commutative
    pub add_comm : (a b : ℕ) → add f a b ≡ add f b a
    unfolding add
    add_comm a b = ap (element f) (plus_comm (polynomial f a) (polynomial f b))

    -- the sum with the element of a polynomial
    pub add_right : (a : ℕ) (v : List ℕ) → add f a (element f v) ≡ element f (plus (polynomial f a) v)
    unfolding add
    add_right a v = element-plus (polynomial f a) v

    -- the product with the element of a polynomial
    pub mul_right : (a : ℕ) (v : List ℕ) → mul f a (element f v) ≡ element f (times (polynomial f a) v)
    unfolding mul
    mul_right a v = element-times (polynomial f a) v

    -- sums are associative
    pub add_assoc : (a b c : ℕ) → add f (add f a b) c ≡ add f a (add f b c)
    unfolding add
    add_assoc a b c =
        let x = polynomial f a in
        let y = polynomial f b in
        let z = polynomial f c in
        add_comm (element f (plus x y)) c
        ∙ add_right c (plus x y)
        ∙ ap (element f) (plus_comm z (plus x y) ∙ plus_assoc x y z)
        ∙ sym (add_right a (plus y z))

    -- products are commutative
    pub mul_comm : (a b : ℕ) → mul f a b ≡ mul f b a
    unfolding mul
    mul_comm a b =
        element-same (times (polynomial f a) (polynomial f b)) (times (polynomial f b) (polynomial f a))
        (times_comm f d.has_degree (polynomial f a) (polynomial f b))

    -- products are associative
    pub mul_assoc : (a b c : ℕ) → mul f (mul f a b) c ≡ mul f a (mul f b c)
    unfolding mul
    mul_assoc a b c =
        let x = polynomial f a in
        let y = polynomial f b in
        let z = polynomial f c in
        mul_comm (element f (times x y)) c
        ∙ mul_right c (times x y)
        ∙ element-same (times z (times x y)) (times x (times y z))
        (times_comm f d.has_degree z (times x y) ∙ times_assoc f d.has_degree x y z)
        ∙ sym (mul_right a (times y z))

    -- products distribute over sums
    pub mul-add : (a b c : ℕ) → mul f a (add f b c) ≡ add f (mul f a b) (mul f a c)
    unfolding mul add
    mul-add a b c =
        let x = polynomial f a in
        let y = polynomial f b in
        let z = polynomial f c in
        mul_right a (plus y z)
        ∙ element-same (times x (plus y z)) (plus (times x y) (times x z)) (
        remainder-times f d.has_degree x (plus y z)
        ∙ ap (act f x) (remainder-plus f d.has_degree y z)
        ∙ act-plus f x (remainder f y) (remainder f z)
        ∙ plus2 (sym (remainder-times f d.has_degree x y)) (sym (remainder-times f d.has_degree x z))
        ∙ sym (remainder-plus f d.has_degree (times x y) (times x z)))
        ∙ ap (element f) (plus_comm (times x y) (times x z))
        ∙ sym (element-plus (times x z) (times x y))
        ∙ ap (element f) (plus_comm (times x z) (polynomial f (element f (times x y))))
        ∙ sym (element-plus (polynomial f (element f (times x y))) (times x z))

    -- 0 is neutral for sums
    pub add_zero : (a : ℕ) → a < order f → add f a 0 ≡ a
    unfolding add
    add_zero a h =
        ap (λ z. element f (plus (polynomial f a) z)) (digits-zero f.p (degree f) p_pos)
        ∙ ap (element f) (plus-zeros (degree f) (polynomial f a) (le_of_eq (sym (length-digits f.p (degree f) a))))
        ∙ element-polynomial a h

    -- 1 is neutral for products
    pub mul_one : (a : ℕ) → a < order f → mul f a 1 ≡ a
    unfolding mul
    mul_one a h =
        let x = polynomial f a in
        let k = degree f in
        let e : 1 + (k - 1) ≡ k = let l = d.has_degree in omega arith in
        let one_is : polynomial f 1 ≡ remainder f (1 ∷ []) =
        digits-one f.p k d.p_large d.has_degree ∙ sym (remainder_padded f (1 ∷ []) (k - 1) e) in
        let keeps : remainder f (polynomial f 1) ≡ remainder f (1 ∷ []) =
        remainder_short f (polynomial f 1) (length-digits f.p k 1) ∙ one_is in
        element-same (times x (polynomial f 1)) x
        (remainder-times f d.has_degree x (polynomial f 1) ∙ ap (act f x) keeps ∙ act_one f d.has_degree x)
        ∙ element-polynomial a h

    -- an element and its negative sum to 0
    pub add_neg : (a : ℕ) → add f a (neg f a) ≡ 0
    unfolding neg
    add_neg a =
        let x = polynomial f a in
        let p = f.p in
        let e : p ≡ 1 + (p - 1) = let h = d.p_large in omega arith in
        add_right a (scale (p - 1) x)
        ∙ ap (λ y. element f (plus y (scale (p - 1) x))) (sym (one-scale x))
        ∙ ap (element f) (sym (add-scale 1 (p - 1) x) ∙ ap (λ c. scale c x) (sym e))
        ∙ element-is (scale p x)
        ∙ ap (λ r. number p (residues p r)) (remainder-scale f d.has_degree p x)
        ∙ ap (number p) (residues_whole p (remainder f x))
        ∙ number-zeros p (length (remainder f x))

    -- a product with 0 is 0
    pub mul_zero : (a : ℕ) → mul f a 0 ≡ 0
    unfolding mul
    mul_zero a =
        let x = polynomial f a in
        let p = f.p in
        let k = degree f in
        let zeros = replicate {A = ℕ} k 0 in
        let act_zeros : act f x zeros ≡ zeros =
        ap (act f x) (sym (scale-zeros 0 k)) ∙ act-scale f x 0 zeros ∙ zero-scale (act f x zeros)
        ∙ ap (λ n. replicate n 0) (act_length f x zeros (length-replicate k 0)) in
        ap (λ z. element f (times x z)) (digits-zero p k p_pos)
        ∙ element-is (times x zeros)
        ∙ ap (λ r. number p (residues p r)) (
        remainder-times f d.has_degree x zeros
        ∙ ap (act f x) (remainder_short f zeros (length-replicate k 0))
        ∙ act_zeros)
        ∙ ap (number p) (residues-zeros p k)
        ∙ number-zeros p k

    -- and so on the left
    pub zero_mul : (a : ℕ) → mul f 0 a ≡ 0
    zero_mul a = mul_comm 0 a ∙ mul_zero a

    -- sums and multiples of digits need no remainder
    pub add-digits : (a b : ℕ) → number f.p (residues f.p (plus (digits f.p (degree f) a) (digits f.p (degree f) b))) ≡ add f a b
    unfolding add
    add-digits a b =
        let x = polynomial f a in
        let y = polynomial f b in
        let long : length (plus x y) ≡ degree f =
        length-plus x y (le_of_eq (length-digits f.p (degree f) a ∙ sym (length-digits f.p (degree f) b))) ∙ length-digits f.p (degree f) b in
        ap (λ r. number f.p (residues f.p r)) (sym (remainder_short f (plus x y) long)) ∙ sym (element-is (plus x y))

    -- and so for negatives
    pub neg-digits : (a : ℕ) → number f.p (residues f.p (scale (f.p - 1) (digits f.p (degree f) a))) ≡ neg f a
    unfolding neg
    neg-digits a =
        let x = polynomial f a in
        let long : length (scale (f.p - 1) x) ≡ degree f = length-scale (f.p - 1) x ∙ length-digits f.p (degree f) a in
        ap (λ r. number f.p (residues f.p r)) (sym (remainder_short f (scale (f.p - 1) x) long)) ∙ sym (element-is (scale (f.p - 1) x))
