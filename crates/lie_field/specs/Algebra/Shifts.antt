-- Multiplication by x is linear, so multiplication of polynomials modulo f is commutative and associative.
-- For proofs: no public clause cites it.
use Rattle.std.proofs.Common.{◌≡◌, ℕ, suc, ◌+◌, ◌-◌, ◌*◌, ◌≤◌, List, [], ◌∷◌, ◌++◌, length, take, get_or, replicate, sym, ap, ◌∙◌, arith, min}
use Rattle.std.proofs.lemmas.List.{length-replicate, length-take, length-map}
use Rattle.std.proofs.Math.Nat.{add-zero, zero-add, mul-zero, mul-one, le_of_eq, min-le_left}
use Rattle.lie_field.specs.Polynomials.{plus, scale, times}
use Rattle.lie_field.specs.Quotient.{FieldData, degree, leading, shift, remainder}
use Rattle.lie_field.specs.Algebra.Lists.{plus_assoc, plus_swap, scale-plus, scale-scale, scale_comm, add-scale, zero-scale, take-plus, take-scale, get_or-plus, get_or-scale, length-scale, length-plus, plus-zeros, zeros-plus, scale-zeros, plus2, padded-take, padded-get, length-padded, append-nil}

-- the polynomial u at "times x", applied to w
abbrev pub act : FieldData → List ℕ → List ℕ → List ℕ
act f [] w = scale 0 w
act f (a ∷ u) w = plus (scale a w) (shift f (act f u w))

module _ (f : FieldData) where
  -- x times a sum
  pub shift-plus : (u v : List ℕ) → shift f (plus u v) ≡ plus (shift f u) (shift f v)
  unfolding shift
  shift-plus u v =
      let k = degree f in
      let n = leading f in
      plus2
      (take-plus k (0 ∷ u) (0 ∷ v))
      (ap (λ c. scale c n) (get_or-plus u v (k - 1)) ∙ add-scale (get_or u (k - 1) 0) (get_or v (k - 1) 0) n)
      ∙ plus_swap (take k (0 ∷ u)) (take k (0 ∷ v)) (scale (get_or u (k - 1) 0) n) (scale (get_or v (k - 1) 0) n)

  -- x times a multiple
  pub shift-scale : (c : ℕ) (v : List ℕ) → shift f (scale c v) ≡ scale c (shift f v)
  unfolding shift
  shift-scale c v =
      let k = degree f in
      let n = leading f in
      plus2
      (ap (λ z. take k (z ∷ scale c v)) (sym (mul-zero c)) ∙ take-scale k c (0 ∷ v))
      (ap (λ a. scale a n) (get_or-scale c v (k - 1)) ∙ sym (scale-scale c (get_or v (k - 1) 0) n))
      ∙ sym (scale-plus c (take k (0 ∷ v)) (scale (get_or v (k - 1) 0) n))

  -- a polynomial times a sum
  pub act-plus : (a u v : List ℕ) → act f a (plus u v) ≡ plus (act f a u) (act f a v)
  act-plus [] u v = scale-plus 0 u v
  act-plus (c ∷ a) u v =
      plus2 (scale-plus c u v) (ap (shift f) (act-plus a u v) ∙ shift-plus (act f a u) (act f a v))
      ∙ plus_swap (scale c u) (scale c v) (shift f (act f a u)) (shift f (act f a v))

  -- a polynomial times a multiple
  pub act-scale : (a : List ℕ) (c : ℕ) (v : List ℕ) → act f a (scale c v) ≡ scale c (act f a v)
  act-scale [] c v = scale_comm 0 c v
  act-scale (d ∷ a) c v =
      plus2 (scale_comm d c v) (ap (shift f) (act-scale a c v) ∙ shift-scale c (act f a v))
      ∙ sym (scale-plus c (scale d v) (shift f (act f a v)))

  -- a polynomial times x times v
  pub act-shift : (a v : List ℕ) → act f a (shift f v) ≡ shift f (act f a v)
  act-shift [] v = sym (shift-scale 0 v)
  act-shift (c ∷ a) v =
      plus2 (sym (shift-scale c v)) (ap (shift f) (act-shift a v))
      ∙ sym (shift-plus (scale c v) (shift f (act f a v)))

  -- what acts as a passes what acts as u: both are sums of powers of "times x"
  pub act_past : (a u w : List ℕ) → act f a (act f u w) ≡ act f u (act f a w)
  act_past a [] w = act-scale a 0 w
  act_past a (c ∷ u) w =
      act-plus a (scale c w) (shift f (act f u w))
      ∙ plus2 (act-scale a c w) (act-shift a (act f u w) ∙ ap (shift f) (act_past a u w))

  -- x^k has k coefficients
  pub leading_length : length (leading f) ≡ degree f
  unfolding leading degree
  leading_length = length-map f.coefficients (λ c. f.p - c)

  -- x times a polynomial has k coefficients
  pub shift_length : (v : List ℕ) → length (shift f v) ≡ degree f
  unfolding shift
  shift_length v =
      let k = degree f in
      let c = get_or v (k - 1) 0 in
      let e : length (scale c (leading f)) ≡ k = length-scale c (leading f) ∙ leading_length in
      let m : min k (length (0 ∷ v)) ≤ k = min-le_left k (length (0 ∷ v)) in
      let t : length (take k (0 ∷ v)) ≤ length (scale c (leading f)) = rw (length-take k (0 ∷ v), e) m in
      length-plus (take k (0 ∷ v)) (scale c (leading f)) t ∙ e

  -- a product has k coefficients
  pub act_length : (u w : List ℕ) → length w ≡ degree f → length (act f u w) ≡ degree f
  act_length [] w h = length-scale 0 w ∙ h
  act_length (c ∷ u) w h =
      let s = shift_length (act f u w) in
      length-plus (scale c w) (shift f (act f u w)) (le_of_eq (length-scale c w ∙ h ∙ sym s)) ∙ s

  -- a remainder has k coefficients
  pub remainder_length : (v : List ℕ) → 1 ≤ degree f → length (remainder f v) ≡ degree f
  remainder_length [] h = length-replicate (degree f) 0
  remainder_length (a ∷ v) h =
      let s = shift_length (remainder f v) in
      length-plus (a ∷ []) (shift f (remainder f v)) (let g : 1 ≤ length (shift f (remainder f v)) = rw s h in g) ∙ s

  -- x times 0 is 0
  shift-zeros : shift f (replicate (degree f) 0) ≡ replicate (degree f) 0
  shift-zeros =
      let z = replicate (degree f) 0 in
      ap (shift f) (sym (scale-zeros 0 (degree f))) ∙ shift-scale 0 z ∙ zero-scale (shift f z) ∙ ap (λ n. replicate n 0) (shift_length z)

  -- x times a polynomial of low degree moves its coefficients up
  shift_padded : (v : List ℕ) (j : ℕ) → suc (length v + j) ≡ degree f → shift f (v ++ replicate (suc j) 0) ≡ 0 ∷ (v ++ replicate j 0)
  unfolding shift
  shift_padded v j e =
      let m = length v + j in
      let w = v ++ replicate (suc j) 0 in
      let n = leading f in
      let one_less : suc m - 1 ≡ m = omega arith in
      let long : length (0 ∷ (v ++ replicate j 0)) ≡ degree f = ap suc (length-padded v j) ∙ e in
      ap (λ k. plus (take k (0 ∷ w)) (scale (get_or w (k - 1) 0) n)) (sym e)
      ∙ plus2
      (ap (λ y. 0 ∷ y) (padded-take v j))
      (ap (λ i. scale (get_or w i 0) n) one_less ∙ ap (λ c. scale c n) (padded-get v (suc j) j) ∙ zero-scale n ∙ ap (λ k. replicate k 0) leading_length)
      ∙ plus-zeros (degree f) (0 ∷ (v ++ replicate j 0)) (le_of_eq (sym long))

  -- a polynomial of degree below k is its own remainder, but for zeros
  pub remainder_padded : (v : List ℕ) (j : ℕ) → length v + j ≡ degree f → remainder f v ≡ v ++ replicate j 0
  remainder_padded [] j e = ap (λ k. replicate k 0) (sym e ∙ zero-add j)
  remainder_padded (a ∷ v) j e =
      let e1 : length v + suc j ≡ degree f = omega (arith, e) in
      let e2 : suc (length v + j) ≡ degree f = omega (arith, e) in
      ap (λ r. plus (a ∷ []) (shift f r)) (remainder_padded v (suc j) e1)
      ∙ ap (plus (a ∷ [])) (shift_padded v j e2)
      ∙ ap (λ x. x ∷ (v ++ replicate j 0)) (add-zero a)

  -- a polynomial of degree below k is its own remainder
  pub remainder_short : (v : List ℕ) → length v ≡ degree f → remainder f v ≡ v
  remainder_short v e = remainder_padded v 0 (add-zero (length v) ∙ e) ∙ append-nil v

  module _ (h : 1 ≤ degree f) where
    -- the remainder of a sum
    pub remainder-plus : (u v : List ℕ) → remainder f (plus u v) ≡ plus (remainder f u) (remainder f v)
    remainder-plus [] v = sym (zeros-plus (degree f) (remainder f v) (le_of_eq (sym (remainder_length v h))))
    remainder-plus (a ∷ u) [] = sym (plus-zeros (degree f) (remainder f (a ∷ u)) (le_of_eq (sym (remainder_length (a ∷ u) h))))
    remainder-plus (a ∷ u) (b ∷ v) =
        ap (λ r. plus ((a + b) ∷ []) (shift f r)) (remainder-plus u v)
        ∙ ap (plus ((a + b) ∷ [])) (shift-plus (remainder f u) (remainder f v))
        ∙ plus_swap (a ∷ []) (b ∷ []) (shift f (remainder f u)) (shift f (remainder f v))

    -- the remainder of a multiple
    pub remainder-scale : (c : ℕ) (v : List ℕ) → remainder f (scale c v) ≡ scale c (remainder f v)
    remainder-scale c [] = sym (scale-zeros c (degree f))
    remainder-scale c (a ∷ v) =
        ap (λ r. plus ((c * a) ∷ []) (shift f r)) (remainder-scale c v)
        ∙ ap (plus ((c * a) ∷ [])) (shift-scale c (remainder f v))
        ∙ sym (scale-plus c (a ∷ []) (shift f (remainder f v)))

    -- the remainder of a product
    pub remainder-times : (u v : List ℕ) → remainder f (times u v) ≡ act f u (remainder f v)
    remainder-times [] v = sym (zero-scale (remainder f v) ∙ ap (λ n. replicate n 0) (remainder_length v h))
    remainder-times (a ∷ u) v =
        remainder-plus (scale a v) (0 ∷ times u v)
        ∙ plus2 (remainder-scale a v)
        (zeros-plus 1 (shift f (remainder f (times u v))) (let g : 1 ≤ length (shift f (remainder f (times u v))) = rw (shift_length (remainder f (times u v))) h in g)
        ∙ ap (shift f) (remainder-times u v))

    -- a polynomial times 1
    pub act_one : (v : List ℕ) → act f v (remainder f (1 ∷ [])) ≡ remainder f v
    act_one [] = zero-scale (remainder f (1 ∷ [])) ∙ ap (λ n. replicate n 0) (remainder_length (1 ∷ []) h)
    act_one (a ∷ v) =
        let r = shift f (remainder f v) in
        let z = replicate (degree f) 0 in
        let one_is : remainder f (1 ∷ []) ≡ plus (1 ∷ []) z = ap (plus (1 ∷ [])) shift-zeros in
        let left : scale a (remainder f (1 ∷ [])) ≡ plus (a ∷ []) z =
        ap (scale a) one_is ∙ scale-plus a (1 ∷ []) z ∙ plus2 (ap (λ x. x ∷ []) (mul-one a)) (scale-zeros a (degree f)) in
        plus2 left (ap (shift f) (act_one v))
        ∙ plus_assoc (a ∷ []) z r
        ∙ ap (plus (a ∷ [])) (zeros-plus (degree f) r (le_of_eq (sym (shift_length (remainder f v)))))

    -- products are commutative, modulo f
    pub times_comm : (u v : List ℕ) → remainder f (times u v) ≡ remainder f (times v u)
    times_comm u v =
        let one = remainder f (1 ∷ []) in
        remainder-times u v ∙ ap (act f u) (sym (act_one v)) ∙ act_past u v one ∙ ap (act f v) (act_one u) ∙ sym (remainder-times v u)

    -- products are associative, modulo f
    pub times_assoc : (u v w : List ℕ) → remainder f (times (times u v) w) ≡ remainder f (times u (times v w))
    times_assoc u v w =
        times_comm (times u v) w
        ∙ remainder-times w (times u v)
        ∙ ap (act f w) (remainder-times u v)
        ∙ act_past w u (remainder f v)
        ∙ ap (act f u) (sym (remainder-times w v) ∙ times_comm w v)
        ∙ sym (remainder-times u (times v w))
