-- Powers by integers.
-- For proofs: no public clause cites it.
use Rattle.std.proofs.Common.{◌≡◌, ℕ, zero, suc, ◌<◌, refl, sym, ap, ◌∙◌, arith}
use Rattle.std.specs.Prelude.{ℤ, pos, negsuc, ◌+ℤ◌}
use Rattle.std.proofs.lemmas.Int.{ints}
use Rattle.lie_field.specs.Quotient.{FieldData, order, mul, inv, power, power_int, IsFieldData}
use Rattle.lie_field.specs.Algebra.Laws.{mul_comm, mul_assoc, mul_one, mul_below}
use Rattle.lie_field.specs.Algebra.Powers.{one_below, power_below, mul-inv}

-- each power is an element
pub power_int-below : (f : FieldData) → IsFieldData f → (a : ℕ) (e : ℤ) → power_int f a e < order f
unfolding power_int
power_int-below f d a (pos n) = power_below f d.ring a n
power_int-below f d a (negsuc n) = power_below f d.ring (inv f a) (suc n)

module _ (f : FieldData) (d : IsFieldData f) (a : ℕ) (above : 0 < a) (small : a < order f) where
  -- one more in the exponent
  power_int-suc : (n : ℤ) → power_int f a (n +ℤ pos 1) ≡ mul f (power_int f a n) a
  unfolding power_int power
  power_int-suc (pos n) =
      let e : pos n +ℤ pos 1 ≡ pos (suc n) = omega (arith, ints) in
      ap (power_int f a) e
  power_int-suc (negsuc zero) =
      let r = d.ring in
      let b = inv f a in
      sym (mul_assoc f r 1 b a ∙ ap (mul f 1) (mul_comm f r b a ∙ mul-inv f d a above small) ∙ mul_one f r 1 (one_below f r))
  power_int-suc (negsuc (suc n)) =
      let r = d.ring in
      let b = inv f a in
      let x = power f b (suc n) in
      let e : negsuc (suc n) +ℤ pos 1 ≡ negsuc n = omega (arith, ints) in
      ap (power_int f a) e
      ∙ sym (mul_assoc f r x b a ∙ ap (mul f x) (mul_comm f r b a ∙ mul-inv f d a above small) ∙ mul_one f r x (power_below f r b (suc n)))

  -- a is cancelled
  cancel : (x y : ℕ) → x < order f → y < order f → mul f x a ≡ mul f y a → x ≡ y
  cancel x y p q e =
      let r = d.ring in
      let b = inv f a in
      let drop = λ (z : ℕ) (h : z < order f). mul_assoc f r z a b ∙ ap (mul f z) (mul-inv f d a above small) ∙ mul_one f r z h in
      sym (drop x p) ∙ ap (λ z. mul f z b) e ∙ drop y q

  -- the step from an exponent to the next
  add-step : (i j : ℤ) → mul f (power_int f a (i +ℤ j)) a ≡ power_int f a (i +ℤ (j +ℤ pos 1))
  add-step i j =
      let e : (i +ℤ j) +ℤ pos 1 ≡ i +ℤ (j +ℤ pos 1) = omega (arith, ints) in
      sym (power_int-suc (i +ℤ j)) ∙ ap (power_int f a) e

  -- the same step of a product
  mul-step : (i j : ℤ) → mul f (mul f (power_int f a i) (power_int f a j)) a ≡ mul f (power_int f a i) (power_int f a (j +ℤ pos 1))
  mul-step i j = mul_assoc f d.ring (power_int f a i) (power_int f a j) a ∙ ap (mul f (power_int f a i)) (sym (power_int-suc j))

  -- from j - 1 to j, and back
  up : (i j k : ℤ) → j +ℤ pos 1 ≡ k → power_int f a (i +ℤ j) ≡ mul f (power_int f a i) (power_int f a j) → power_int f a (i +ℤ k) ≡ mul f (power_int f a i) (power_int f a k)
  up i j k e h =
      ap (λ k. power_int f a (i +ℤ k)) (sym e) ∙ sym (add-step i j) ∙ ap (λ x. mul f x a) h ∙ mul-step i j
      ∙ ap (λ k. mul f (power_int f a i) (power_int f a k)) e

  -- and from j to j - 1
  down : (i j k : ℤ) → j +ℤ pos 1 ≡ k → power_int f a (i +ℤ k) ≡ mul f (power_int f a i) (power_int f a k) → power_int f a (i +ℤ j) ≡ mul f (power_int f a i) (power_int f a j)
  down i j k e h =
      cancel (power_int f a (i +ℤ j)) (mul f (power_int f a i) (power_int f a j)) (power_int-below f d a (i +ℤ j)) (mul_below f d.ring (power_int f a i) (power_int f a j))
      (add-step i j ∙ ap (λ k. power_int f a (i +ℤ k)) e ∙ h ∙ ap (λ k. mul f (power_int f a i) (power_int f a k)) (sym e) ∙ sym (mul-step i j))

  -- a^0 is 1
  power_int-zero : power_int f a (pos 0) ≡ 1
  unfolding power_int power
  power_int-zero = refl

  -- the cases of the next law
  add-natural : (i : ℤ) (n : ℕ) → power_int f a (i +ℤ pos n) ≡ mul f (power_int f a i) (power_int f a (pos n))
  add-natural i zero =
      let e : i +ℤ pos 0 ≡ i = omega (arith, ints) in
      ap (power_int f a) e ∙ sym (ap (mul f (power_int f a i)) power_int-zero ∙ mul_one f d.ring (power_int f a i) (power_int-below f d a i))
  add-natural i (suc n) = up i (pos n) (pos (suc n)) (let e : pos n +ℤ pos 1 ≡ pos (suc n) = omega (arith, ints) in e) (add-natural i n)

  -- the cases of a negative exponent
  add-negative : (i : ℤ) (n : ℕ) → power_int f a (i +ℤ negsuc n) ≡ mul f (power_int f a i) (power_int f a (negsuc n))
  add-negative i zero = down i (negsuc zero) (pos 0) (let e : negsuc zero +ℤ pos 1 ≡ pos 0 = omega (arith, ints) in e) (add-natural i zero)
  add-negative i (suc n) = down i (negsuc (suc n)) (negsuc n) (let e : negsuc (suc n) +ℤ pos 1 ≡ negsuc n = omega (arith, ints) in e) (add-negative i n)

  -- a^(i + j) = a^i a^j
  pub power_int-add : (i j : ℤ) → power_int f a (i +ℤ j) ≡ mul f (power_int f a i) (power_int f a j)
  power_int-add i (pos n) = add-natural i n
  power_int-add i (negsuc n) = add-negative i n

-- a^0 is 1
pub power_int-none : (f : FieldData) (a : ℕ) → power_int f a (pos 0) ≡ 1
unfolding power_int power
power_int-none f a = refl
