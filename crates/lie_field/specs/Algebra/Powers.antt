-- Powers, and inverses.
-- For proofs: no public clause cites it.
use Rattle.std.proofs.Common.{◌≡◌, ℕ, zero, suc, ◌+◌, ◌-◌, ◌*◌, ◌<◌, ◌≤◌, refl, sym, ap, ◌∙◌, arith}
use Rattle.std.proofs.Math.Nat.{add-zero, add-suc, mul-zero, mul-suc, mul_comm as mul_comm-ℕ}
use Rattle.lie_field.specs.Quotient.{FieldData, degree, order, mul, inv, power, IsRingData, IsFieldData}
use Rattle.lie_field.specs.Algebra.Laws.{mul_comm, mul_assoc, mul_one, mul_below, zero_mul}
use Rattle.lie_field.specs.Algebra.Digits.{two-le-pow}
use Rattle.lie_field.specs.Algebra.Reach.{reach}

module _ (f : FieldData) (d : IsRingData f) where
  -- q is at least 2
  pub one_below : 1 < order f
  unfolding order
  one_below = two-le-pow f.p (degree f) d.p_large d.has_degree

  -- a power is an element
  pub power_below : (a e : ℕ) → power f a e < order f
  unfolding power
  power_below a zero = one_below
  power_below a (suc e) = mul_below f d (power f a e) a

  -- a^(i + j) = a^i a^j
  pub power-add : (a i j : ℕ) → power f a (i + j) ≡ mul f (power f a i) (power f a j)
  unfolding power
  power-add a i zero = ap (power f a) (add-zero i) ∙ sym (mul_one f d (power f a i) (power_below a i))
  power-add a i (suc j) =
      ap (power f a) (add-suc i j)
      ∙ ap (λ x. mul f x a) (power-add a i j)
      ∙ mul_assoc f d (power f a i) (power f a j) a

  -- the powers of 1 are 1
  pub power-one : (e : ℕ) → power f 1 e ≡ 1
  unfolding power
  power-one zero = refl
  power-one (suc e) = ap (λ x. mul f x 1) (power-one e) ∙ mul_one f d 1 one_below

  -- a^(i j) = (a^i)^j
  pub power-mul : (a i j : ℕ) → power f a (i * j) ≡ power f (power f a i) j
  unfolding power
  power-mul a i zero = ap (power f a) (mul-zero i)
  power-mul a i (suc j) =
      ap (power f a) (mul-suc i j) ∙ power-add a (i * j) i ∙ ap (λ x. mul f x (power f a i)) (power-mul a i j)

module _ (f : FieldData) (d : IsFieldData f) where
  -- each element but 0 is a power of g with exponent below q - 1
  pub power_of_g : (a : ℕ) → 0 < a → a < order f → (e : ℕ) × (e < order f - 1) × (power f f.g e ≡ a)
  power_of_g a pos small =
      reach (power f f.g) (order f) a
      (λ i e l m. (d.powers_new e m).1 i l)
      (λ e l. (d.powers_new e l).0)
      (λ e l. power_below f d.ring f.g e)
      pos small

  -- each element that is not 0 has an inverse
  pub inverse : (a : ℕ) → 0 < a → a < order f → (b : ℕ) × (b < order f) × (mul f a b ≡ 1)
  inverse a pos small =
      let e = power_of_g a pos small in
      let back = order f - 1 - e.0 in
      let sum : e.0 + back ≡ order f - 1 = omega (arith, e.1) in (
        power f f.g back,
        power_below f d.ring f.g back,
        ap (λ x. mul f x (power f f.g back)) (sym e.2)
            ∙ sym (power-add f d.ring f.g e.0 back)
            ∙ ap (power f f.g) sum
            ∙ d.power_last,
      )

  -- q - 1 may be left out of an exponent of g
  pub power_wrap : (s : ℕ) → order f - 1 ≤ s → power f f.g s ≡ power f f.g (s - (order f - 1))
  power_wrap s h =
      let n = order f - 1 in
      let split : s ≡ (s - n) + n = omega (arith, h) in
      ap (power f f.g) split
      ∙ power-add f d.ring f.g (s - n) n
      ∙ ap (mul f (power f f.g (s - n))) d.power_last
      ∙ mul_one f d.ring (power f f.g (s - n)) (power_below f d.ring f.g (s - n))

  -- the logarithm of a product is the sum of the logarithms
  pub mul-logs : (a b i j : ℕ) → power f f.g i ≡ a → power f f.g j ≡ b → mul f a b ≡ power f f.g (i + j)
  mul-logs a b i j e h = ap (λ x. mul f x b) (sym e) ∙ ap (mul f (power f f.g i)) (sym h) ∙ sym (power-add f d.ring f.g i j)

  -- a^(q - 1) = 1
  pub power_order : (a : ℕ) → 0 < a → a < order f → power f a (order f - 1) ≡ 1
  power_order a pos small =
      let e = power_of_g a pos small in
      let n = order f - 1 in
      ap (λ x. power f x n) (sym e.2)
      ∙ sym (power-mul f d.ring f.g e.0 n)
      ∙ ap (power f f.g) (mul_comm-ℕ e.0 n)
      ∙ power-mul f d.ring f.g n e.0
      ∙ ap (λ x. power f x e.0) d.power_last
      ∙ power-one f d.ring e.0

  -- an element times its inverse is 1
  pub mul-inv : (a : ℕ) → 0 < a → a < order f → mul f a (inv f a) ≡ 1
  unfolding inv power
  mul-inv a pos small =
      let large : 1 < order f = one_below f d.ring in
      let e : suc (order f - 2) ≡ order f - 1 = omega (arith, large) in
      mul_comm f d.ring a (power f a (order f - 2)) ∙ ap (power f a) e ∙ power_order a pos small

  -- an inverse is an element
  pub inv-below : (a : ℕ) → inv f a < order f
  unfolding inv
  inv-below a = power_below f d.ring a (order f - 2)

  -- the inverse is the only one
  pub inv_only : (a b : ℕ) → 0 < a → a < order f → b < order f → mul f a b ≡ 1 → b ≡ inv f a
  inv_only a b pos small below e =
      let c = inv f a in
      sym (mul_one f d.ring b below)
      ∙ ap (mul f b) (sym (mul-inv a pos small))
      ∙ sym (mul_assoc f d.ring b a c)
      ∙ ap (λ x. mul f x c) (mul_comm f d.ring b a ∙ e)
      ∙ mul_comm f d.ring 1 c
      ∙ mul_one f d.ring c (inv-below a)

  -- no product of elements that are not 0 is 0
  pub no_zero_divisors : (a b : ℕ) → 0 < a → a < order f → b < order f → mul f a b ≡ 0 → b ≡ 0
  no_zero_divisors a b pos small below e =
      let c = inv f a in
      sym (mul_one f d.ring b below)
      ∙ ap (mul f b) (sym (mul-inv a pos small))
      ∙ sym (mul_assoc f d.ring b a c)
      ∙ ap (λ x. mul f x c) (mul_comm f d.ring b a ∙ e)
      ∙ zero_mul f d.ring c
