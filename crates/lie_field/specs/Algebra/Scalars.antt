-- The natural numbers in the ring: n stands for n modulo p.
-- For proofs: no public clause cites it.
use Rattle.std.proofs.Common.{◌≡◌, ℕ, ◌+◌, ◌-◌, ◌*◌, ◌%◌, ◌<◌, [], ◌∷◌, replicate, sym, ap, ap₂, ◌∙◌, subst, arith}
use Rattle.std.proofs.Math.Nat.{zero-mod, mod-eq_of_lt, add-zero, mul-zero, add_comm as nat_add_comm, mul_comm as nat_mul_comm}
use Rattle.lie_field.specs.Polynomials.{times, residues, number}
use Rattle.lie_field.specs.Quotient.{FieldData, degree, order, element, polynomial, add, mul, IsRingData}
use Rattle.lie_field.specs.Algebra.Lists.{plus_comm, residues-cons, residues-zeros}
use Rattle.lie_field.specs.Algebra.Digits.{number-zeros}
use Rattle.lie_field.specs.Algebra.Shifts.{remainder_padded, times_comm}
use Rattle.lie_field.specs.Algebra.Laws.{element_below, element-is, element-plus, element-times, element-same, add_right, mul_right}

-- the element of a natural number
unfoldable pub of_nat : FieldData → ℕ → ℕ
of_nat f n = n % f.p

module _ (f : FieldData) (d : IsRingData f) where
  -- n modulo p is what the constant polynomial n stands for
  scalar : (n : ℕ) → of_nat f n ≡ element f (n ∷ [])
  unfolding of_nat
  scalar n =
      let p = f.p in
      let k = degree f in
      let e : 1 + (k - 1) ≡ k = let l = d.has_degree in omega arith in
      sym (element-is f d (n ∷ [])
      ∙ ap (λ r. number p (residues p r)) (remainder_padded f (n ∷ []) (k - 1) e)
      ∙ ap (number p) (residues-cons p n (replicate (k - 1) 0) ∙ ap (λ v. (n % p) ∷ v) (residues-zeros p (k - 1)))
      ∙ ap (λ z. n % p + p * z) (number-zeros p (k - 1))
      ∙ ap (λ z. n % p + z) (mul-zero p)
      ∙ add-zero (n % p))

  -- it is an element
  pub of_nat-below : (n : ℕ) → of_nat f n < order f
  of_nat-below n = subst (λ x. x < order f) (sym (scalar n)) (element_below f d (n ∷ []))

  -- 0 stands for 0
  pub of_nat-zero : of_nat f 0 ≡ 0
  unfolding of_nat
  of_nat-zero = zero-mod f.p

  -- 1 stands for 1
  pub of_nat-one : of_nat f 1 ≡ 1
  unfolding of_nat
  of_nat-one = mod-eq_of_lt (let l = d.p_large in omega (arith, l))

  -- sums are carried to sums
  pub of_nat-plus : (m n : ℕ) → of_nat f (m + n) ≡ add f (of_nat f m) (of_nat f n)
  of_nat-plus m n =
      let u = element f (m ∷ []) in
      scalar (m + n)
      ∙ ap (λ k. element f (k ∷ [])) (nat_add_comm m n)
      ∙ sym (add_right f d u (n ∷ []) ∙ ap (element f) (plus_comm (polynomial f u) (n ∷ [])) ∙ element-plus f d (n ∷ []) (m ∷ []))
      ∙ ap₂ (add f) (sym (scalar m)) (sym (scalar n))

  -- products are carried to products
  pub of_nat-times : (m n : ℕ) → of_nat f (m * n) ≡ mul f (of_nat f m) (of_nat f n)
  of_nat-times m n =
      let u = element f (m ∷ []) in
      let x = polynomial f u in
      scalar (m * n)
      ∙ ap (λ k. element f (k ∷ [])) (nat_mul_comm m n ∙ sym (add-zero (n * m)))
      ∙ sym (mul_right f d u (n ∷ [])
      ∙ element-same f d (times x (n ∷ [])) (times (n ∷ []) x) (times_comm f d.has_degree x (n ∷ []))
      ∙ element-times f d (n ∷ []) (m ∷ []))
      ∙ ap₂ (mul f) (sym (scalar m)) (sym (scalar n))
