use Rattle.std.proofs.Common.{◌≡◌, ℕ, zero, suc, ◌/◌, ◌<◌, List, All, length, sym, ap, ◌∙◌, arith}
use Rattle.std.proofs.Math.Nat.{mod-lt}
use Rattle.lie_field.specs.Polynomials.{plus, scale, times, residues, number, digits}
use Rattle.lie_field.specs.Quotient.{FieldData, degree, order, element, polynomial, remainder, add, mul, IsRingData}
use Rattle.lie_field.specs.Algebra.Lists.{plus_comm, residues_whole}
use Rattle.lie_field.specs.Algebra.Digits.{number-zeros, length-digits, number-digits}
use Rattle.lie_field.specs.Algebra.Shifts.{remainder-scale, times_comm}
use Rattle.lie_field.specs.Algebra.Laws.{element_below, element-is, element-plus, element-times, element-same, element-polynomial, add_right, mul_right}
use Rattle.lie_field.proofs.ModulusLemmas.{modulus_is_zero}
use Rattle.lie_field.proofs.laws.elements_are_quotient.Goals as goal

module _ (f : FieldData) (d : IsRingData f) where
  sum : (u v : List ℕ) → element f (plus u v) ≡ add f (element f u) (element f v)
  sum u v =
      let x = polynomial f (element f u) in
      sym (add_right f d (element f u) v ∙ ap (element f) (plus_comm x v) ∙ element-plus f d v u ∙ ap (element f) (plus_comm v u))

  product : (u v : List ℕ) → element f (times u v) ≡ mul f (element f u) (element f v)
  product u v =
      let x = polynomial f (element f u) in
      sym (mul_right f d (element f u) v
      ∙ element-same f d (times x v) (times v x) (times_comm f d.has_degree x v)
      ∙ element-times f d v u
      ∙ element-same f d (times v u) (times u v) (times_comm f d.has_degree v u))

  characteristic : (v : List ℕ) → element f (scale f.p v) ≡ 0
  characteristic v =
      element-is f d (scale f.p v)
      ∙ ap (λ r. number f.p (residues f.p r)) (remainder-scale f d.has_degree f.p v)
      ∙ ap (number f.p) (residues_whole f.p (remainder f v))
      ∙ number-zeros f.p (length (remainder f v))

-- each digit is below p
digits_below : (p : ℕ) → 0 < p → (k a : ℕ) → All (λ c. c < p) (digits p k a)
digits_below p h zero a i e l = absurd (let never : ⊥ = omega (arith, l) in never)
digits_below p h (suc k) a zero e l = mod-lt a h
digits_below p h (suc k) a (suc i) e l = digits_below p h k (a / p) i e (let m : i < length (digits p k (a / p)) = omega (arith, l) in m)

pub returns : goal.returns
unfolding order
returns c f d = let p_pos : 0 < f.p = (let l = d.p_large in omega (arith, l)) in record {
  below = element_below f d;
  sum = sum f d;
  product = product f d;
  onto = element-polynomial f d;
  polynomial_length = length-digits f.p (degree f);
  polynomial_below = digits_below f.p p_pos (degree f);
  polynomial_number = number-digits f.p p_pos (degree f);
  modulus = modulus_is_zero f d;
  characteristic = characteristic f d;
}
