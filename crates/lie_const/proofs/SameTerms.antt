-- The terms of two roots are the same by all tables that stand for one datum.
use Rattle.std.proofs.Common.{◌≡◌, ℕ, zero, suc, ◌*◌, ◌<◌, ℤ, pos, negsuc, ◌*ℤ◌, List, [], ◌∷◌, cond, ◌||◌, refl, sym, ap, ap₂, subst, ◌∙◌, arith, ⊎_elim}
use Rattle.std.proofs.lemmas.Int.{ints}
use Rattle.std.specs.List.{AllZip}
use Rattle.std.specs.Ordering.{int_cmp, is_eq}
use Rattle.lie_datum.specs.Vectors.{Vector, plus, times, minus}
use Rattle.lie_datum.specs.RootList.{RootDatum, IsLoaded}
use Rattle.lie_const.specs.StructureConstants.{Table, coeffs_of, same_vector, StandsFor}
use Rattle.lie_const.specs.CommutatorTerms.{Fraction, number_of, value_at, string_product, factorial, sign, coefficient, IsValue, term_exponents, IsTerm, AreTerms}
use Rattle.lie_const.specs.declared.term.Term.{Term}
use Rattle.lie_const.proofs.Norms.{cancel}
use Rattle.lie_const.proofs.FoundRoots.{number_of_or}
use Rattle.lie_const.proofs.ChainLemmas.{value_absent_left, value_absent_right}
use Rattle.lie_const.proofs.Unique.{unique}

product_some : (a b : ℕ) → 0 < a → 0 < b → 0 < a * b
product_some a b p q = grind (arith, p, q)

factorial_positive : (n : ℕ) → 0 < factorial n
factorial_positive zero = omega arith
factorial_positive (suc n) = product_some (suc n) (factorial n) (omega arith) (factorial_positive n)

-- two tables that stand for one datum
module _ (d : RootDatum) (loaded : IsLoaded d) (m n : Table) (a : StandsFor d m) (b : StandsFor d n) where
  same_value_at : (u v : Vector) → value_at d m u v ≡ value_at d n u v
  same_value_at u v =
      ⊎_elim
      (λ x. ⊎_elim
      (λ y. ap (cond (is_eq (int_cmp (number_of d u) (pos 0)) || is_eq (int_cmp (number_of d v) (pos 0)) || same_vector u (minus v)) (pos 0)) (unique d loaded m n a b (number_of d u) (number_of d v) x.0 y.0))
      (λ y. value_absent_right d m u v y ∙ sym (value_absent_right d n u v y)) (number_of_or d loaded v))
      (λ x. value_absent_left d m u v x ∙ sym (value_absent_left d n u v x)) (number_of_or d loaded u)

  same_string_product : (r s : Vector) (i : ℕ) → string_product d m r s i ≡ string_product d n r s i
  same_string_product r s zero = refl
  same_string_product r s (suc i) = ap₂ ◌*ℤ◌ (same_string_product r s i) (same_value_at r (plus (times (pos i) r) s))

  pub same_coefficient : (r s : Vector) (i j : ℕ) → coefficient d m r s i j ≡ coefficient d n r s i j
  same_coefficient r s i (suc zero) = ap (λ (x : ℤ). let q : Fraction = record { above = x; below = factorial i } in q) (same_string_product r s i)
  same_coefficient r s (suc zero) zero = ap (λ (x : ℤ). let q : Fraction = record { above = pos 1 *ℤ x; below = factorial 0 } in q) (same_string_product s r 0)
  same_coefficient r s (suc zero) (suc (suc j)) = ap (λ (x : ℤ). let q : Fraction = record { above = sign (suc (suc j)) *ℤ x; below = factorial (suc (suc j)) } in q) (same_string_product s r (suc (suc j)))
  same_coefficient r s (suc (suc (suc zero))) (suc (suc zero)) = ap (λ (x : ℤ). let q : Fraction = record { above = x; below = 6 } in q) (same_string_product (plus r s) r 2)
  same_coefficient r s (suc (suc zero)) (suc (suc (suc zero))) = ap (λ (x : ℤ). let q : Fraction = record { above = negsuc 1 *ℤ x; below = 6 } in q) (same_string_product (plus s r) s 2)
  same_coefficient r s i j = refl

  below_positive : (r s : Vector) (i j : ℕ) → 0 < (coefficient d n r s i j).below
  below_positive r s i (suc zero) = factorial_positive i
  below_positive r s (suc zero) zero = factorial_positive 0
  below_positive r s (suc zero) (suc (suc j)) = factorial_positive (suc (suc j))
  below_positive r s (suc (suc (suc zero))) (suc (suc zero)) = omega arith
  below_positive r s (suc (suc zero)) (suc (suc (suc zero))) = omega arith
  below_positive r s i j = omega arith

  -- the fraction of a term has one value
  one_value : (c c' : ℤ) (q q' : Fraction) → q ≡ q' → 0 < q'.below → IsValue c q → IsValue c' q' → c ≡ c'
  one_value c c' q q' same some h h' = cancel c c' (pos q'.below) (omega (arith, ints, some)) (subst (IsValue c) same h ∙ sym h')

  one_term : (r s : ℤ) (e : ℕ × ℕ) (t u : Term) → IsTerm d m r s e t → IsTerm d n r s e u → t ≡ u
  one_term r s e t u h g =
      let value : t.value ≡ u.value = one_value t.value u.value (coefficient d m (coeffs_of d r) (coeffs_of d s) e.0 e.1) (coefficient d n (coeffs_of d r) (coeffs_of d s) e.0 e.1) (same_coefficient (coeffs_of d r) (coeffs_of d s) e.0 e.1)
      (below_positive (coeffs_of d r) (coeffs_of d s) e.0 e.1) h.value g.value in
      ap (λ (x : ℕ). let z : Term = record t { i = x } in z) (h.i ∙ sym g.i) ∙ ap (λ (x : ℕ). let z : Term = record { i = u.i; j = x; root = t.root; value = t.value } in z) (h.j ∙ sym g.j)
      ∙ ap (λ (x : ℤ). let z : Term = record { i = u.i; j = u.j; root = x; value = t.value } in z) (h.root ∙ sym g.root) ∙ ap (λ (x : ℤ). let z : Term = record u { value = x } in z) value

  one_list : (r s : ℤ) (es : List (ℕ × ℕ)) (ts us : List Term) → AllZip (IsTerm d m r s) es ts → AllZip (IsTerm d n r s) es us → ts ≡ us
  one_list r s [] [] [] h g = refl
  one_list r s [] [] (u ∷ us) h g = absurd g
  one_list r s [] (t ∷ ts) us h g = absurd h
  one_list r s (e ∷ es) [] us h g = absurd h
  one_list r s (e ∷ es) (t ∷ ts) [] h g = absurd g
  one_list r s (e ∷ es) (t ∷ ts) (u ∷ us) h g = ap₂ (λ (x : Term) (xs : List Term). x ∷ xs) (one_term r s e t u h.0 g.0) (one_list r s es ts us h.1 g.1)

  -- the terms of two roots are the same
  pub one_terms : (r s : ℤ) (ts us : List Term) → AreTerms d m r s ts → AreTerms d n r s us → ts ≡ us
  one_terms r s ts us h g = one_list r s (term_exponents d r s) ts us h g
