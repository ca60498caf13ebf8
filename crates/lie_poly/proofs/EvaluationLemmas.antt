-- Sums of the values of terms, as far as a loop has come.
use Rattle.std.proofs.Common.{◌≡◌, ℕ, zero, suc, ◌+◌, ◌<◌, ◌≤◌, [], ◌∷◌, length, get_or, drop, refl, sym, ap, ◌∙◌, arith}
use Rattle.std.proofs.lemmas.Bool.{lt-ltb}
use Rattle.std.proofs.lemmas.List.{drop_more}
use Rattle.lie_ring.specs.RingLemmas.{zero_add}
use Rattle.lie_field.specs.Quotient.{order, add, mul, of_int}
use Rattle.lie_field.specs.FiniteField.{FiniteField}
use Rattle.lie_field.specs.FieldRing.{field_ring, field_is_ring}
use Rattle.lie_poly.specs.Terms.{Term, Terms, total_over}
use Rattle.lie_poly.specs.Totals.{total-elem}
use Rattle.lie_poly.specs.Evaluation.{monomial_at}
use Rattle.lie_poly.specs.EvaluationLaws.{monomial_at-elem}

-- a list that has ended
drop-end : (n : ℕ) (xs : Terms) → length xs ≤ n → drop n xs ≡ []
drop-end zero [] h = refl
drop-end zero (x ∷ xs) h = absurd (let never : ⊥ = omega (arith, h) in never)
drop-end (suc n) [] h = refl
drop-end (suc n) (x ∷ xs) h = drop-end n xs (omega (arith, h))

module _ (f : FiniteField) (t u : ℕ) where
  -- the sum of the values of the terms of a list
  abbrev pub sum_of_values : Terms → ℕ
  sum_of_values xs = total_over (field_ring f) (monomial_at f t u) xs

  -- before the first term
  pub value-start : (xs : Terms) → add f.given 0 (sum_of_values xs) ≡ sum_of_values xs
  value-start xs = zero_add (field_ring f) (field_is_ring f).laws (sum_of_values xs) (total-elem (field_ring f) (field_is_ring f) (monomial_at f t u) (monomial_at-elem f t u) xs)

  -- one term more
  pub value-more : (xs : Terms) (k : ℕ) (d : Term) (a v w : ℕ) → k < length xs → a < order f.given → v < order f.given
      → v ≡ mul f.given (of_int f.given (get_or xs k d).coefficient) (monomial_at f t u (get_or xs k d).exponents)
      → add f.given a (sum_of_values (drop k xs)) ≡ w → add f.given (add f.given a v) (sum_of_values (drop (k + 1) xs)) ≡ w
  value-more xs k d a v w within a_below v_below value so_far =
      let rest = sum_of_values (drop (k + 1) xs) in
      let rest_elem = total-elem (field_ring f) (field_is_ring f) (monomial_at f t u) (monomial_at-elem f t u) (drop (k + 1) xs) in
      (field_is_ring f).laws.add_assoc a v rest (lt-ltb a (order f.given) a_below) (lt-ltb v (order f.given) v_below) rest_elem
      ∙ ap (add f.given a) (ap (λ z. add f.given z rest) value ∙ sym (ap sum_of_values (drop_more xs k d within)))
      ∙ so_far

  -- after the last term
  pub value-end : (xs : Terms) (k a w : ℕ) → length xs ≤ k → a < order f.given → add f.given a (sum_of_values (drop k xs)) ≡ w → a ≡ w
  value-end xs k a w ended a_below so_far =
      sym (ap (λ zs. add f.given a (sum_of_values zs)) (drop-end k xs ended) ∙ (field_is_ring f).laws.add_zero a (lt-ltb a (order f.given) a_below)) ∙ so_far
