-- The matrix as it is taken apart: at the start, after each step, and where a corner is 0.
use Rattle.std.proofs.Common.{◌≡◌, ◌≢◌, ℕ, suc, ◌<◌, cond, sym, ap, ap₂, ◌∙◌, inl, inr, subst, arith}
use Rattle.std.proofs.lemmas.Bool.{lt-ltb, cases_eq}
use Rattle.lie_ring.specs.SumLemmas.{sum-zeros}
use Rattle.lie_field.specs.FiniteField.{FiniteField}
use Rattle.lie_field.specs.FieldRing.{field_ring, field_is_ring}
use Rattle.lie_field.specs.Quotient.{order, add}
use Rattle.lie_field.specs.Algebra.FieldTest.{is_lawful}
use Rattle.lie_field.specs.Algebra.Laws
use Rattle.lie_reduce.specs.Elimination.{stepped, outer, outer_from, Factored, AreApart}
use Rattle.lie_reduce.proofs.Steps.{stepped-below, corner-in}
use Rattle.lie_reduce.proofs.Corners.{kept_corner, step-sums}
use Rattle.lie_reduce.proofs.Exact.{left-step, corner_apart}

module _ (f : FiniteField) (n : ℕ) (M : ℕ → ℕ → ℕ) where
  -- nothing is taken out
  pub apart-start : ((i j : ℕ) → i < n → j < n → M i j < order f.given) → AreApart f n n M M
  apart-start small = record {
    units = λ c p q. absurd (let never : ⊥ = omega (arith, p, q) in never);
    sums = λ i j p q.
        sym (ap₂ (add f.given) (corner-in M n i j p q)
        (sum-zeros (field_ring f) (field_is_ring f).laws n (outer_from f.given n M i j) (λ c r. ap (λ b. cond b 0 (outer f.given M i j c)) (lt-ltb c n r)))
        ∙ Laws.add_zero f.given (is_lawful f).ring (M i j) (small i j p q));
    left = λ x. x.sums;
  }

  module _ (k : ℕ) (low : k < n) (P : ℕ → ℕ → ℕ) (apart : AreApart f n (suc k) M P) where
    -- a corner that is 0
    pub apart-stop : P k k ≡ 0 → ¬ Factored f n M
    apart-stop e x = corner_apart f n M x k low P (apart.left x) e

    -- one more corner is taken out
    pub apart-step : (Q : ℕ → ℕ → ℕ) → ((i j : ℕ) → i < n → j < n → P i j < order f.given) → P k k ≢ 0
        → ((i j : ℕ) → i < n → j < n → Q i j ≡ stepped f.given k P i j) → AreApart f n k M Q
    apart-step Q small unit step = record {
      units = λ c p q. elim (cases_eq k c) [
        | inl e ↦ subst (λ x. Q x x ≢ 0) e (λ z. unit (sym (kept_corner f n k P Q low small unit step) ∙ z))
        | inr h ↦
            let later : k < c = omega (arith, p, h) in
            λ z. apart.units c (omega (arith, later)) q (sym (step c c q q ∙ stepped-below f.given k P c c later) ∙ z)
      ];
      sums = step-sums f n k P Q low small unit step M apart.sums;
      left = λ x. left-step f n M x k low P (apart.left x) Q (λ i j p q. step i j (omega (arith, p, low)) (omega (arith, q, low)));
    }
