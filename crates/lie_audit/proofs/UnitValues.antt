-- The identities over the Laurent polynomials at elements of a field that are not 0.
use Rattle.std.proofs.Common.{◌≡◌, ℕ, ℤ, pos, ap, ap₂, ◌∙◌, subst}
use Rattle.std.proofs.lemmas.Bool.{lt-ltb}
use Rattle.lie_ring.specs.RingLemmas.{one_mul}
use Rattle.lie_field.specs.FiniteField.{FiniteField}
use Rattle.lie_field.specs.FieldRing.{field_ring, field_is_ring}
use Rattle.lie_field.specs.Quotient.{order, mul, power_int}
use Rattle.lie_field.specs.Units.{IsUnit}
use Rattle.lie_field.proofs.UnitLemmas.{power_laws}
use Rattle.lie_poly.specs.Polynomials.{monomial}
use Rattle.lie_poly.specs.LaurentLaws.{laurent_ring}
use Rattle.lie_poly.specs.Evaluation.{evaluation}
use Rattle.lie_poly.specs.EvaluationLaws.{evaluation_hom, evaluation-monomial}
use Rattle.lie_datum.specs.RootList.{RootDatum}
use Rattle.lie_const.specs.ConstantTables.{ConstantTable}
use Rattle.lie_const.specs.Modules.{Module}
use Rattle.lie_const.specs.Signs.{Signs}
use Rattle.lie_identities.specs.declared.relations.Rel.{Rel}
use Rattle.lie_identities.specs.Audit.{laurent_variables, IsIdentity}
use Rattle.lie_identities.specs.AuditRelations.{Variables}
use Rattle.lie_identities.proofs.FactorLemmas.{polynomials}
use Rattle.lie_identities.proofs.SideImages.{image_variables, HoldsAt, relation_image}

-- t and u, and the powers of t, over a field
abbrev pub values_at : FiniteField → ℕ → ℕ → Variables ℕ
values_at f t u = record { ring = field_ring f; t_to = power_int f.given t; u = u }

module _ (f : FiniteField) (t u : ℕ) (p : IsUnit f t) (q : IsUnit f u) where
  -- 1 a = a and a 1 = a, for units
  one-times : (a : ℕ) → IsUnit f a → mul f.given 1 a ≡ a
  one-times a h = one_mul (field_ring f) (field_is_ring f).laws a (lt-ltb a (order f.given) h.1)

  times-one : (a : ℕ) → IsUnit f a → mul f.given a 1 ≡ a
  times-one a h = (field_is_ring f).laws.mul_one a (lt-ltb a (order f.given) h.1)

  -- the value of t^e
  value-t : (e : ℤ) → evaluation f t u (monomial (pos 1) e (pos 0)) ≡ power_int f.given t e
  value-t e =
      let h = (power_laws f).unit t p e in
      evaluation-monomial f t u (pos 1) e (pos 0)
      ∙ ap₂ (λ c x. mul f.given c (mul f.given (power_int f.given t e) x)) (field_is_ring f).integers.int_one ((power_laws f).at_zero u)
      ∙ ap (mul f.given 1) (times-one (power_int f.given t e) h)
      ∙ one-times (power_int f.given t e) h

  -- the value of u
  value-u : evaluation f t u (monomial (pos 1) (pos 0) (pos 1)) ≡ u
  value-u =
      evaluation-monomial f t u (pos 1) (pos 0) (pos 1)
      ∙ ap₂ (λ c x. mul f.given c (mul f.given x (power_int f.given u (pos 1)))) (field_is_ring f).integers.int_one ((power_laws f).at_zero t)
      ∙ ap (λ x. mul f.given 1 (mul f.given 1 x)) ((power_laws f).at_one u q)
      ∙ ap (mul f.given 1) (one-times u q) ∙ one-times u q

  -- an identity holds at t and u
  pub identity-at : (d : RootDatum) (c : ConstantTable) (eta : Signs) (v : Module) (r : Rel) → IsIdentity d c eta v r → HoldsAt (values_at f t u) d c eta v r
  identity-at d c eta v r e =
      subst (λ y. HoldsAt y d c eta v r) same
      (relation_image laurent_variables (field_ring f) (evaluation f t u) d c eta v r laurent_ring (field_is_ring f) (evaluation_hom f t u p q) polynomials e)
    where
      same : image_variables (field_ring f) (evaluation f t u) laurent_variables ≡ values_at f t u
      same = ap₂ (λ (g : ℤ → ℕ) (x : ℕ). record { ring = field_ring f; t_to = g; u = x }) (λ k e. value-t e k) value-u
