-- S6 at the elements of a field: the diagonal of the powers t^<x, a_i^> is the torus element of the coroot at t.
use Rattle.std.proofs.Common.{◌≡◌, ℕ, zero, suc, ◌≤◌, ℤ, pos, neg_ℤ, ◌+ℤ◌, ◌*ℤ◌, [], ◌∷◌, cond, eqb, get_or, refl, sym, ap, ap₂, ◌∙◌, arith}
use Rattle.lie_ring.specs.Integers.{integers}
use Rattle.lie_ring.specs.IntegerLaws.{integers_commutative}
use Rattle.lie_ring.specs.RingLemmas.{mul_zero}
use Rattle.lie_ring.specs.Matrices.{identity, product}
use Rattle.lie_ring.specs.MatrixLemmas.{table-same}
use Rattle.lie_field.specs.FiniteField.{FiniteField}
use Rattle.lie_field.specs.FieldRing.{field_ring}
use Rattle.lie_field.specs.Quotient.{mul, neg, inv, power_int}
use Rattle.lie_field.specs.Units.{IsUnit}
use Rattle.lie_field.proofs.UnitLemmas.{power_laws}
use Rattle.lie_datum.specs.Vectors.{Vector, pairing, entry}
use Rattle.lie_datum.specs.RootDatum.{IsSimpleIndex, simple_coroot}
use Rattle.lie_datum.specs.RootList.{RootDatum}
use Rattle.lie_const.specs.ConstantTables.{ConstantTable}
use Rattle.lie_const.specs.Modules.{Module, dimension}
use Rattle.lie_const.specs.Signs.{Signs}
use Rattle.lie_letters.specs.declared.letter.Letter.TheVariants.{X, H}
use Rattle.lie_letters.specs.Entries.{character, cocharacter}
use Rattle.lie_identities.specs.declared.relations.Rel.TheVariants.{S6}
use Rattle.lie_identities.specs.Audit.{MeetsIdentities, IsMet}
use Rattle.lie_audit.specs.WordMatrix.{word_matrix, torus_element, weight_value}
use Rattle.lie_audit.proofs.ListedRelations.{listed-S6}
use Rattle.lie_audit.proofs.UnitValues.{identity-at}

module _ (f : FiniteField) where
  -- (a^c)^e = a^(e c)
  power-power : (a : ℕ) (c e : ℤ) → IsUnit f a → power_int f.given (power_int f.given a c) e ≡ power_int f.given a (e *ℤ c)
  power-power a c e h = sym ((power_laws f).at_product a h c e) ∙ ap (power_int f.given a) (integers_commutative.mul_comm c e refl refl)

  -- a vector of zeros pairs to 0
  pairing-none : (w y : Vector) → ((k : ℕ) → entry y k ≡ pos 0) → pairing w y ≡ pos 0
  pairing-none [] y z = refl
  pairing-none (a ∷ w) [] z = refl
  pairing-none (a ∷ w) (b ∷ y) z =
      ap₂ ◌+ℤ◌ (ap (λ x. a *ℤ x) (z 0) ∙ mul_zero integers integers_commutative a refl) (pairing-none w y (λ k. z (suc k)))

  -- the value of a weight at the coroot
  pub character-cocharacter : (a n : ℕ) (y w : Vector) → IsUnit f a → ((k : ℕ) → n ≤ k → entry y k ≡ pos 0) → character f (cocharacter f n y a) w ≡ power_int f.given a (pairing w y)
  character-cocharacter a zero y w h z = sym (ap (power_int f.given a) (pairing-none w y (λ k. z k (omega arith))) ∙ (power_laws f).at_zero a)
  character-cocharacter a (suc n) [] [] h z = sym ((power_laws f).at_zero a)
  character-cocharacter a (suc n) [] (e ∷ w) h z = sym ((power_laws f).at_zero a)
  character-cocharacter a (suc n) (c ∷ y) [] h z = sym ((power_laws f).at_zero a)
  character-cocharacter a (suc n) (c ∷ y) (e ∷ w) h z =
      ap₂ (mul f.given) (power-power a c e h) (character-cocharacter a n y w h (λ k l. z (suc k) (omega (arith, l))))
      ∙ sym ((power_laws f).at_sum a h (e *ℤ c) (pairing w y))

  -- t^-1 is the inverse
  power-inverse : (a : ℕ) → IsUnit f a → power_int f.given a (neg_ℤ (pos 1)) ≡ inv f.given a
  power-inverse a h = (power_laws f).at_negative a h (pos 1) ∙ ap (inv f.given) ((power_laws f).at_one a h)

  -- S6 at all elements but 0
  pub s6-holds : (d : RootDatum) (c : ConstantTable) (eta : Signs) (v : Module) → MeetsIdentities d c eta v → (n i : ℕ) → IsSimpleIndex d.base i
      → ((k : ℕ) → n ≤ k → entry (simple_coroot d.base i) k ≡ pos 0) → (a : ℕ) → IsUnit f a →
      word_matrix f v (X (pos i) a ∷ (X (neg_ℤ (pos i)) (neg f.given (inv f.given a)) ∷ (X (pos i) a ∷ (X (pos i) (neg f.given 1) ∷ (X (neg_ℤ (pos i)) 1 ∷ (X (pos i) (neg f.given 1) ∷ []))))))
      ≡ word_matrix f v (H (cocharacter f n (simple_coroot d.base i) a) ∷ [])
  unfolding torus_element
  s6-holds d c eta v meets n i index past a unit =
      let first = (power_laws f).at_one a unit in
      let six = λ (x z : ℕ). word_matrix f v (X (pos i) x ∷ (X (neg_ℤ (pos i)) (neg f.given z) ∷ (X (pos i) x ∷ (X (pos i) (neg f.given 1) ∷ (X (neg_ℤ (pos i)) 1 ∷ (X (pos i) (neg f.given 1) ∷ [])))))) in
      ap₂ six (sym first) (sym (power-inverse a unit))
      ∙ identity-at f a a unit unit d c eta v (S6 i) (listed-S6 d (IsMet d c eta v) meets.relations i index).identity
      ∙ ap (λ M. product (field_ring f) M (identity (field_ring f) (dimension v)))
      (table-same (dimension v) (dimension v) _ (λ j k. cond (eqb j k) (weight_value f v (cocharacter f n (simple_coroot d.base i) a) j) 0) (λ j k _ _.
      ap (λ x. cond (eqb j k) x 0) (sym (character-cocharacter a n (simple_coroot d.base i) (get_or v.weights j []) unit past))))
