-- The value of a weight at a torus vector: at sums and multiples of weights, at ones and at products of vectors.
use Rattle.std.proofs.Common.{◌≡◌, ℕ, zero, suc, ◌<◌, ℤ, pos, ◌+ℤ◌, ◌*ℤ◌, List, [], ◌∷◌, map, length, replicate, refl, sym, ap, ap₂, ◌∙◌, arith}
use Rattle.std.proofs.lemmas.Bool.{lt-ltb}
use Rattle.lie_ring.specs.Rings.{IsElem}
use Rattle.lie_ring.specs.Integers.{integers}
use Rattle.lie_ring.specs.IntegerLaws.{integers_commutative}
use Rattle.lie_ring.specs.Powers.{power}
use Rattle.lie_ring.specs.RingLemmas.{zero_mul, one_mul, add_mul, mul_middle}
use Rattle.lie_field.specs.Elements.{unit_one-number, NonZero, unit_one, unit_mul-element, elem_mul-number}
use Rattle.lie_field.specs.FiniteField.{FiniteField}
use Rattle.lie_field.specs.FieldRing.{field_ring, field_is_ring}
use Rattle.lie_field.specs.Quotient.{order, mul, power_int}
use Rattle.lie_field.proofs.UnitLemmas.{power_laws}
use Rattle.lie_datum.specs.Vectors.{Vector, plus, times}
use Rattle.lie_letters.specs.Entries.{character, AreUnits}
use Rattle.lie_letters.specs.Torus.{each_mul}
use Rattle.lie_letters.specs.Characters.{monomial}
use Rattle.lie_letters.specs.Spelled.{numbers}
use Rattle.lie_letters.proofs.CharacterLemmas.{IsUnit-character, monomial-number, monomial-mul}

-- 0 v
times-zero : (v : Vector) → times (pos 0) v ≡ map (λ _. pos 0) v
times-zero [] = refl
times-zero (a ∷ v) = ap₂ ◌∷◌ (zero_mul integers integers_commutative a refl) (times-zero v)

-- (k + 1) v = k v + v
times-next : (k : ℕ) (v : Vector) → times (pos (suc k)) v ≡ plus (times (pos k) v) v
times-next k [] = refl
times-next k (a ∷ v) = ap₂ ◌∷◌ (step a) (times-next k v)
  where
    step : (a : ℤ) → pos (suc k) *ℤ a ≡ (pos k *ℤ a) +ℤ a
    step a =
        let one_more : pos k +ℤ pos 1 ≡ pos (suc k) = omega (arith, Rattle.std.proofs.lemmas.Int.ints) in
        ap (λ n. n *ℤ a) (sym one_more) ∙ add_mul integers integers_commutative (pos k) (pos 1) a refl refl refl ∙ ap (λ n. (pos k *ℤ a) +ℤ n) (one_mul integers integers_commutative a refl)

module _ (f : FiniteField) where
  -- 1 times 1
  pub one-one : mul f.given 1 1 ≡ 1
  one-one = (field_is_ring f).laws.mul_one 1 (field_is_ring f).laws.one_elem

  -- a number below the order
  below_elem : (a : ℕ) → a < order f.given → IsElem (field_ring f) a
  below_elem a h = lt-ltb a (order f.given) h

  -- the value at units is an element
  pub character_elem : (t : List ℕ) (v : Vector) → AreUnits f t → IsElem (field_ring f) (character f t v)
  character_elem t v h = below_elem _ (IsUnit-character f t v h).1

  -- at a sum of vectors
  pub character-plus : (t : List ℕ) (v w : Vector) → AreUnits f t → character f t (plus v w) ≡ mul f.given (character f t v) (character f t w)
  character-plus [] v w h = sym one-one
  character-plus (a ∷ t) [] w h = sym (one_mul (field_ring f) (field_is_ring f).laws (character f (a ∷ t) w) (character_elem (a ∷ t) w h))
  character-plus (a ∷ t) (c ∷ v) [] h = sym ((field_is_ring f).laws.mul_one (character f (a ∷ t) (c ∷ v)) (character_elem (a ∷ t) (c ∷ v) h))
  character-plus (a ∷ t) (c ∷ v) (e ∷ w) h =
      ap₂ (mul f.given) ((power_laws f).at_sum a h.0 c e) (character-plus t v w h.1)
      ∙ mul_middle (field_ring f) (field_is_ring f).laws (power_int f.given a c) (power_int f.given a e) (character f t v) (character f t w) (below_elem _ ((power_laws f).unit a h.0 c).1) (below_elem _ ((power_laws f).unit a h.0 e).1) (character_elem t v h.1) (character_elem t w h.1)

  -- at the vector of zeros
  character-none : (t : List ℕ) (v : Vector) → character f t (map (λ _. pos 0) v) ≡ 1
  character-none [] v = refl
  character-none (a ∷ t) [] = refl
  character-none (a ∷ t) (c ∷ v) = ap₂ (mul f.given) ((power_laws f).at_zero a) (character-none t v) ∙ one-one

  -- at a multiple
  pub character-times : (t : List ℕ) (v : Vector) (k : ℕ) → AreUnits f t → character f t (times (pos k) v) ≡ power (field_ring f) (character f t v) k
  character-times t v zero h = ap (character f t) (times-zero v) ∙ character-none t v
  character-times t v (suc k) h = ap (character f t) (times-next k v) ∙ character-plus t (times (pos k) v) v h ∙ ap (λ x. mul f.given x (character f t v)) (character-times t v k h)

  -- the value at ones
  pub character-ones : (n : ℕ) (x : Vector) → character f (numbers f (replicate n (unit_one f))) x ≡ 1
  character-ones zero x = refl
  character-ones (suc n) [] = refl
  character-ones (suc n) (c ∷ x) =
      ap₂ (mul f.given) ((ap (λ a. power_int f.given a c) (unit_one-number f) ∙ (power_laws f).one c)) (character-ones n x) ∙ one-one

  -- the value at a product
  pub character-each : (t u : List (NonZero f)) (x : Vector) → length t ≡ length u → character f (numbers f (each_mul f t u)) x ≡ mul f.given (character f (numbers f t) x) (character f (numbers f u) x)
  character-each t u x e =
      sym (monomial-number f (each_mul f t u) x)
      ∙ ap (λ a. a.element.number) (monomial-mul f t u x e)
      ∙ ap (λ a. a.number) (unit_mul-element f (monomial f t x) (monomial f u x))
      ∙ elem_mul-number f (monomial f t x).element (monomial f u x).element
      ∙ ap₂ (mul f.given) (monomial-number f t x) (monomial-number f u x)
