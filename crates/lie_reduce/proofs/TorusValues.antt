-- The values of weights at a torus vector: at multiples, at zeros, at the axes and at combinations, and what two of them make.
use Rattle.std.proofs.Common.{◌≡◌, ℕ, zero, suc, ◌<◌, ◌≤◌, List, [], ◌∷◌, length, get_or, take, refl, sym, ap, ap₂, ◌∙◌, arith}
use Rattle.std.specs.Prelude.{ℤ, neg_ℤ}
use Rattle.lie_field.specs.FiniteField.{FiniteField}
use Rattle.lie_field.specs.Quotient.{order, mul, inv, power_int}
use Rattle.lie_field.specs.Units.{IsUnit}
use Rattle.lie_field.specs.Elements.{NonZero, unit_at, mul_apart, inv_apart}
use Rattle.lie_field.specs.Algebra.FieldTest.{is_lawful}
use Rattle.lie_field.specs.Algebra.Laws
use Rattle.lie_field.specs.Algebra.Powers
use Rattle.lie_field.proofs.UnitLemmas.{power_laws}
use Rattle.lie_ring.specs.IntegerLaws.{integers_commutative}
use Rattle.lie_datum.specs.Vectors.{Vector, plus, times, unit, combination, entry}
use Rattle.lie_orbit.specs.Laws.{IsZero}
use Rattle.lie_letters.specs.Entries.{AreUnits, character}
use Rattle.lie_letters.proofs.CharacterLemmas.{IsUnit-character, monomial-number, one_times, times_one}
use Rattle.lie_letters.proofs.TorusLemmas.{units_of, length-numbers}
use Rattle.lie_reduce.proofs.TorusWeights.{monomial-entries}
use Rattle.lie_audit.proofs.CharacterValues.{one-one, character-plus}

module _ (f : FiniteField) where
  -- ---- units
  assoc : (a b c : ℕ) → mul f.given (mul f.given a b) c ≡ mul f.given a (mul f.given b c)
  assoc a b c = Laws.mul_assoc f.given (is_lawful f).ring a b c

  comm : (a b : ℕ) → mul f.given a b ≡ mul f.given b a
  comm a b = Laws.mul_comm f.given (is_lawful f).ring a b

  inverts : (a : ℕ) → IsUnit f a → mul f.given a (inv f.given a) ≡ 1
  inverts a h = Powers.mul-inv f.given (is_lawful f) a h.0 h.1

  -- products, inverses and powers of units are units
  pub unit-mul : (a b : ℕ) → IsUnit f a → IsUnit f b → IsUnit f (mul f.given a b)
  unit-mul a b p q = ((let n = mul_apart f (unit_at f a p) (unit_at f b q) in omega (arith, n)), Laws.mul_below f.given (is_lawful f).ring a b)

  pub unit-inv : (a : ℕ) → IsUnit f a → IsUnit f (inv f.given a)
  unit-inv a p = ((let n = inv_apart f (unit_at f a p) in omega (arith, n)), Powers.inv-below f.given (is_lawful f) a)

  -- from p = a t, p / a = t
  pub divided : (p a t : ℕ) → IsUnit f a → t < order f.given → p ≡ mul f.given a t → mul f.given p (inv f.given a) ≡ t
  divided p a t h low e =
      ap (λ x. mul f.given x (inv f.given a)) (e ∙ comm a t) ∙ assoc t a (inv f.given a) ∙ ap (mul f.given t) (inverts a h) ∙ times_one f t low

  -- (p / a) a = p
  pub undone : (p a : ℕ) → IsUnit f a → p < order f.given → mul f.given (mul f.given p (inv f.given a)) a ≡ p
  undone p a h low = assoc p (inv f.given a) a ∙ ap (mul f.given p) (comm (inv f.given a) a ∙ inverts a h) ∙ times_one f p low

  -- (a p) (x / p) = a x
  pub moved_over : (a p x : ℕ) → IsUnit f p → x < order f.given → mul f.given (mul f.given a p) (mul f.given x (inv f.given p)) ≡ mul f.given a x
  moved_over a p x h low =
      assoc a p (mul f.given x (inv f.given p))
      ∙ ap (mul f.given a) (ap (mul f.given p) (comm x (inv f.given p)) ∙ sym (assoc p (inv f.given p) x) ∙ ap (λ y. mul f.given y x) (inverts p h) ∙ one_times f x low)

  -- ---- values
  -- at a multiple
  pub character-multiple : (t : List ℕ) (v : Vector) (k : ℤ) → AreUnits f t → character f t (times k v) ≡ power_int f.given (character f t v) k
  character-multiple [] v k h = sym ((power_laws f).one k)
  character-multiple (a ∷ t) [] k h = sym ((power_laws f).one k)
  character-multiple (a ∷ t) (c ∷ v) k h =
      ap₂ (mul f.given) (ap (power_int f.given a) (integers_commutative.mul_comm k c refl refl) ∙ (power_laws f).at_product a h.0 c k) (character-multiple t v k h.1)
      ∙ sym ((power_laws f).of_product (power_int f.given a c) (character f t v) ((power_laws f).unit a h.0 c) (IsUnit-character f t v h.1) k)

  -- at a vector of zeros
  pub character-zero : (t : List ℕ) (y : Vector) → IsZero y → character f t y ≡ 1
  character-zero [] y h = refl
  character-zero (a ∷ t) [] h = refl
  character-zero (a ∷ t) (c ∷ y) h = ap₂ (mul f.given) (ap (power_int f.given a) (h 0) ∙ (power_laws f).at_zero a) (character-zero t y (λ k. h (suc k))) ∙ one-one f

  character-zeros : (t : List ℕ) (n : ℕ) → character f t (unit n zero) ≡ 1
  character-zeros [] n = refl
  character-zeros (a ∷ t) zero = refl
  character-zeros (a ∷ t) (suc n) = ap₂ (mul f.given) ((power_laws f).at_zero a) (character-zeros t n) ∙ one-one f

  -- at a unit vector it is the entry
  pub character-unit : (t : List ℕ) (n i : ℕ) → AreUnits f t → i < length t → i < n → character f t (unit n (suc i)) ≡ get_or t i 0
  character-unit [] n i h p q = absurd (let never : ⊥ = omega (arith, p) in never)
  character-unit (a ∷ t) zero i h p q = absurd (let never : ⊥ = omega (arith, q) in never)
  character-unit (a ∷ t) (suc n) zero h p q = ap₂ (mul f.given) ((power_laws f).at_one a h.0) (character-zeros t n) ∙ times_one f a h.0.1
  character-unit (a ∷ t) (suc n) (suc i) h p q =
      ap₂ (mul f.given) ((power_laws f).at_zero a) (character-unit t n i h.1 (omega (arith, p)) (omega (arith, q)))
      ∙ one_times f (get_or t i 0) (below t i h.1 (omega (arith, p)))
    where
      below : (t : List ℕ) (i : ℕ) → AreUnits f t → i < length t → get_or t i 0 < order f.given
      below [] i h p = absurd (let never : ⊥ = omega (arith, p) in never)
      below (a ∷ t) zero h p = h.0.1
      below (a ∷ t) (suc i) h p = below t i h.1 (omega (arith, p))

  -- at a vector less a multiple of another
  pub character-less : (t : List ℕ) (x r : Vector) (k : ℤ) → AreUnits f t → character f t (plus x (times (neg_ℤ k) r)) ≡ mul f.given (character f t x) (inv f.given (power_int f.given (character f t r) k))
  character-less t x r k h =
      character-plus f t x (times (neg_ℤ k) r) h
      ∙ ap (mul f.given (character f t x)) (character-multiple t r (neg_ℤ k) h ∙ (power_laws f).at_negative (character f t r) (IsUnit-character f t r h) k)

  -- at vectors with the same entries
  pub character-entries : (t : List ℕ) (x y : Vector) → length t ≤ 8 → ((i : ℕ) → i < 8 → entry x i ≡ entry y i) → AreUnits f t → character f t x ≡ character f t y
  character-entries t x y few same h =
      let ts = units_of f t h in
      let as_many : length ts.0 ≡ length t = sym (length-numbers f ts.0) ∙ ap length ts.1 in
      ap (λ z. character f z x) (sym ts.1) ∙ sym (monomial-number f ts.0 x) ∙ ap (λ (z : NonZero f). z.element.number) (monomial-entries f ts.0 x y (λ i l. same i (omega (arith, l, few, as_many))))
      ∙ monomial-number f ts.0 y ∙ ap (λ z. character f z y) ts.1

  pub character-empty : (t : List ℕ) → character f t [] ≡ 1
  character-empty [] = refl
  character-empty (a ∷ t) = refl

  -- at a combination of vectors, one coefficient more
  pub character-more : (t : List ℕ) (c : Vector) (vs : List Vector) (a : ℕ) → AreUnits f t → a < length c → a < length vs
      → character f t (combination (take (suc a) c) vs) ≡ mul f.given (character f t (combination (take a c) vs)) (power_int f.given (character f t (get_or vs a [])) (entry c a))
  character-more t [] vs a h p q = absurd (let never : ⊥ = omega (arith, p) in never)
  character-more t (b ∷ c) [] a h p q = absurd (let never : ⊥ = omega (arith, q) in never)
  character-more t (b ∷ c) (v ∷ vs) zero h p q =
      character-plus f t (times b v) [] h
      ∙ ap₂ (mul f.given) (character-multiple t v b h) refl
      ∙ comm (power_int f.given (character f t v) b) (character f t [])
  character-more t (b ∷ c) (v ∷ vs) (suc a) h p q =
      character-plus f t (times b v) (combination (take (suc a) c) vs) h
      ∙ ap (mul f.given (character f t (times b v))) (character-more t c vs a h (omega (arith, p)) (omega (arith, q)))
      ∙ sym (assoc (character f t (times b v)) (character f t (combination (take a c) vs)) (power_int f.given (character f t (get_or vs a [])) (entry c a)))
      ∙ ap (λ z. mul f.given z (power_int f.given (character f t (get_or vs a [])) (entry c a))) (sym (character-plus f t (times b v) (combination (take a c) vs) h))
