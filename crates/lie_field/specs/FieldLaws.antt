-- The laws of finite fields and of the faults, as statements. `src/laws.rt` publishes each.
-- Source: Lidl, Niederreiter, Finite Fields, chapter 1, section 3 (residue classes of polynomials) and chapter 2, section 1 (the units are a cyclic group).
--
--   Z[x]                  lists of coefficients, from the constant coefficient up
--   the quotient map      element f          from Z[x] to the numbers below q
--   (p, f)                goes to 0: p times any polynomial, and f itself
use Rattle.std.specs.Prelude.{◌≡◌, ◌≢◌, ℕ, ◌-◌, ◌<◌, ◌↔◌, List, [], ◌∷◌, ◌++◌, All, T, length}
use Rattle.lie_ring.specs.Rings.{IsCommutativeRing}
use Rattle.lie_field.specs.Polynomials.{plus, scale, times, number}
use Rattle.lie_field.specs.Quotient.{FieldData, degree, order, element, polynomial, add, mul, inv, power, IsRingData, IsFieldData}
use Rattle.lie_field.specs.FiniteField.{FiniteField, is_field}
use Rattle.lie_field.specs.FieldRing.{field_ring}
use Rattle.lie_field.specs.Faults.{IsWithinLimit, IsFault}
use Rattle.lie_field.specs.declared.faults.FieldFault.{FieldFault}
use Rattle.lie_field.specs.declared.faults.FieldFault.TheVariants.{NoMemory}

-- a commutative ring with one, in which 0 is not 1 and each element but 0 has an inverse
pub record IsField (f : FiniteField) : Type 0 where
  pub ring : IsCommutativeRing (field_ring f)
  pub zero_not_one : (field_ring f).zero ≢ (field_ring f).one
  pub inverse_below : (a : ℕ) → inv f.given a < order f.given
  pub mul_inverse : (a : ℕ) → a < order f.given → a ≢ 0 → mul f.given a (inv f.given a) ≡ 1

-- every finite field is a field
abbrev pub FieldsAreFields : Type 0
FieldsAreFields = (f : FiniteField) → IsField f

-- the powers g^0 .. g^(q-2) are all elements but 0, each once
pub record PowersAreUnits (f : FiniteField) : Type 0 where
  pub not_zero : (e : ℕ) → power f.given f.given.g e ≢ 0
  pub below : (e : ℕ) → power f.given f.given.g e < order f.given
  pub all : (a : ℕ) → a < order f.given → a ≢ 0 → (e : ℕ) × (e < order f.given - 1) × (power f.given f.given.g e ≡ a)
  pub once : (d e : ℕ) → d < order f.given - 1 → e < order f.given - 1 → power f.given f.given.g d ≡ power f.given f.given.g e → d ≡ e

-- the generator of every finite field generates its units
abbrev pub GeneratorsGenerate : Type 0
GeneratorsGenerate = (f : FiniteField) → PowersAreUnits f

-- `element f` carries sums to sums and products to products, reaches each element by the polynomial of its digits, and
-- carries (p, f) to 0
pub record IsQuotientMap (f : FieldData) : Type 0 where
  pub below : (v : List ℕ) → element f v < order f
  pub sum : (u v : List ℕ) → element f (plus u v) ≡ add f (element f u) (element f v)
  pub product : (u v : List ℕ) → element f (times u v) ≡ mul f (element f u) (element f v)
  pub onto : (a : ℕ) → a < order f → element f (polynomial f a) ≡ a
  pub polynomial_length : (a : ℕ) → length (polynomial f a) ≡ degree f
  pub polynomial_below : (a : ℕ) → All (λ c. c < f.p) (polynomial f a)
  pub polynomial_number : (a : ℕ) → a < order f → number f.p (polynomial f a) ≡ a
  pub modulus : element f (f.coefficients ++ 1 ∷ []) ≡ 0
  pub characteristic : (v : List ℕ) → element f (scale f.p v) ≡ 0

-- the elements are the polynomials modulo p and f, for every p from 2 on and every f of degree at least 1
abbrev pub ElementsAreQuotient : Type 0
ElementsAreQuotient = (f : FieldData) → IsRingData f → IsQuotientMap f

-- but for want of memory, which has no cause, at most one fault is true of given data
abbrev pub FaultsExclude : Type 0
FaultsExclude = (f : FieldData) (d e : FieldFault) → IsFault f d → IsFault f e → d ≢ NoMemory → e ≢ NoMemory → d ≡ e

-- and none is true of a field within the limits
abbrev pub FieldsHaveNoFault : Type 0
FieldsHaveNoFault = (f : FieldData) → IsWithinLimit f → IsFieldData f → (e : FieldFault) → IsFault f e → e ≡ NoMemory

-- the test that a value of `FiniteField` carries is passed exactly by the data of a field
abbrev pub TestIsExact : Type 0
TestIsExact = (f : FieldData) → T (is_field f) ↔ IsFieldData f
