-- How a torus vector is read off a diagonal matrix: the values of the roots, and that of what lowers to 0.
-- For proofs: no public clause cites it.
-- Source: Carter, Simple Groups of Lie Type, 7.1 (characters of the diagonal subgroup).
-- Own: each axis of X is a combination of a weight and of roots, or of weights, by the cover.
--
--   D is the matrix of h(t)                          D ≡ torus_element f v t
--   then x(t) = a                                    IsValueAt f v D x a    t has at most 8 entries
--   a value for each of the first roots              AreRootValues f d v D k values
--   x(t) = a y(t)                                    IsQuotientAt f v D x y a
--   D is the matrix of h(t) for no t but this one    IsTorusOf f d v D t
use Rattle.std.specs.Prelude.{◌≡◌, ℕ, ◌<◌, ◌≤◌, ℤ, List, length, slice_index_or}
use Rattle.lie_ring.specs.Matrices.{Matrix}
use Rattle.lie_field.specs.FiniteField.{FiniteField}
use Rattle.lie_field.specs.Quotient.{mul}
use Rattle.lie_datum.specs.Vectors.{Vector}
use Rattle.lie_datum.specs.Numbers.{number_at}
use Rattle.lie_datum.specs.RootDatum.{vector}
use Rattle.lie_datum.specs.RootList.{RootDatum, root_of}
use Rattle.lie_const.specs.Modules.{Module}
use Rattle.lie_letters.specs.Entries.{IsUnit, AreUnits, character}
use Rattle.lie_audit.specs.WordMatrix.{torus_element}

-- a is a unit, and the value at t of the vector x, wherever D is the matrix of h(t)
pub record IsValueAt (f : FiniteField) (v : Module) (D : Matrix ℕ) (x : Vector) (a : ℕ) : Type 0 where
  pub unit : IsUnit f a
  pub value : (t : List ℕ) → length t ≤ 8 → AreUnits f t → D ≡ torus_element f v t → character f t x ≡ a

-- a is the value of the root r
abbrev pub IsRootValue : FiniteField → RootDatum → Module → Matrix ℕ → ℤ → ℕ → Type 0
IsRootValue f d v D r a = IsValueAt f v D (vector d.base (root_of d r)) a

-- a value for each of the first k roots in the full order
pub record AreRootValues (f : FiniteField) (d : RootDatum) (v : Module) (D : Matrix ℕ) (k : ℕ) (values : List ℕ) : Type 0 where
  pub count : length values ≡ k
  pub each : (p : ℕ) → p < k → IsRootValue f d v D (number_at (length d.positive) p) (slice_index_or values p 0)

-- a is a unit, and the value of x is a times that of y
pub record IsQuotientAt (f : FiniteField) (v : Module) (D : Matrix ℕ) (x y : Vector) (a : ℕ) : Type 0 where
  pub unit : IsUnit f a
  pub value : (t : List ℕ) → length t ≤ 8 → AreUnits f t → D ≡ torus_element f v t → character f t x ≡ mul f.given a (character f t y)

-- t is a torus vector, and D is the matrix of h(s) for no other s
pub record IsTorusOf (f : FiniteField) (d : RootDatum) (v : Module) (D : Matrix ℕ) (t : List ℕ) : Type 0 where
  pub long : d.base.dim ≡ length t
  pub units : AreUnits f t
  pub only : (s : List ℕ) → d.base.dim ≡ length s → AreUnits f s → D ≡ torus_element f v s → t ≡ s
