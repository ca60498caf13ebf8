-- The product of torus vectors by the numbers of their entries is that of a commutative group.
use Rattle.std.proofs.Common.{◌≡◌, ℕ, List, [], ◌∷◌, length, refl, ap₂}
use Rattle.lie_field.specs.FiniteField.{FiniteField}
use Rattle.lie_field.specs.Algebra.FieldTest.{is_lawful}
use Rattle.lie_field.specs.Algebra.Laws
use Rattle.lie_field.specs.Algebra.Powers
use Rattle.lie_letters.specs.Entries.{AreUnits, ones, times_each, inverses, IsTorusGroup}
use Rattle.lie_letters.proofs.TorusLemmas.{AreUnits-times_each, AreUnits-inverses}

times_each_assoc : (f : FiniteField) (t u v : List ℕ) → times_each f (times_each f t u) v ≡ times_each f t (times_each f u v)
times_each_assoc f [] u v = refl
times_each_assoc f (a ∷ t) [] v = refl
times_each_assoc f (a ∷ t) (b ∷ u) [] = refl
times_each_assoc f (a ∷ t) (b ∷ u) (c ∷ v) = ap₂ ◌∷◌ (Laws.mul_assoc f.given (is_lawful f).ring a b c) (times_each_assoc f t u v)

times_each_comm : (f : FiniteField) (t u : List ℕ) → times_each f t u ≡ times_each f u t
times_each_comm f [] [] = refl
times_each_comm f [] (b ∷ u) = refl
times_each_comm f (a ∷ t) [] = refl
times_each_comm f (a ∷ t) (b ∷ u) = ap₂ ◌∷◌ (Laws.mul_comm f.given (is_lawful f).ring a b) (times_each_comm f t u)

times_each-ones : (f : FiniteField) (t : List ℕ) → AreUnits f t → times_each f t (ones (length t)) ≡ t
times_each-ones f [] h = refl
times_each-ones f (a ∷ t) h = ap₂ ◌∷◌ (Laws.mul_one f.given (is_lawful f).ring a h.0.1) (times_each-ones f t h.1)

times_each-inverses : (f : FiniteField) (t : List ℕ) → AreUnits f t → times_each f t (inverses f t) ≡ ones (length t)
times_each-inverses f [] h = refl
times_each-inverses f (a ∷ t) h = ap₂ ◌∷◌ (Powers.mul-inv f.given (is_lawful f) a h.0.0 h.0.1) (times_each-inverses f t h.1)

-- the vectors of units are a commutative group
pub torus_group : (f : FiniteField) → IsTorusGroup f
torus_group f = record {
  mul_assoc = times_each_assoc f;
  mul_comm = times_each_comm f;
  mul_one = times_each-ones f;
  mul_inv = times_each-inverses f;
  units = AreUnits-times_each f;
  units_inv = AreUnits-inverses f;
}
