-- The torus over a field is a commutative group, for every field and every dimension.
use Rattle.std.proofs.Common.{◌≡◌, ℕ, eqb, T, List, [], ◌∷◌, map, length, replicate, refl, sym, ap, ap₂, ◌∙◌}
use Rattle.std.proofs.Math.Facts.{eqb_yes}
use lib.Dec.{T_prop}
use mathlib.Core.HLevel.{Σ_prop_path}
use Rattle.lie_field.specs.FiniteField.{FiniteField}
use Rattle.lie_field.specs.Elements.{NonZero, unit_one, unit_inv, unit_assoc, unit_comm, unit_mul_one, unit_mul_inv}
use Rattle.lie_letters.specs.Torus.{Torus, each_mul, torus_one, torus_mul, torus_inv}

-- vectors with the same entries are the same
pub same_torus : (f : FiniteField) (d : ℕ) (t u : Torus f d) → t.entries ≡ u.entries → t ≡ u
same_torus f d t u e =
    let pairs : ◌≡◌ {A = (xs : List (NonZero f)) × T (eqb (length xs) d)} (t.entries, t.long) (u.entries, u.long) = Σ_prop_path (λ xs. T_prop _) e in
    λ i. record { entries = (pairs i).0; long = (pairs i).1 }

module _ (f : FiniteField) where
  each_assoc : (t u v : List (NonZero f)) → each_mul f (each_mul f t u) v ≡ each_mul f t (each_mul f u v)
  each_assoc [] u v = refl
  each_assoc (a ∷ t) [] v = refl
  each_assoc (a ∷ t) (b ∷ u) [] = refl
  each_assoc (a ∷ t) (b ∷ u) (c ∷ v) = ap₂ ◌∷◌ (unit_assoc f a b c) (each_assoc t u v)

  each_comm : (t u : List (NonZero f)) → each_mul f t u ≡ each_mul f u t
  each_comm [] [] = refl
  each_comm [] (b ∷ u) = refl
  each_comm (a ∷ t) [] = refl
  each_comm (a ∷ t) (b ∷ u) = ap₂ ◌∷◌ (unit_comm f a b) (each_comm t u)

  each_mul_one : (t : List (NonZero f)) → each_mul f t (replicate (length t) (unit_one f)) ≡ t
  each_mul_one [] = refl
  each_mul_one (a ∷ t) = ap₂ ◌∷◌ (unit_mul_one f a) (each_mul_one t)

  each_mul_inv : (t : List (NonZero f)) → each_mul f t (map (unit_inv f) t) ≡ replicate (length t) (unit_one f)
  each_mul_inv [] = refl
  each_mul_inv (a ∷ t) = ap₂ ◌∷◌ (unit_mul_inv f a) (each_mul_inv t)

  module _ (d : ℕ) where
    pub torus_assoc : (t u v : Torus f d) → torus_mul f d (torus_mul f d t u) v ≡ torus_mul f d t (torus_mul f d u v)
    unfolding torus_mul
    torus_assoc t u v = same_torus f d _ _ (each_assoc t.entries u.entries v.entries)

    pub torus_comm : (t u : Torus f d) → torus_mul f d t u ≡ torus_mul f d u t
    unfolding torus_mul
    torus_comm t u = same_torus f d _ _ (each_comm t.entries u.entries)

    pub torus_mul_one : (t : Torus f d) → torus_mul f d t (torus_one f d) ≡ t
    unfolding torus_mul torus_one
    torus_mul_one t =
        same_torus f d _ _ (ap (λ n. each_mul f t.entries (replicate n (unit_one f))) (sym (eqb_yes t.long)) ∙ each_mul_one t.entries)

    pub torus_mul_inv : (t : Torus f d) → torus_mul f d t (torus_inv f d t) ≡ torus_one f d
    unfolding torus_mul torus_inv torus_one
    torus_mul_inv t =
        same_torus f d _ _ (each_mul_inv t.entries ∙ ap (λ n. replicate n (unit_one f)) (eqb_yes t.long))
