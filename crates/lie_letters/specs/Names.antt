-- Roots and simple roots of a datum as types: the places of the full order r_1, .., r_m, r_(-1), .., r_(-m), counted from 0.
-- Own: an operation whose result is no root of the list answers the root that it began with, so each one is total.
--
--   a root                   RootName d              its place in the full order
--   r as coefficients        root_at d r
--   the number of r          signed_number d r       k for r_k, -k for r_(-k)
--   i as a simple index      Index d                 its number counts from 0
use Rattle.std.specs.Prelude.{ℕ, suc, ltb, Bool, true, false, not, ◌&&◌, cond, T, List, [], ◌∷◌, length, slice_index_or, Option, Some, None, ℤ, pos, int_lt}
use Rattle.std.specs.Option.{option_map, unwrap_or, is_some}
use Rattle.std.specs.List.{list_any, filter}
use Rattle.lie_base.specs.Below.{Below, first_place, next_place, places}
use Rattle.lie_datum.specs.Numbers.{number_at}
use Rattle.lie_datum.specs.declared.root_pair.Root.{Root}
use Rattle.lie_datum.specs.RootDatum.{rank, simple, opposite, reflected}
use Rattle.lie_datum.specs.RootList.{RootDatum, all_roots, root_of}
use Rattle.lie_const.specs.StructureConstants.{same_vector}

-- the same coefficients, of the root and of its coroot
abbrev pub same_root : Root → Root → Bool
same_root r s = same_vector r.coeffs s.coeffs && same_vector r.co_coeffs s.co_coeffs

-- the first place of a root in a list
abbrev pub place_of : (rs : List Root) → Root → Option (Below (length rs))
place_of [] r = None
place_of (s ∷ rs) r = cond (same_root s r) (Some (first_place (length rs))) (option_map (next_place (length rs)) (place_of rs r))

-- a root of the datum
abbrev pub RootName : RootDatum → Type 0
RootName d = Below (length (all_roots d))

-- the root that a name stands for
abbrev pub root_at : (d : RootDatum) → RootName d → Root
root_at d r = slice_index_or (all_roots d) r.number (record { coeffs = []; co_coeffs = [] })

-- the name of a root, or the given name where it has none
abbrev pub named : (d : RootDatum) → RootName d → Root → RootName d
named d other r = unwrap_or (place_of (all_roots d) r) other

-- the simple root with this number, counted from 0, is one of the datum and stands in the list
abbrev pub is_index : RootDatum → ℕ → Bool
is_index d k = ltb k (rank d.base) && is_some (place_of (all_roots d) (simple (suc k)))

-- a simple index, counted from 0
pub record Index (d : RootDatum) : Type 0 where
  pub number : ℕ
  pub lawful : T (is_index d number)

-- what a test passes
abbrev pub some_of : {A : Type 0} (o : Option A) → T (is_some o) → A
some_of None t = absurd t
some_of (Some a) t = a

-- the second of two tests that pass
pub right_of : (a b : Bool) → T (a && b) → T b
right_of true b t = t
right_of false b t = absurd t

-- the simple root
unfoldable pub simple_name : (d : RootDatum) → Index d → RootName d
simple_name d i = some_of (place_of (all_roots d) (simple (suc i.number))) (right_of (ltb i.number (rank d.base)) (is_some (place_of (all_roots d) (simple (suc i.number)))) i.lawful)

-- the opposite root
unfoldable pub opposite_name : (d : RootDatum) → RootName d → RootName d
opposite_name d r = named d r (opposite (root_at d r))

-- the simple reflection
unfoldable pub reflect_name : (d : RootDatum) → Index d → RootName d → RootName d
reflect_name d i r = named d r (reflected d.base (suc i.number) (root_at d r))

-- some coefficient is below 0
unfoldable pub is_negative_name : (d : RootDatum) → RootName d → Bool
is_negative_name d r = list_any (λ c. int_lt c (pos 0)) (root_at d r).coeffs

-- the roots that are not negative, in order
unfoldable pub positive_names : (d : RootDatum) → List (RootName d)
positive_names d = filter (λ r. not (is_negative_name d r)) (places (all_roots d))

-- the signed number of a root
unfoldable pub signed_number : (d : RootDatum) → RootName d → ℤ
signed_number d r = number_at (length d.positive) r.number

-- the root of a signed number, or the given root where there is none
unfoldable pub numbered_name : (d : RootDatum) → RootName d → ℤ → RootName d
numbered_name d other k = named d other (root_of d k)
