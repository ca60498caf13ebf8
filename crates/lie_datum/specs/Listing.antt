-- The list of the positive roots is picked from the closure and sorted.
-- For proofs: no public clause cites it.
use Rattle.std.specs.Prelude.{◌≡◌, ◌≢◌, ◌≤◌, List, length, Option, MatchOption}
use Rattle.std.specs.List.{Contains}
use Rattle.std.specs.Ordering.{int_cmp}
use Rattle.std.specs.Cmp.Lexicographic.{slice_cmp}
use Rattle.std.specs.declared.cmp.Ordering.TheVariants.{Greater}
use Rattle.lie_datum.specs.declared.listing.Ranked.{Ranked}
use Rattle.lie_datum.specs.Vectors.{Vector}
use Rattle.lie_datum.specs.RootDatum.{Base, Root, IsMixed, IsFinite, IsUnmixed}
use Rattle.lie_datum.specs.RootList.{height, IsPositiveList}
use Rattle.lie_datum.specs.Closure.{IsDistinctList}

-- v is the greatest coefficient vector with both signs in the list
pub record IsGreatestMixedIn (rs : List Root) (v : Vector) : Type 0 where
  pub some : (r : Root) × Contains rs r × IsMixed r × (r.coeffs ≡ v)
  pub greatest : (r : Root) → Contains rs r → IsMixed r → slice_cmp int_cmp r.coeffs v ≢ Greater

-- the greatest coefficient vector with both signs, and None where there is none
abbrev pub IsGreatestMixedOf : List Root → Option Vector → Type 0
IsGreatestMixedOf rs o = MatchOption o ((r : Root) → Contains rs r → ¬ IsMixed r) (IsGreatestMixedIn rs)

-- ys has the members of xs that are P, none twice where xs has none twice
pub record IsPicked (P : Root → Type 0) (xs ys : List Root) : Type 0 where
  pub only : (r : Root) → Contains ys r → Contains xs r × P r
  pub every : (r : Root) → Contains xs r → P r → Contains ys r
  pub once : IsDistinctList xs → IsDistinctList ys

-- the root without its height
abbrev pub ranked_root : Ranked → Root
ranked_root x = x.root.0

-- the height that is kept is that of the root
abbrev pub IsRanked : Ranked → Type 0
IsRanked x = x.height ≡ height x.root.0

-- the fourth and the fifth axiom hold, and these are the positive roots
pub record IsListed (b : Base) (rs : List Root) : Type 0 where
  pub finite : IsFinite b
  pub unmixed : IsUnmixed b
  pub list : IsPositiveList b rs
  pub few : length rs ≤ 120
