-- The places of the basis of a module, by falling level of their weights; places of one weight stand together.
-- For proofs: no public clause cites it.
-- Own: weights of one level stand as in the lists of orbits, the greater vector first.
--
--   a place with its weight and level       IsPlaced d v p
--   the places in this order                AreInOrder d v ps
use Rattle.std.specs.Prelude.{◌≡◌, ◌≢◌, ◌⊎◌, ℕ, ◌<◌, ◌≤◌, List, length, slice_index_or}
use Rattle.std.specs.List.{All}
use Rattle.std.specs.declared.cmp.Ordering.TheVariants.{Less}
use Rattle.lie_datum.specs.RootList.{RootDatum}
use Rattle.lie_const.specs.Modules.{Module, dimension}
use Rattle.lie_orbit.specs.Orbits.{weight_cmp}
use Rattle.lie_audit.specs.WeylWeights.{weight_at}
use Rattle.lie_reduce.specs.declared.places.Placed.{Placed}
use Rattle.lie_reduce.specs.Levels.{level}

-- the weight and the level are those of the place, and the weight has 8 entries
pub record IsPlaced (d : RootDatum) (v : Module) (p : Placed) : Type 0 where
  pub within : p.place < dimension v
  pub weight : p.weight.0 ≡ weight_at v p.place
  pub level : p.level.0 ≡ level d v p.place
  pub long : length p.weight.0 ≡ 8

-- the number of the place
abbrev pub placed_number : Placed → ℕ
placed_number p = p.place

-- each place once, with its number
pub record ArePlaced (d : RootDatum) (v : Module) (ps : List Placed) : Type 0 where
  pub count : length ps ≡ dimension v
  pub each : All (IsPlaced d v) ps
  pub numbers : (a : ℕ) (z : Placed) → a < dimension v → (slice_index_or ps a z).place ≡ a

-- each place once, and the weights in order
pub record AreInOrder (d : RootDatum) (v : Module) (ps : List ℕ) : Type 0 where
  pub count : length ps ≡ dimension v
  pub within : (i : ℕ) → i < dimension v → slice_index_or ps i 0 < dimension v
  pub apart : (i j : ℕ) → i < j → j < dimension v → slice_index_or ps i 0 ≢ slice_index_or ps j 0
  pub onto : (a : ℕ) → a < dimension v → (i : ℕ) × (i < dimension v) × (slice_index_or ps i 0 ≡ a)
  pub long : (i : ℕ) → i < dimension v → length (weight_at v (slice_index_or ps i 0)) ≡ 8
  pub sorted : (i j : ℕ) → i ≤ j → j < dimension v
      → (weight_at v (slice_index_or ps i 0) ≡ weight_at v (slice_index_or ps j 0)) ⊎ (weight_cmp d (weight_at v (slice_index_or ps i 0)) (weight_at v (slice_index_or ps j 0)) ≡ Less)
