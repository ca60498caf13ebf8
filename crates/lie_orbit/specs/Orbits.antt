-- Orbits of weights under the simple reflections.
-- Source: Bourbaki, Groupes et algèbres de Lie, VIII, 7, 3 (minuscule weights).
-- Own: the order of the members, and that no more than 1,025 are counted.
--
--   s_i x              reflected_weight d i x        x - <x, a_i^> a_i; i counts from 1
--   the orbit of w     IsReached d w x               x is in it
--   x before y         weight_cmp d x y              by the pairing with the sum of the positive coroots
use Rattle.std.specs.Prelude.{◌≡◌, ℕ, ◌+◌, ◌<◌, ◌≤◌, neg_ℤ, List, length, slice_index_or, unsigned_abs, ◌↔◌, ⊤}
use Rattle.std.specs.List.{Contains}
use Rattle.std.specs.List.Sorted.{IsStrictlySortedBy}
use Rattle.std.specs.Ordering.{int_cmp, ordering_then}
use Rattle.std.specs.Cmp.Lexicographic.{slice_cmp}
use Rattle.std.specs.declared.cmp.Ordering.{Ordering}
use Rattle.lie_datum.specs.Vectors.{Vector, pairing, plus, times, entry}
use Rattle.lie_datum.specs.RootDatum.{simple_root, simple_coroot, IsSimpleIndex}
use Rattle.lie_datum.specs.RootList.{RootDatum}
use Rattle.lie_datum.specs.Laws.{positive_coroots}
use Rattle.lie_orbit.specs.declared.faults.OrbitFault.{OrbitFault}
use Rattle.lie_orbit.specs.declared.faults.OrbitFault.TheVariants.{NoMemory, TooMany}

-- the simple reflection of a weight
abbrev pub reflected_weight : RootDatum → ℕ → Vector → Vector
reflected_weight d i x = plus x (times (neg_ℤ (pairing x (simple_coroot d.base i))) (simple_root d.base i))

-- x is reached from the weight w by simple reflections
pub data IsReached (d : RootDatum) (w : Vector) : Vector → Type 0 where
  start : IsReached d w w
  next : (i : ℕ) (x : Vector) → IsSimpleIndex d.base i → IsReached d w x → IsReached d w (reflected_weight d i x)

-- the order of weights: the greater pairing with the sum of the positive coroots first, then the greater vector first
abbrev pub weight_cmp : RootDatum → Vector → Vector → Ordering
weight_cmp d x y = ordering_then (int_cmp (pairing y (positive_coroots d)) (pairing x (positive_coroots d))) (slice_cmp int_cmp y x)

-- the orbit of w, in order
pub record IsOrbit (d : RootDatum) (w : Vector) (ws : List Vector) : Type 0 where
  pub sorted : IsStrictlySortedBy (weight_cmp d) ws
  pub members : (x : Vector) → Contains ws x ↔ IsReached d w x

-- no member twice
abbrev pub AreDistinct : List Vector → Type 0
AreDistinct ws = (j k : ℕ) (z : Vector) → j < k → k < length ws → ¬ (slice_index_or ws j z ≡ slice_index_or ws k z)

-- the orbit of w has n members, or it has n at least, where n is 1,025
pub record IsOrbitSize (d : RootDatum) (w : Vector) (n : ℕ) : Type 0 where
  pub ws : List Vector
  pub count : length ws ≡ n
  pub few : n ≤ 1025
  pub distinct : AreDistinct ws
  pub reached : (x : Vector) → Contains ws x → IsReached d w x
  pub whole : n < 1025 → (x : Vector) → IsReached d w x → Contains ws x

-- why the orbit of w is not listed: it has 1,025 members at least; want of memory has no cause
abbrev pub IsOrbitFault : RootDatum → Vector → OrbitFault → Type 0
IsOrbitFault d w NoMemory = ⊤
IsOrbitFault d w TooMany = IsOrbitSize d w 1025

-- in absolute value no coordinate of x is more than n above that of w
abbrev pub IsNear : Vector → ℕ → Vector → Type 0
IsNear w n x = (k : ℕ) → unsigned_abs (entry x k) ≤ unsigned_abs (entry w k) + n
