-- Descents: the simple reflections that make an element shorter from the right.
-- Source: Humphreys, Reflection Groups and Coxeter Groups, 1.6 (the length function).
-- Own: the heights of the images of the simple roots, which tell the descents.
use Rattle.std.specs.Prelude.{◌≡◌, ◌≢◌, ◌≤◌, ◌<◌, ◌-◌, ◌+ℤ◌, ◌-ℤ◌, ◌*ℤ◌, ◌<ℤ◌, ◌≤ℤ◌, ℕ, pos, List, length}
use Rattle.std.specs.Ordering.{nat_cmp}
use Rattle.std.specs.Cmp.Lexicographic.{slice_cmp}
use Rattle.std.specs.declared.cmp.Ordering.TheVariants.{Greater}
use Rattle.lie_datum.specs.Vectors.{Vector, entry}
use Rattle.lie_datum.specs.RootDatum.{rank, simple, reflected, IsSimpleIndex}
use Rattle.lie_datum.specs.RootList.{RootDatum, height}
use Rattle.lie_weyl.specs.WeylElement.{moved, AreLetters, SameProduct, word_length}

-- the heights of the images of the simple roots, that of a_i at place i - 1
abbrev pub AreHeights : RootDatum → List ℕ → Vector → Type 0
AreHeights d w heights = (i : ℕ) → IsSimpleIndex d.base i → entry heights (i - 1) ≡ height (moved d.base w (simple i))

-- zeros behind the rank
abbrev pub EndsAtRank : RootDatum → Vector → Type 0
EndsAtRank d heights = (k : ℕ) → rank d.base ≤ k → entry heights k ≡ pos 0

-- the heights for the element times s_i, from those for the element
abbrev pub AreTurned : RootDatum → ℕ → Vector → Vector → Type 0
AreTurned d i heights turned =
    (j : ℕ) → IsSimpleIndex d.base j → entry turned (j - 1) ≡ entry heights (j - 1) +ℤ (height (reflected d.base i (simple j)) -ℤ pos 1) *ℤ entry heights (i - 1)

-- place k is the first that holds a number below 0
pub record IsFirstNegative (heights : Vector) (k : ℕ) : Type 0 where
  pub below : entry heights k <ℤ pos 0
  pub first : (j : ℕ) → j < k → pos 0 ≤ℤ entry heights j

-- p is the lexicographically least of the shortest words that have the product of w
pub record IsLeastOf (d : RootDatum) (w p : List ℕ) : Type 0 where
  pub letters : AreLetters d.base p
  pub same : SameProduct d w p
  pub shortest : length p ≡ word_length d w
  pub least : (v : List ℕ) → AreLetters d.base v → SameProduct d w v → length v ≡ length p → slice_cmp nat_cmp p v ≢ Greater
