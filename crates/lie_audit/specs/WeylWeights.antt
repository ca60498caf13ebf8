-- On an audited module the matrix of a word in the n_i carries the basis vectors of a weight to those of the reflected weight.
-- Source: Carter, Simple Groups of Lie Type, 7.2 (n_i acts on the diagonal subgroup as the reflection s_i).
-- Own: weights are compared by their pairings, since a vector that is shorter counts as having zeros behind its end.
--
--   the weight of place a     weight_at v a
--   x and y are one weight    SameWeight x y                they have the same pairings
--   s_i x                     reflected_weight d i x
--   w x                       reflected_along d w x         the last letter of w first
use Rattle.std.specs.Prelude.{◌≡◌, ◌≢◌, ℕ, ◌<◌, pos, List, [], ◌∷◌, map, slice_index_or}
use Rattle.lie_ring.specs.Integers.{integers}
use Rattle.lie_ring.specs.Matrices.{Matrix, entry}
use Rattle.lie_field.specs.FiniteField.{FiniteField}
use Rattle.lie_datum.specs.Vectors.{Vector, pairing}
use Rattle.lie_datum.specs.RootDatum.{IsSimpleIndex}
use Rattle.lie_datum.specs.RootList.{RootDatum, IsLoaded}
use Rattle.lie_weyl.specs.WeylElement.{AreLetters}
use Rattle.lie_orbit.specs.Orbits.{reflected_weight}
use Rattle.lie_const.specs.ConstantTables.{ConstantTable}
use Rattle.lie_const.specs.Modules.{Module, dimension, weyl_element}
use Rattle.lie_const.specs.Signs.{Signs}
use Rattle.lie_letters.specs.declared.letter.Letter.TheVariants.{N}
use Rattle.lie_identities.specs.Audit.{MeetsIdentities}
use Rattle.lie_audit.specs.WordMatrix.{word_matrix}

-- the weight of the basis vector in the place a
abbrev pub weight_at : Module → ℕ → Vector
weight_at v a = slice_index_or v.weights a []

-- they pair alike with each vector of Y
abbrev pub SameWeight : Vector → Vector → Type 0
SameWeight x y = (c : Vector) → pairing x c ≡ pairing y c

-- a weight under the simple reflections of a word, the last letter first
abbrev pub reflected_along : RootDatum → List ℕ → Vector → Vector
reflected_along d [] x = x
reflected_along d (i ∷ w) x = reflected_weight d i (reflected_along d w x)

-- where an entry is not z, the weight of its row is the image under g of the weight of its column
abbrev pub MovesWeights : {A : Type 0} → A → Module → (Vector → Vector) → Matrix A → Type 0
MovesWeights z v g M = (a b : ℕ) → a < dimension v → b < dimension v → entry z M a b ≢ z → SameWeight (weight_at v a) (g (weight_at v b))

-- on a module that is audited for a root datum, whatever the constants and the signs
pub record WeylMovesWeights : Type 0 where
  -- N_i moves weights as s_i does, over the integers
  pub integers : (d : RootDatum) (c : ConstantTable) (eta : Signs) (v : Module) → IsLoaded d → MeetsIdentities d c eta v
      → (i : ℕ) → IsSimpleIndex d.base i → MovesWeights (pos 0) v (reflected_weight d i) (weyl_element integers v i)
  -- the matrix of a word in the n_i moves weights as the reflections of the word do, over every finite field
  pub words : (f : FiniteField) (d : RootDatum) (c : ConstantTable) (eta : Signs) (v : Module) → IsLoaded d → MeetsIdentities d c eta v
      → (w : List ℕ) → AreLetters d.base w → MovesWeights 0 v (reflected_along d w) (word_matrix f v (map N w))
