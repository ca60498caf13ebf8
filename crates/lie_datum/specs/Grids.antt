-- Tables of values at pairs, and names kept by a vector.
-- For proofs: no public clause cites it.
use Rattle.std.specs.Prelude.{◌≡◌, ℕ, ◌<◌, ℤ, List, [], ◌∷◌, ◌++◌, map, length, slice_index_or, Option, MatchOption}
use Rattle.std.specs.List.{Contains}
use Rattle.lie_datum.specs.Vectors.{Vector}
use Rattle.lie_datum.specs.Numbers.{number_at}

-- the values f x y, row by row
abbrev pub grid : {A B C : Type 0} → (A → B → C) → List A → List B → List C
grid f [] ys = []
grid f (x ∷ xs) ys = map (f x) ys ++ grid f xs ys

-- the places x and y, x before y, have one vector
abbrev pub IsSamePair : List Vector → ℕ → ℕ → Type 0
IsSamePair vs x y = (x < y) × (y < length vs) × (slice_index_or vs x [] ≡ slice_index_or vs y [])

-- the answer is the number at a place of v among the vectors, and None where v has none; m is the number of positive roots
abbrev pub IsIndexed : ℕ → List Vector → Vector → Option ℤ → Type 0
IsIndexed m vs v o = MatchOption o (¬ Contains vs v) (λ n. (k : ℕ) × (k < length vs) × (n ≡ number_at m k) × (slice_index_or vs k v ≡ v))
