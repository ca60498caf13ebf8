-- How a module is completed from the matrices of its simple roots, root by root: by rising absolute height, then in the full order.
-- For proofs: no public clause cites it.
use Rattle.std.specs.Prelude.{◌≡◌, ◌≢◌, ◌⊎◌, ℕ, zero, suc, ◌-◌, ◌<◌, ◌≤◌, ℤ, pos, neg_ℤ, List, [], length, slice_index_or, slice_set, ⊤}
use Rattle.std.specs.List.{All}
use Rattle.lie_ring.specs.Matrices.{Matrix, zero_matrix}
use Rattle.lie_datum.specs.Vectors.{Vector}
use Rattle.lie_datum.specs.Numbers.{place}
use Rattle.lie_datum.specs.RootDatum.{rank, IsSimpleIndex}
use Rattle.lie_datum.specs.RootList.{RootDatum, IsNumber}
use Rattle.lie_const.specs.Modules.{Module, IsModule, dimension, divided_powers, divided_power, top}
use Rattle.lie_const.specs.Signs.{Signs}
use Rattle.lie_weight.specs.declared.entry.Entry.{Entry}
use Rattle.lie_weight.specs.declared.factors.Factors.{Factors}
use Rattle.lie_weight.specs.declared.faults.ModuleFault.{ModuleFault}
use Rattle.lie_weight.specs.declared.faults.ModuleFault.TheVariants.{NoMemory, NotMinuscule, Table, Wide, Heavy, Huge}
use Rattle.lie_weight.specs.declared.sources.Source.{Source}
use Rattle.lie_weight.specs.declared.sources.Source.TheVariants.{Steps, Entries}
use Rattle.lie_weight.specs.Kept.{IsSquare}
use Rattle.lie_weight.specs.Conjugation.{absolute_height, IsCompletedAt, IsCompletedBelow, IsHuge, IsFirstHuge}
use Rattle.lie_weight.specs.OrbitModules.{step_matrix}
use Rattle.lie_weight.specs.Tables.{given_matrix, IsEntry}
use Rattle.lie_weight.specs.Factors.{IsBoundedBy, AreModuleFactors}

-- ---- the matrices of a root
-- the matrix of a list, of size n and counted from 0: 0 past its end
abbrev pub matrix_at : ℕ → List (Matrix ℤ) → ℕ → Matrix ℤ
matrix_at n Ms k = slice_index_or Ms k (zero_matrix (pos 0) n n)

-- the matrices from c on are 0, and the one before is not
pub record IsKeptCount (n : ℕ) (Ms : List (Matrix ℤ)) (c : ℕ) : Type 0 where
  pub within : c ≤ length Ms
  pub rest : (k : ℕ) → c ≤ k → matrix_at n Ms k ≡ zero_matrix (pos 0) n n
  pub last : (k : ℕ) → c ≡ suc k → matrix_at n Ms k ≢ zero_matrix (pos 0) n n

-- Ns are the matrices Ms up to the last that is not 0
pub record IsTrimmed (n : ℕ) (Ms Ns : List (Matrix ℤ)) : Type 0 where
  pub few : length Ns ≤ length Ms
  pub each : (k : ℕ) → matrix_at n Ns k ≡ matrix_at n Ms k
  pub last : (k : ℕ) → length Ns ≡ suc k → matrix_at n Ns k ≢ zero_matrix (pos 0) n n
  pub squares : All (IsSquare n) Ns

-- the matrices of a root whose E^(k+1) is f k, of size n, up to the last that is not 0
pub record KeepsAll (n : ℕ) (f : ℕ → Matrix ℤ) (Ms : List (Matrix ℤ)) : Type 0 where
  pub few : length Ms ≤ 16
  pub each : (k : ℕ) → matrix_at n Ms k ≡ f k
  pub last : (k : ℕ) → length Ms ≡ suc k → f k ≢ zero_matrix (pos 0) n n
  pub squares : All (IsSquare n) Ms

-- ---- where the matrices of the simple roots come from; the powers count from 0
-- the steps along these weights
abbrev pub step_powers : RootDatum → List Vector → ℤ → ℕ → Matrix ℤ
step_powers d ws r zero = step_matrix d ws r
step_powers d ws r (suc k) = zero_matrix (pos 0) (length ws) (length ws)

-- the entries of a table
abbrev pub given_powers : ℕ → List Entry → ℤ → ℕ → Matrix ℤ
given_powers n es r k = given_matrix n es r (suc k)

-- what a source gives
abbrev pub source_powers : RootDatum → List Vector → Source → ℤ → ℕ → Matrix ℤ
source_powers d ws Steps r k = step_powers d ws r k
source_powers d ws (Entries es) r k = given_powers (length ws) es.now r k

-- a source for n weights; where there is one weight, there is no entry
abbrev pub IsSource : RootDatum → ℕ → Source → Type 0
IsSource d n Steps = ⊤
IsSource d n (Entries es) = All (IsEntry d n) es.now × (n ≡ 1 → es.now ≡ [])

-- ---- drafts
-- a module whose roots have at most 16 matrices each
pub record IsDraft (d : RootDatum) (v : Module) : Type 0 where
  pub shape : IsModule d v
  pub few : (r : ℤ) → IsNumber d r → top v r ≤ 16

-- those of the simple roots and of their negatives have entries within 100
pub record IsSmallDraft (d : RootDatum) (v : Module) : Type 0 where
  pub draft : IsDraft d v
  pub up : (i k : ℕ) → IsSimpleIndex d.base i → IsBoundedBy (dimension v) 100 (divided_power v (pos i) (suc k))
  pub down : (i k : ℕ) → IsSimpleIndex d.base i → IsBoundedBy (dimension v) 100 (divided_power v (neg_ℤ (pos i)) (suc k))

-- the module with these matrices for the root r
abbrev pub with_powers : Module → ℤ → List (Matrix ℤ) → Module
with_powers v r Ms = record { positive = v.positive; weights = v.weights; powers = slice_set v.powers (place v.positive r) Ms }

-- the matrices of r are those that g gives, and those of the others stay
abbrev pub Writes : (ℤ → ℕ → Matrix ℤ) → Module → ℤ → Module → Type 0
Writes g v r w = (Ms : List (Matrix ℤ)) × KeepsAll (dimension v) (g r) Ms × (w ≡ with_powers v r Ms)

-- the first n simple roots and their negatives have the matrices that g gives
pub record IsFilled (d : RootDatum) (g : ℤ → ℕ → Matrix ℤ) (n : ℕ) (v : Module) : Type 0 where
  pub draft : IsDraft d v
  pub up : (i k : ℕ) → IsSimpleIndex d.base i → i ≤ n → divided_power v (pos i) (suc k) ≡ g (pos i) k
  pub down : (i k : ℕ) → IsSimpleIndex d.base i → i ≤ n → divided_power v (neg_ℤ (pos i)) (suc k) ≡ g (neg_ℤ (pos i)) k

-- ---- completion
-- v has the weights of u, and its matrices of the simple roots and of their negatives
pub record Extends (d : RootDatum) (u v : Module) : Type 0 where
  pub shape : IsModule d v
  pub weights : v.weights ≡ u.weights
  pub up : (i : ℕ) → IsSimpleIndex d.base i → divided_powers v (pos i) ≡ divided_powers u (pos i)
  pub down : (i : ℕ) → IsSimpleIndex d.base i → divided_powers v (neg_ℤ (pos i)) ≡ divided_powers u (neg_ℤ (pos i))

-- r is of less absolute height than h, or of that height and before the place p
abbrev pub IsBefore : RootDatum → ℕ → ℕ → ℤ → Type 0
IsBefore d h p r = (absolute_height d r < h) ⊎ ((absolute_height d r ≡ h) × (place (length d.positive) r < p))

-- the roots before that place are completed, with no work that is huge
pub record IsPartly (d : RootDatum) (eta : Signs) (h p : ℕ) (v : Module) : Type 0 where
  pub draft : IsDraft d v
  pub completed : (r : ℤ) → IsNumber d r → IsBefore d h p r → IsCompletedAt d eta v r
  pub small : (r : ℤ) (k : ℕ) → IsNumber d r → IsBefore d h p r → ¬ IsHuge d v r k

-- the list has the factors of each simple index
pub record AreAllFactors (d : RootDatum) (v : Module) (fs : List Factors) : Type 0 where
  pub count : length fs ≡ rank d.base
  pub each : (i : ℕ) (z : Factors) → IsSimpleIndex d.base i → AreModuleFactors v i (slice_index_or fs (i - 1) z)

-- why the module is not completed
abbrev pub IsConjugateFault : RootDatum → Signs → Module → ModuleFault → Type 0
IsConjugateFault d eta v NoMemory = ⊤
IsConjugateFault d eta v (Huge r k) = IsCompletedBelow d eta v (absolute_height d r) × IsFirstHuge d v r k
IsConjugateFault d eta v (NotMinuscule r) = ⊥
IsConjugateFault d eta v (Table n) = ⊥
IsConjugateFault d eta v (Wide n) = ⊥
IsConjugateFault d eta v (Heavy a) = ⊥
