-- Modules that are given by their weights and by the matrices of the simple roots and of their negatives, and which fault is named
-- where there is none.
-- Source: Steinberg, Lectures on Chevalley Groups, 2 (divided powers shift weights by multiples of the root).
-- Own: the form of the table, the order of the faults, and the bounds: 300 weights, 20,000 entries, powers up to 16, and 100 on an entry.
--
--   an entry           e : Entry                      the entry of E_r^(k), with the row and the column counted from 1
--   E_r^(k)            given_matrix n es r k          r is simple, or the negative of a simple root; 0 where the table has no entry
--   the grading        IsGraded d ws e                the weight of the row is that of the column plus k r
use Rattle.std.specs.Prelude.{◌≡◌, ◌≢◌, ◌⊎◌, ℕ, suc, ◌-◌, ◌<◌, ◌≤◌, ℤ, pos, neg_ℤ, List, [], ◌∷◌, length, take, slice_index_or, cond, eqb, Bool, ◌&&◌, unsigned_abs, Result, Ok, Err, ⊤}
use Rattle.std.specs.List.{Any}
use Rattle.std.specs.Ordering.{int_eq}
use Rattle.lie_ring.specs.Matrices.{Matrix, table}
use Rattle.lie_datum.specs.Vectors.{Vector, plus, times}
use Rattle.lie_datum.specs.RootDatum.{vector, IsSimpleIndex}
use Rattle.lie_datum.specs.RootList.{RootDatum, root_of, IsLoaded}
use Rattle.lie_const.specs.Modules.{Module, IsModule, divided_power}
use Rattle.lie_const.specs.Signs.{Signs}
use Rattle.lie_weight.specs.declared.entry.Entry.{Entry}
use Rattle.lie_weight.specs.declared.faults.ModuleFault.{ModuleFault}
use Rattle.lie_weight.specs.declared.faults.ModuleFault.TheVariants.{NoMemory, NotMinuscule, Table, Wide, Heavy, Huge}
use Rattle.lie_weight.specs.Conjugation.{absolute_height, IsCompleted, IsCompletedBelow, IsHuge, IsFirstHuge}

-- ---- entries
-- what an entry may be, where there are n weights
pub record IsEntry (d : RootDatum) (n : ℕ) (e : Entry) : Type 0 where
  pub simple : IsSimpleIndex d.base (unsigned_abs e.simple)
  pub power : (1 ≤ e.power) × (e.power ≤ 16)
  pub row : (1 ≤ e.row) × (e.row ≤ n)
  pub col : (1 ≤ e.col) × (e.col ≤ n)
  pub value : (e.value ≢ pos 0) × (unsigned_abs e.value ≤ 100)

-- two entries stand in one place
abbrev pub IsSamePlace : Entry → Entry → Type 0
IsSamePlace e f = (e.simple ≡ f.simple) × (e.power ≡ f.power) × (e.row ≡ f.row) × (e.col ≡ f.col)

-- E_r^(k) raises weights by k r
abbrev pub IsGraded : RootDatum → List Vector → Entry → Type 0
IsGraded d ws e = slice_index_or ws (e.row - 1) [] ≡ plus (slice_index_or ws (e.col - 1) []) (times (pos e.power) (vector d.base (root_of d e.simple)))

-- the entry n, counted from 0, stands in the place of an earlier one, or is not graded
pub record IsBadEntry (d : RootDatum) (ws : List Vector) (es : List Entry) (n : ℕ) : Type 0 where
  pub entry : Entry
  pub within : n < length es
  pub here : slice_index_or es n entry ≡ entry
  pub bad : Any (IsSamePlace entry) (take n es) ⊎ (¬ IsGraded d ws entry)

-- no entry is bad
abbrev pub AreGoodEntries : RootDatum → List Vector → List Entry → Type 0
AreGoodEntries d ws es = (n : ℕ) → ¬ IsBadEntry d ws es n

-- n, counted from 1, is the first that is
pub record IsFirstBadEntry (d : RootDatum) (ws : List Vector) (es : List Entry) (n : ℕ) : Type 0 where
  pub first : 1 ≤ n
  pub bad : IsBadEntry d ws es (n - 1)
  pub before : (m : ℕ) → m < n - 1 → ¬ IsBadEntry d ws es m

-- ---- the module
-- whether an entry is that of E_r^(k) in row i and column j, which count from 0
abbrev pub is_at : ℤ → ℕ → ℕ → ℕ → Entry → Bool
is_at r k i j e = int_eq e.simple r && (eqb e.power k && (eqb e.row (suc i) && eqb e.col (suc j)))

-- what stands there: the value of the entry for this place, and 0 if there is none
abbrev pub given_entry : List Entry → ℤ → ℕ → ℕ → ℕ → ℤ
given_entry [] r k i j = pos 0
given_entry (e ∷ es) r k i j = cond (is_at r k i j e) e.value (given_entry es r k i j)

-- the matrix of size n that is given for E_r^(k)
unfoldable pub given_matrix : ℕ → List Entry → ℤ → ℕ → Matrix ℤ
given_matrix n es r k = table n n (given_entry es r k)

-- these weights, and the given matrices for the simple roots and their negatives
pub record HasGiven (d : RootDatum) (ws : List Vector) (es : List Entry) (v : Module) : Type 0 where
  pub shape : IsModule d v
  pub weights : v.weights ≡ ws
  pub up : (i k : ℕ) → IsSimpleIndex d.base i → 1 ≤ k → divided_power v (pos i) k ≡ given_matrix (length ws) es (pos i) k
  pub down : (i k : ℕ) → IsSimpleIndex d.base i → 1 ≤ k → divided_power v (neg_ℤ (pos i)) k ≡ given_matrix (length ws) es (neg_ℤ (pos i)) k

-- the module of a table
pub record IsTableModule (d : RootDatum) (eta : Signs) (ws : List Vector) (es : List Entry) (v : Module) : Type 0 where
  pub given : HasGiven d ws es v
  pub completed : IsCompleted d eta v

-- r and k are the first where the conjugates of the given matrices are huge
pub record IsFirstHugeGiven (d : RootDatum) (eta : Signs) (ws : List Vector) (es : List Entry) (r : ℤ) (k : ℕ) : Type 0 where
  pub partial : Module
  pub given : HasGiven d ws es partial
  pub completed : IsCompletedBelow d eta partial (absolute_height d r)
  pub first : IsFirstHuge d partial r k

-- what `Module::table` answers: the module, or the first fault
abbrev pub LoadsTable : RootDatum → Signs → List Vector → List Entry → Result Module ModuleFault → Type 0
LoadsTable d eta ws es (Ok v) = AreGoodEntries d ws es × IsTableModule d eta ws es v × ((r : ℤ) (k : ℕ) → ¬ IsHuge d v r k)
LoadsTable d eta ws es (Err NoMemory) = ⊤
LoadsTable d eta ws es (Err (NotMinuscule r)) = ⊥
LoadsTable d eta ws es (Err (Table n)) = IsFirstBadEntry d ws es n
LoadsTable d eta ws es (Err (Wide n)) = ⊥
LoadsTable d eta ws es (Err (Heavy a)) = ⊥
LoadsTable d eta ws es (Err (Huge r k)) = AreGoodEntries d ws es × IsFirstHugeGiven d eta ws es r k

-- the cases of `LoadsTable` exclude one another: want of memory aside, a table has one answer, and one module
abbrev pub LoadsTableOneWay : Type 0
LoadsTableOneWay = (d : RootDatum) (eta : Signs) (ws : List Vector) (es : List Entry) (x y : Result Module ModuleFault) → IsLoaded d →
    LoadsTable d eta ws es x → LoadsTable d eta ws es y → x ≢ Err NoMemory → y ≢ Err NoMemory → x ≡ y
