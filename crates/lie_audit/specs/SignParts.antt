-- How the signs are computed and tested.
-- For proofs: no public clause cites it.
use Rattle.std.specs.Prelude.{◌≡◌, ◌⊎◌, ℕ, ◌+◌, ◌-◌, ◌*◌, ◌^◌, ◌<◌, ◌≤◌, ℤ, pos, negsuc, neg_ℤ, ◌*ℤ◌, ◌<ℤ◌, unsigned_abs, Bool, true, false, List, length, slice_index_or}
use Rattle.std.specs.List.{All}
use Rattle.lie_ring.specs.Rings.{sum_below}
use Rattle.lie_ring.specs.Integers.{integers}
use Rattle.lie_datum.specs.Numbers.{place}
use Rattle.lie_datum.specs.RootDatum.{IsSimpleIndex}
use Rattle.lie_datum.specs.RootList.{RootDatum, IsNumber}
use Rattle.lie_const.specs.Modules.{Module, dimension, root_element_entry}
use Rattle.lie_const.specs.Signs.{sign_entry, IsGoodSign}

-- 1 or -1
abbrev pub IsSign : ℤ → Type 0
IsSign c = (c ≡ pos 1) ⊎ (c ≡ negsuc 0)

-- -1 or 1
abbrev pub unit : Bool → ℤ
unit true = negsuc 0
unit false = pos 1

-- the list has f 0, .., f (n - 1), all at most b in absolute value
pub record Lists (n : ℕ) (f : ℕ → ℤ) (b : ℕ) (xs : List ℤ) : Type 0 where
  pub count : length xs ≡ n
  pub values : (i : ℕ) → i < n → slice_index_or xs i (pos 0) ≡ f i
  pub small : (i : ℕ) → i < n → unsigned_abs (f i) ≤ b

-- all members are at most b in absolute value
abbrev pub IsWithinList : ℕ → List ℤ → Type 0
IsWithinList b xs = (i : ℕ) → i < length xs → unsigned_abs (slice_index_or xs i (pos 0)) ≤ b

-- the entry in a row of X_r(t) applied to xs
abbrev pub row_value : Module → ℤ → ℤ → ℕ → List ℤ → ℤ
row_value v r t row xs = sum_below integers (dimension v) (λ j. root_element_entry integers v r t row j *ℤ slice_index_or xs j (pos 0))

-- (j, r) comes before the place h of i
abbrev pub ComesBefore : RootDatum → ℕ → ℕ → ℕ → ℤ → Type 0
ComesBefore d i h j r = (j < i) ⊎ ((j ≡ i) × (place (length d.positive) r < h))

-- no entry of N_i that is computed is above this: it is a sum of at most 248 products of an entry of a root element, at most
-- 601, and an entry of a product of two of them, at most 10^8
abbrev pub entry_bound : ℕ
entry_bound = 248 * 601 * 10 ^ 8

-- the list has the signs before the place h of i, and all of them are as they should be
pub record AreTested (d : RootDatum) (v : Module) (xs : List ℤ) (i h : ℕ) : Type 0 where
  pub count : length xs ≡ (i - 1) * (2 * length d.positive) + h
  pub units : All IsSign xs
  pub values : (j : ℕ) (r : ℤ) → IsSimpleIndex d.base j → IsNumber d r → ComesBefore d i h j r →
      slice_index_or xs ((j - 1) * (2 * length d.positive) + place (length d.positive) r) (pos 1) ≡ sign_entry d v j r
  pub good : (j : ℕ) (r : ℤ) → IsSimpleIndex d.base j → IsNumber d r → ComesBefore d i h j r → IsGoodSign (sign_entry d v) j r

-- what is asked of the sign of i and s, where the opposite root has the other sign
pub record IsAsked (i : ℕ) (s value other : ℤ) : Type 0 where
  pub unit : IsSign value
  pub own : (s ≡ pos i) ⊎ (s ≡ neg_ℤ (pos i)) → value ≡ negsuc 0
  pub opposite : s <ℤ pos 0 → value ≡ other
