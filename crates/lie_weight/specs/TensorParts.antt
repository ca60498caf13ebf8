-- How a tensor product is made.
-- For proofs: no public clause cites it.
use Rattle.std.specs.Prelude.{◌≡◌, ◌≢◌, ℕ, suc, ◌-◌, ◌*◌, ◌<◌, ◌≤◌, ℤ, pos, List, length, cond, Bool, Option, None, Some}
use Rattle.lie_ring.specs.Rings.{sum_below}
use Rattle.lie_ring.specs.Integers.{integers}
use Rattle.lie_ring.specs.Matrices.{Matrix, entry, kronecker, zero_matrix}
use Rattle.lie_mat.specs.Wide.{IsHugeMatrix}
use Rattle.lie_datum.specs.Numbers.{place}
use Rattle.lie_datum.specs.RootList.{RootDatum, IsNumber}
use Rattle.lie_const.specs.Modules.{Module, dimension, divided_power}
use Rattle.lie_weight.specs.Kept.{ArePowers}
use Rattle.lie_weight.specs.Conjugation.{absolute, Precedes}
use Rattle.lie_weight.specs.CarrierParts.{IsFirstOf}
use Rattle.lie_weight.specs.Completion.{matrix_at}
use Rattle.lie_weight.specs.Tensors.{tensor_power, tensor_size, IsHugeTensor}

-- E_r^(k), or its absolute values
abbrev pub factor : Bool → Module → ℤ → ℕ → Matrix ℤ
factor sizes v r k = cond sizes (absolute (divided_power v r k)) (divided_power v r k)

-- what the powers i and k - i add to the entry in row a and column b
abbrev pub tensor_term : Bool → Module → Module → ℤ → ℕ → ℕ → ℕ → ℕ → ℤ
tensor_term sizes v w r k a b i = entry (pos 0) (kronecker integers (factor sizes v r i) (factor sizes w r (k - i))) a b

-- what the first n of them add
abbrev pub tensor_sum : Bool → Module → Module → ℤ → ℕ → ℕ → ℕ → ℕ → ℤ
tensor_sum sizes v w r k a b n = sum_below integers n (tensor_term sizes v w r k a b)

-- the entry of the product, or of its size
abbrev pub tensor_entry : Bool → Module → Module → ℤ → ℕ → ℕ → ℕ → ℤ
tensor_entry sizes v w r k a b = tensor_sum sizes v w r k a b (suc k)

-- k is the first power of the root r for which the product is huge
pub record IsFirstHugeProduct (v w : Module) (r : ℤ) (k : ℕ) : Type 0 where
  pub first : 1 ≤ k
  pub huge : IsHugeMatrix (tensor_size v w r k)
  pub before : (j : ℕ) → 1 ≤ j → j < k → ¬ IsHugeMatrix (tensor_size v w r j)

-- Ms are the matrices of the root r in the product, up to the last that is not 0
pub record AreTensorPowers (v w : Module) (r : ℤ) (Ms : List (Matrix ℤ)) : Type 0 where
  pub each : (k : ℕ) → matrix_at (dimension v * dimension w) Ms k ≡ tensor_power v w r (suc k)
  pub last : (k : ℕ) → length Ms ≡ suc k → matrix_at (dimension v * dimension w) Ms k ≢ zero_matrix (pos 0) (dimension v * dimension w) (dimension v * dimension w)
  pub kept : ArePowers (dimension v * dimension w) Ms

-- of the roots before the place p, the first place that is huge, if any
abbrev pub IsFoundBefore : RootDatum → Module → Module → ℕ → Option (ℤ × ℕ) → Type 0
IsFoundBefore d v w p None = (q : ℤ) (j : ℕ) → IsNumber d q → place (length d.positive) q < p → ¬ IsHugeTensor d v w q j
IsFoundBefore d v w p (Some n) = IsHugeTensor d v w n.0 n.1 × ((q : ℤ) (j : ℕ) → IsNumber d q → place (length d.positive) q < p → Precedes d q j n.0 n.1 → ¬ IsHugeTensor d v w q j)

-- what was found, with the power k of the root r, if any
abbrev pub IsFoundWith : RootDatum → Option (ℤ × ℕ) → ℤ → Option ℕ → Option (ℤ × ℕ) → Type 0
IsFoundWith d found r None next = next ≡ found
IsFoundWith d found r (Some k) next = (n : ℤ × ℕ) × IsFirstOf d found r k n × (next ≡ Some n)
