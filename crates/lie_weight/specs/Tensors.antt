-- Tensor products of modules, and which fault is named where there is none.
-- Source: Steinberg, Lectures on Chevalley Groups, 2 (divided powers on a tensor product); Lang, Algebra, XVI.1 (tensor products).
-- Own: the order of the basis and of the faults, and the bounds: 300 weights, with coordinates within 1,000,000, and matrices below 2^126.
--
--   v_a (x) w_b            at the place a n + b, where w has n basis vectors, and a and b count from 0
--   its weight             the sum of those of v_a and w_b                          tensor_weights v w
--   E_r^(k)                the sum of E_r^(i) (x) E_r^(k-i), with i from 0 to k     tensor_power v w r k
--   the size               the same sum over the absolute values                    tensor_size v w r k
use Rattle.std.specs.Prelude.{◌≡◌, ◌≢◌, ℕ, suc, ◌-◌, ◌*◌, ◌<◌, ◌≤◌, ℤ, List, [], ◌∷◌, ◌++◌, map, min, Result, Ok, Err, ⊤}
use Rattle.lie_ring.specs.Rings.{sum_below}
use Rattle.lie_ring.specs.Integers.{integers}
use Rattle.lie_ring.specs.Matrices.{Matrix, table, entry, kronecker}
use Rattle.lie_mat.specs.Wide.{IsHugeMatrix}
use Rattle.lie_datum.specs.Vectors.{Vector, plus}
use Rattle.lie_datum.specs.RootList.{RootDatum, IsNumber}
use Rattle.lie_const.specs.Modules.{Module, IsModule, dimension, divided_power}
use Rattle.lie_weight.specs.declared.faults.ModuleFault.{ModuleFault}
use Rattle.lie_weight.specs.declared.faults.ModuleFault.TheVariants.{NoMemory, NotMinuscule, Table, Wide, Heavy, Huge}
use Rattle.lie_weight.specs.Conjugation.{absolute, Precedes}
use Rattle.lie_weight.specs.OrbitFaults.{IsHeavyAt}
use Rattle.lie_weight.specs.Sums.{IsFirstHeavyAmong}

-- each weight of the first list plus each of the second
abbrev pub added_weights : List Vector → List Vector → List Vector
added_weights [] ys = []
added_weights (x ∷ xs) ys = map (plus x) ys ++ added_weights xs ys

-- the weights of the product
abbrev pub tensor_weights : Module → Module → List Vector
tensor_weights v w = added_weights v.weights w.weights

-- the sum of F i (x) G (k - i) for i from 0 to k, of size n
abbrev pub product_sum : ℕ → (ℕ → Matrix ℤ) → (ℕ → Matrix ℤ) → ℕ → Matrix ℤ
product_sum n F G k = table n n (λ a b. sum_below integers (suc k) (λ i. entry integers.zero (kronecker integers (F i) (G (k - i))) a b))

-- E_r^(k) of the product
unfoldable pub tensor_power : Module → Module → ℤ → ℕ → Matrix ℤ
tensor_power v w r k = product_sum (dimension v * dimension w) (divided_power v r) (divided_power w r) k

-- the same sum over the absolute values
unfoldable pub tensor_size : Module → Module → ℤ → ℕ → Matrix ℤ
tensor_size v w r k = product_sum (dimension v * dimension w) (λ i. absolute (divided_power v r i)) (λ i. absolute (divided_power w r i)) k

-- t is the tensor product of v and w
pub record IsTensor (d : RootDatum) (v w t : Module) : Type 0 where
  pub shape : IsModule d t
  pub weights : t.weights ≡ tensor_weights v w
  pub powers : (r : ℤ) (k : ℕ) → IsNumber d r → 1 ≤ k → divided_power t r k ≡ tensor_power v w r k

-- the product is huge at r and k
pub record IsHugeTensor (d : RootDatum) (v w : Module) (r : ℤ) (k : ℕ) : Type 0 where
  pub number : IsNumber d r
  pub first : 1 ≤ k
  pub huge : IsHugeMatrix (tensor_size v w r k)

-- r and k are the first where it is
pub record IsFirstHugeTensor (d : RootDatum) (v w : Module) (r : ℤ) (k : ℕ) : Type 0 where
  pub huge : IsHugeTensor d v w r k
  pub before : (q : ℤ) (j : ℕ) → Precedes d q j r k → ¬ IsHugeTensor d v w q j

-- what `Module::tensor` answers: the tensor product, or the first fault
abbrev pub LoadsTensor : RootDatum → Module → Module → Result Module ModuleFault → Type 0
LoadsTensor d v w (Ok t) = IsTensor d v w t × (dimension v * dimension w ≤ 300) × ((a : ℕ) → ¬ IsHeavyAt t.weights a) × ((r : ℤ) (k : ℕ) → ¬ IsHugeTensor d v w r k)
LoadsTensor d v w (Err NoMemory) = ⊤
LoadsTensor d v w (Err (NotMinuscule r)) = ⊥
LoadsTensor d v w (Err (Table n)) = ⊥
LoadsTensor d v w (Err (Wide n)) = (300 < dimension v * dimension w) × (n ≡ min 1025 (dimension v * dimension w))
LoadsTensor d v w (Err (Heavy a)) = (dimension v * dimension w ≤ 300) × IsFirstHeavyAmong (tensor_weights v w) a
LoadsTensor d v w (Err (Huge r k)) = (dimension v * dimension w ≤ 300) × ((a : ℕ) → ¬ IsHeavyAt (tensor_weights v w) a) × IsFirstHugeTensor d v w r k

-- the cases of `LoadsTensor` exclude one another: want of memory aside, two modules have one answer
abbrev pub LoadsTensorOneWay : Type 0
LoadsTensorOneWay = (d : RootDatum) (v w : Module) (x y : Result Module ModuleFault) →
    LoadsTensor d v w x → LoadsTensor d v w y → x ≢ Err NoMemory → y ≢ Err NoMemory → x ≡ y
