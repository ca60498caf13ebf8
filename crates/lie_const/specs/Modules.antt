-- Modules of a root datum: weights, divided powers of the root vectors, and the matrices of root elements and of Weyl representatives.
-- Source: Steinberg, Lectures on Chevalley Groups, 2 (lattices with divided powers) and 3 (x_r(t)); Carter, Simple Groups of Lie Type, chapter 6 (n_i).
-- Own: a module is the list of its weights with the matrices of each root, in the full order of the roots.
--
--   v_a              the basis vectors                 places count from 0, and matrices act on columns
--   the weight of v_a    v.weights at place a          in X
--   E_r^(k)          divided_power v r k               r is a signed number; E_r^(0) is 1, and E_r^(k) is 0 past the last that is kept
--   X_r(t)           root_element R v r t              1 + t E_r^(1) + t^2 E_r^(2) + ..
--   N_i, N_i^-1      weyl_element R v i, weyl_inverse R v i    X_i(1) X_-i(-1) X_i(1), and X_i(-1) X_-i(1) X_i(-1)
use Rattle.std.specs.Prelude.{◌≡◌, ◌≢◌, ℕ, zero, suc, ◌*◌, ◌<◌, ℤ, pos, neg_ℤ, List, [], length, slice_index_or, cond, eqb}
use Rattle.lie_ring.specs.Rings.{RingOn, sum_below}
use Rattle.lie_ring.specs.Integers.{integers}
use Rattle.lie_ring.specs.Powers.{power}
use Rattle.lie_ring.specs.Matrices.{Matrix, table, entry, identity, product, zero_matrix}
use Rattle.lie_datum.specs.Vectors.{Vector}
use Rattle.lie_datum.specs.Numbers.{place}
use Rattle.lie_datum.specs.RootList.{RootDatum, IsNumber}

-- the number of positive roots, the weight of each basis vector, and for each root, in the full order, its matrices E^(1), E^(2), ..
pub record Module : Type 0 where
  pub positive : ℕ
  pub weights : List Vector
  pub powers : List (List (Matrix ℤ))

-- the number of basis vectors
abbrev pub dimension : Module → ℕ
dimension v = length v.weights

-- E_r^(1), E_r^(2), .. up to the last that is kept
abbrev pub divided_powers : Module → ℤ → List (Matrix ℤ)
divided_powers v r = slice_index_or v.powers (place v.positive r) []

-- the greatest k whose matrix is kept, or 0
abbrev pub top : Module → ℤ → ℕ
top v r = length (divided_powers v r)

-- E_r^(k)
abbrev pub divided_power : Module → ℤ → ℕ → Matrix ℤ
divided_power v r zero = identity integers (dimension v)
divided_power v r (suc k) = slice_index_or (divided_powers v r) k (zero_matrix (pos 0) (dimension v) (dimension v))

-- a list of matrices for each root; each is square, of the dimension, and the last that is kept for a root is not 0
pub record IsModule (d : RootDatum) (v : Module) : Type 0 where
  pub positive : v.positive ≡ length d.positive
  pub roots : length v.powers ≡ 2 * length d.positive
  pub square : (r : ℤ) (k : ℕ) → IsNumber d r → k < top v r → divided_power v r (suc k) ≡ table (dimension v) (dimension v) (entry (pos 0) (divided_power v r (suc k)))
  pub last : (r : ℤ) (k : ℕ) → IsNumber d r → top v r ≡ suc k → divided_power v r (suc k) ≢ zero_matrix (pos 0) (dimension v) (dimension v)

-- the entry of X_r(t): that of 1, and t^k times that of E_r^(k) for each k from 1 on
abbrev pub root_element_entry : {A : Type 0} → RingOn A → Module → ℤ → A → ℕ → ℕ → A
root_element_entry R v r t i j =
    R.add (cond (eqb i j) R.one R.zero) (sum_below R (top v r) (λ k. R.mul (power R t (suc k)) (R.of_int (entry (pos 0) (divided_power v r (suc k)) i j))))

-- X_r(t), over any ring
unfoldable pub root_element : {A : Type 0} → RingOn A → Module → ℤ → A → Matrix A
root_element R v r t = table (dimension v) (dimension v) (root_element_entry R v r t)

-- N_i
unfoldable pub weyl_element : {A : Type 0} → RingOn A → Module → ℕ → Matrix A
weyl_element R v i =
    product R (root_element R v (pos i) R.one) (product R (root_element R v (neg_ℤ (pos i)) (R.neg R.one)) (root_element R v (pos i) R.one))

-- N_i^-1
unfoldable pub weyl_inverse : {A : Type 0} → RingOn A → Module → ℕ → Matrix A
weyl_inverse R v i =
    product R (root_element R v (pos i) (R.neg R.one)) (product R (root_element R v (neg_ℤ (pos i)) R.one) (root_element R v (pos i) (R.neg R.one)))
