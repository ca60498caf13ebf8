-- The matrices that conjugate root vectors, and the sizes of their entries.
-- For proofs: no public clause cites it.
--
--   A (B A)                       sandwich A B
--   n by n                        IsOfSize n M
--   |M_ij| <= |A_ij|              IsBelow n M A           i, j < n
use Rattle.std.specs.Prelude.{◌≡◌, ℕ, suc, ◌<◌, ◌≤◌, ℤ, pos, negsuc, ◌+ℤ◌, nat_abs, unsigned_abs, cond, eqb}
use Rattle.lie_ring.specs.Rings.{sum_below}
use Rattle.lie_ring.specs.Integers.{integers}
use Rattle.lie_ring.specs.Powers.{power}
use Rattle.lie_ring.specs.Matrices.{Matrix, entry, product, scaled, AllFit}
use Rattle.lie_mat.specs.Wide.{IsHugeMatrix}
use Rattle.lie_weight.specs.declared.elements.Elements.{Elements}
use Rattle.lie_weight.specs.declared.factors.Factors.{Factors}
use Rattle.lie_const.specs.Modules.{Module, dimension, top, divided_power, root_element, weyl_element, weyl_inverse}
use Rattle.lie_weight.specs.Conjugation.{absolute, absolute_element, absolute_weyl}

-- the entry of F_r
abbrev pub absolute_entry : Module → ℤ → ℕ → ℕ → ℤ
absolute_entry v r a b = cond (eqb a b) (pos 1) (pos 0) +ℤ sum_below integers (top v r) (λ k. pos (nat_abs (entry (pos 0) (divided_power v r (suc k)) a b)))

-- A (B A)
abbrev pub sandwich : Matrix ℤ → Matrix ℤ → Matrix ℤ
sandwich A B = product integers A (product integers B A)

-- a square matrix of size n
pub record IsOfSize (n : ℕ) (M : Matrix ℤ) : Type 0 where
  pub height : M.height ≡ n
  pub width : M.width ≡ n

-- the absolute values of the entries of M are at most those of A
abbrev pub IsBelow : ℕ → Matrix ℤ → Matrix ℤ → Type 0
IsBelow n M A = (i j : ℕ) → i < n → j < n → nat_abs (entry (pos 0) M i j) ≤ nat_abs (entry (pos 0) A i j)

-- no entry is below 0
abbrev pub IsNatural : ℕ → Matrix ℤ → Type 0
IsNatural n A = (i j : ℕ) → i < n → j < n → entry (pos 0) A i j ≡ pos (nat_abs (entry (pos 0) A i j))

-- the diagonal is 1 at least
abbrev pub HasDiagonal : ℕ → Matrix ℤ → Type 0
HasDiagonal n A = (j : ℕ) → j < n → 1 ≤ nat_abs (entry (pos 0) A j j)

-- all entries are at most m in absolute value
abbrev pub IsBoundedBy : ℕ → ℕ → Matrix ℤ → Type 0
IsBoundedBy n m A = (i j : ℕ) → i < n → j < n → nat_abs (entry (pos 0) A i j) ≤ m

-- at most 16 matrices for a root, with entries within 100
pub record HasSmallPowers (v : Module) (r : ℤ) : Type 0 where
  pub number : unsigned_abs r ≤ v.positive
  pub few : top v r ≤ 16
  pub small : (k : ℕ) → IsBoundedBy (dimension v) 100 (divided_power v r (suc k))

-- X_r(1), X_r(-1) and F_r
pub record AreElements (v : Module) (r : ℤ) (x : Elements) : Type 0 where
  pub plus : x.plus ≡ root_element integers v r (pos 1)
  pub minus : x.minus ≡ root_element integers v r (negsuc 0)
  pub absolute : x.absolute ≡ absolute_element v r
  pub plus_fit : AllFit integers x.plus
  pub minus_fit : AllFit integers x.minus
  pub absolute_fit : AllFit integers x.absolute

-- matrices that may be multiplied, the first two below the third, which has a diagonal and no entry below 0
pub record AreFactors (n : ℕ) (w : Factors) : Type 0 where
  pub element_size : IsOfSize n w.element
  pub inverse_size : IsOfSize n w.inverse
  pub absolute_size : IsOfSize n w.absolute
  pub element_fit : AllFit integers w.element
  pub inverse_fit : AllFit integers w.inverse
  pub absolute_fit : AllFit integers w.absolute
  pub element_below : IsBelow n w.element w.absolute
  pub inverse_below : IsBelow n w.inverse w.absolute
  pub natural : IsNatural n w.absolute
  pub diagonal : HasDiagonal n w.absolute

-- those of the simple index i of a module
pub record AreModuleFactors (v : Module) (i : ℕ) (w : Factors) : Type 0 where
  pub element : w.element ≡ weyl_element integers v i
  pub inverse : w.inverse ≡ weyl_inverse integers v i
  pub absolute : w.absolute ≡ absolute_weyl v i
  pub factors : AreFactors (dimension v) w

-- the work on M
abbrev pub work_on : Matrix ℤ → Matrix ℤ → Matrix ℤ
work_on A M = product integers (product integers A (absolute M)) A

-- no work on the matrices of the root s is huge
abbrev pub HasSmallWork : Factors → Module → ℤ → Type 0
HasSmallWork w v s = (k : ℕ) → ¬ IsHugeMatrix (work_on w.absolute (divided_power v s (suc k)))

-- k is the first power for which it is
pub record IsFirstHugePower (w : Factors) (v : Module) (s : ℤ) (k : ℕ) : Type 0 where
  pub first : 1 ≤ k
  pub huge : IsHugeMatrix (work_on w.absolute (divided_power v s k))
  pub before : (j : ℕ) → 1 ≤ j → j < k → ¬ IsHugeMatrix (work_on w.absolute (divided_power v s j))

-- c^(k+1) N_i E_s^(k+1) N_i^-1
abbrev pub conjugate_power : Factors → ℤ → Module → ℤ → ℕ → Matrix ℤ
conjugate_power w c v s k = scaled integers (power integers c (suc k)) (product integers (product integers w.element (divided_power v s (suc k))) w.inverse)
