-- The dual of a module.
-- Source: Humphreys, Introduction to Lie Algebras and Representation Theory, 6.1 (the contragredient module).
-- Own: the basis is the dual basis, in the same order.
--
--   the dual of v          IsDual d v w            the weights of v, negated; each E_r^(k) is (-1)^k times the transpose of that of v
use Rattle.std.specs.Prelude.{◌≡◌, ℕ, suc, ◌*◌, ◌≤◌, ℤ, pos, negsuc, List, map}
use Rattle.std.specs.List.{range_with_len}
use Rattle.lie_ring.specs.Integers.{integers}
use Rattle.lie_ring.specs.Powers.{power}
use Rattle.lie_ring.specs.Matrices.{Matrix, scaled, transposed}
use Rattle.lie_datum.specs.Vectors.{minus}
use Rattle.lie_datum.specs.Numbers.{number_at}
use Rattle.lie_datum.specs.RootList.{RootDatum, IsNumber}
use Rattle.lie_const.specs.Modules.{Module, IsModule, divided_power, top}

-- E_r^(k) of the dual
abbrev pub dual_power : Module → ℤ → ℕ → Matrix ℤ
dual_power v r k = scaled integers (power integers (negsuc 0) k) (transposed (pos 0) (divided_power v r k))

-- w is the dual of v
pub record IsDual (d : RootDatum) (v w : Module) : Type 0 where
  pub shape : IsModule d w
  pub weights : w.weights ≡ map minus v.weights
  pub powers : (r : ℤ) (k : ℕ) → IsNumber d r → 1 ≤ k → divided_power w r k ≡ dual_power v r k

-- a module has one dual
abbrev pub DualsAreOne : Type 0
DualsAreOne = (d : RootDatum) (v u w : Module) → IsDual d v u → IsDual d v w → u ≡ w

-- ---- how it is made
-- the matrices of a root: as many as the module has
abbrev pub dual_powers : Module → ℤ → List (Matrix ℤ)
dual_powers v r = map (λ k. dual_power v r (suc k)) (range_with_len 0 (top v r))

-- the dual
abbrev pub module_dual : Module → Module
module_dual v = record {
  positive = v.positive;
  weights = map minus v.weights;
  powers = map (λ p. dual_powers v (number_at v.positive p)) (range_with_len 0 (2 * v.positive));
}
