-- Direct sums of modules, and which fault is named where there is no sum of two.
-- Source: Humphreys, Introduction to Lie Algebras and Representation Theory, 6.1 (direct sums of modules).
-- Own: the first basis comes first; the bounds: 300 weights, with coordinates within 1,000,000.
--
--   v + w                  IsSum d v w s            the weights of v, then those of w; each E_r^(k) has those of v and of w as blocks on its diagonal
--   v_1 + v_2 + .. + v_n   IsDirectSum d vs s       the sum of no module has no basis vector
use Rattle.std.specs.Prelude.{◌≡◌, ◌≢◌, ℕ, ◌+◌, ◌<◌, ◌≤◌, ℤ, pos, List, [], ◌∷◌, ◌++◌, min, Result, Ok, Err, ⊤}
use Rattle.lie_ring.specs.Matrices.{direct_sum}
use Rattle.lie_datum.specs.Vectors.{Vector}
use Rattle.lie_datum.specs.RootList.{RootDatum, IsNumber}
use Rattle.lie_const.specs.Modules.{Module, IsModule, dimension, divided_power}
use Rattle.lie_weight.specs.declared.faults.ModuleFault.{ModuleFault}
use Rattle.lie_weight.specs.declared.faults.ModuleFault.TheVariants.{NoMemory, NotMinuscule, Table, Wide, Heavy, Huge}
use Rattle.lie_weight.specs.OrbitFaults.{IsHeavyAt}

-- s is the sum of v and w
pub record IsSum (d : RootDatum) (v w s : Module) : Type 0 where
  pub shape : IsModule d s
  pub weights : s.weights ≡ v.weights ++ w.weights
  pub powers : (r : ℤ) (k : ℕ) → IsNumber d r → 1 ≤ k → divided_power s r k ≡ direct_sum (pos 0) (divided_power v r k) (divided_power w r k)

-- s has no basis vector
pub record IsNothing (d : RootDatum) (s : Module) : Type 0 where
  pub shape : IsModule d s
  pub weights : s.weights ≡ []

-- s is the sum of the modules of a list
abbrev pub IsDirectSum : RootDatum → List Module → Module → Type 0
IsDirectSum d [] s = IsNothing d s
IsDirectSum d (v ∷ vs) s = (w : Module) × IsDirectSum d vs w × IsSum d v w s

-- ---- the sum of two modules
-- a, counted from 1, is the first of these weights with a coordinate above 1,000,000 in absolute value
pub record IsFirstHeavyAmong (ws : List Vector) (a : ℕ) : Type 0 where
  pub heavy : IsHeavyAt ws a
  pub before : (b : ℕ) → b < a → ¬ IsHeavyAt ws b

-- what `Module::sum` answers: the sum, or the first fault
abbrev pub LoadsSum : RootDatum → Module → Module → Result Module ModuleFault → Type 0
LoadsSum d v w (Ok s) = IsSum d v w s × (dimension v + dimension w ≤ 300) × ((a : ℕ) → ¬ IsHeavyAt s.weights a)
LoadsSum d v w (Err NoMemory) = ⊤
LoadsSum d v w (Err (NotMinuscule r)) = ⊥
LoadsSum d v w (Err (Table n)) = ⊥
LoadsSum d v w (Err (Wide n)) = (300 < dimension v + dimension w) × (n ≡ min 1025 (dimension v + dimension w))
LoadsSum d v w (Err (Heavy a)) = (dimension v + dimension w ≤ 300) × IsFirstHeavyAmong (v.weights ++ w.weights) a
LoadsSum d v w (Err (Huge r k)) = ⊥

-- the cases of `LoadsSum` exclude one another: want of memory aside, two modules have one answer
abbrev pub LoadsSumOneWay : Type 0
LoadsSumOneWay = (d : RootDatum) (v w : Module) (x y : Result Module ModuleFault) →
    LoadsSum d v w x → LoadsSum d v w y → x ≢ Err NoMemory → y ≢ Err NoMemory → x ≡ y
