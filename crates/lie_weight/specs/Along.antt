-- The module with given matrices of the simple roots, or with the steps along a list of weights, and why it is not made.
-- For proofs: no public clause cites it.
use Rattle.std.specs.Prelude.{◌≡◌, ℕ, suc, ◌≤◌, ℤ, pos, neg_ℤ, List, length, Option, None, Some, ⊤}
use Rattle.std.specs.List.{All}
use Rattle.lie_ring.specs.Matrices.{Matrix}
use Rattle.lie_datum.specs.Vectors.{Vector}
use Rattle.lie_datum.specs.RootDatum.{IsWithin, IsSimpleIndex}
use Rattle.lie_datum.specs.RootList.{RootDatum}
use Rattle.lie_const.specs.Modules.{Module, IsModule, divided_power}
use Rattle.lie_const.specs.Signs.{Signs}
use Rattle.lie_weight.specs.declared.faults.ModuleFault.{ModuleFault}
use Rattle.lie_weight.specs.declared.faults.ModuleFault.TheVariants.{NoMemory, NotMinuscule, Table, Wide, Heavy, Huge}
use Rattle.lie_weight.specs.Conjugation.{absolute_height, IsCompleted, IsCompletedBelow, IsHuge, IsFirstHuge}
use Rattle.lie_weight.specs.OrbitModules.{HasSteps}
use Rattle.lie_weight.specs.OrbitFaults.{IsFirstHugeAlong}

-- the weights are few enough, and small enough, for a module to be made along them
pub record AreSteppable (ws : List Vector) : Type 0 where
  pub some : 1 ≤ length ws
  pub few : length ws ≤ 1024
  pub small : All (IsWithin 1000000) ws

-- the simple roots step, the other roots are completed, and no work is huge
pub record IsMade (d : RootDatum) (eta : Signs) (v : Module) : Type 0 where
  pub steps : HasSteps d v
  pub completed : IsCompleted d eta v
  pub small : (r : ℤ) (k : ℕ) → ¬ IsHuge d v r k

-- and the weights are these
abbrev pub IsMadeAlong : RootDatum → Signs → List Vector → Module → Type 0
IsMadeAlong d eta ws v = (v.weights ≡ ws) × IsMade d eta v

-- why the module is not made
abbrev pub IsFaultAlong : RootDatum → Signs → List Vector → ModuleFault → Type 0
IsFaultAlong d eta ws NoMemory = ⊤
IsFaultAlong d eta ws (Huge r k) = IsFirstHugeAlong d eta ws r k
IsFaultAlong d eta ws (NotMinuscule r) = ⊥
IsFaultAlong d eta ws (Table n) = ⊥
IsFaultAlong d eta ws (Wide n) = ⊥
IsFaultAlong d eta ws (Heavy a) = ⊥

-- ---- with given matrices of the simple roots
-- these weights, and the matrices that g gives for the simple roots and their negatives; the powers count from 0
pub record HasSimple (d : RootDatum) (g : ℤ → ℕ → Matrix ℤ) (ws : List Vector) (v : Module) : Type 0 where
  pub shape : IsModule d v
  pub weights : v.weights ≡ ws
  pub up : (i k : ℕ) → IsSimpleIndex d.base i → divided_power v (pos i) (suc k) ≡ g (pos i) k
  pub down : (i k : ℕ) → IsSimpleIndex d.base i → divided_power v (neg_ℤ (pos i)) (suc k) ≡ g (neg_ℤ (pos i)) k

-- the other roots are completed, and no work is huge
pub record IsMadeFrom (d : RootDatum) (eta : Signs) (g : ℤ → ℕ → Matrix ℤ) (ws : List Vector) (v : Module) : Type 0 where
  pub simple : HasSimple d g ws v
  pub completed : IsCompleted d eta v
  pub small : (r : ℤ) (k : ℕ) → ¬ IsHuge d v r k

-- r and k are the first where the conjugates are huge
pub record IsFirstHugeFrom (d : RootDatum) (eta : Signs) (g : ℤ → ℕ → Matrix ℤ) (ws : List Vector) (r : ℤ) (k : ℕ) : Type 0 where
  pub partial : Module
  pub simple : HasSimple d g ws partial
  pub completed : IsCompletedBelow d eta partial (absolute_height d r)
  pub first : IsFirstHuge d partial r k

-- why the module is not made
abbrev pub IsFaultFrom : RootDatum → Signs → (ℤ → ℕ → Matrix ℤ) → List Vector → ModuleFault → Type 0
IsFaultFrom d eta g ws NoMemory = ⊤
IsFaultFrom d eta g ws (Huge r k) = IsFirstHugeFrom d eta g ws r k
IsFaultFrom d eta g ws (NotMinuscule r) = ⊥
IsFaultFrom d eta g ws (Table n) = ⊥
IsFaultFrom d eta g ws (Wide n) = ⊥
IsFaultFrom d eta g ws (Heavy a) = ⊥

-- ---- faults
-- the root and the power of a fault that names some
abbrev pub huge_place : ModuleFault → Option (ℤ × ℕ)
huge_place (Huge r k) = Some (r, k)
huge_place NoMemory = None
huge_place (NotMinuscule r) = None
huge_place (Table n) = None
huge_place (Wide n) = None
huge_place (Heavy a) = None
