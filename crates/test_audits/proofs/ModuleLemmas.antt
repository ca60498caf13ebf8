-- What is known of modules and signs that were made.
use Rattle.std.proofs.Common.{◌≡◌, ℕ, ◌+◌, ◌-◌, List, [], get_or, Ok, Err, Result, IfOk, unsigned_abs, inl, inr, sym, ap, subst, ◌∙◌, arith}
use Rattle.std.specs.List.{All}
use Rattle.std.proofs.lemmas.Bool.{cases_lt}
use Rattle.std.proofs.lemmas.List.{get_or_default}
use Rattle.lie_datum.specs.Vectors.{Vector}
use Rattle.lie_datum.specs.RootDatum.{IsWithin}
use Rattle.lie_datum.specs.RootList.{RootDatum, IsLoaded}
use Rattle.lie_const.specs.Adjoint.{IsAdjoint, IsAdjointOf}
use Rattle.lie_const.specs.ConstantTables.{ConstantTable, value_of, LoadsConstants}
use Rattle.lie_const.specs.Modules.{Module, IsModule}
use Rattle.lie_const.specs.Signs.{Signs, SignTable, IsSignTable}
use Rattle.lie_weight.specs.OrbitFaults.{LoadsOrbit, IsHeavyWeight, IsHeavyAt}
use Rattle.lie_weight.specs.Tensors.{LoadsTensor}
use Rattle.lie_weight.specs.declared.faults.ModuleFault.{ModuleFault}
use Rattle.lie_audit.specs.SignAnswers.{AreTestedSigns}
use Rattle.lie_identities.specs.Audit.{HasLightWeights}
use Rattle.lie_identities.proofs.WeightBounds.{orbit_is_light, adjoint_is_light}

-- the adjoint module by a table that stands for the datum is that of the datum
pub adjoint_of : (d : RootDatum) (c : ConstantTable) (v : Module) → LoadsConstants d (Ok c) → IsAdjoint d (value_of c) v → IsAdjointOf d v
adjoint_of d c v loads a = (value_of c, loads.1, a)

-- it is a module
pub adjoint_module : (d : RootDatum) (v : Module) → IsAdjointOf d v → IsModule d v
adjoint_module d v a = a.2.is_module

-- with light weights
pub adjoint_light : (d : RootDatum) (v : Module) → IsLoaded d → IsAdjointOf d v → HasLightWeights v
adjoint_light d v loaded a = adjoint_is_light d a.0 v loaded a.2

-- so is that of an orbit
pub orbit_module : (d : RootDatum) (eta : Signs) (w : Vector) (r : Result Module ModuleFault) → LoadsOrbit d eta w r → IfOk r (IsModule d)
orbit_module d eta w (Ok v) loads = (orbit_is_light d eta w v loads).0
orbit_module d eta w (Err e) loads = tt

pub orbit_light : (d : RootDatum) (eta : Signs) (w : Vector) (r : Result Module ModuleFault) → LoadsOrbit d eta w r → IfOk r HasLightWeights
orbit_light d eta w (Ok v) loads = (orbit_is_light d eta w v loads).1
orbit_light d eta w (Err e) loads = tt

-- a vector that is not heavy
light_weight : (x : Vector) → ¬ IsHeavyWeight x → IsWithin 1000000 x
light_weight x h k z l = elim (cases_lt 1000000 (unsigned_abs (get_or x k z))) [
  | inl heavy ↦ absurd (h (k, get_or x k z, l, sym (get_or_default x k z (get_or x k z) l), heavy))
  | inr light ↦ light
]

-- where no weight is heavy, all are light
light_weights : (ws : List Vector) → ((a : ℕ) → ¬ IsHeavyAt ws a) → All (IsWithin 1000000) ws
light_weights ws light k z l =
    light_weight (get_or ws k z) (λ heavy. light (k + 1) (omega arith, omega (arith, l), subst IsHeavyWeight (get_or_default ws k z [] l ∙ ap (λ i. get_or ws i []) (let e : k ≡ k + 1 - 1 = omega arith in e)) heavy))

-- a tensor product
pub tensor_shape : (d : RootDatum) (v w : Module) (r : Result Module ModuleFault) → LoadsTensor d v w r → IfOk r (IsModule d)
tensor_shape d v w (Ok s) loads = loads.0.shape
tensor_shape d v w (Err e) loads = tt

pub tensor_light : (d : RootDatum) (v w : Module) (r : Result Module ModuleFault) → LoadsTensor d v w r → IfOk r HasLightWeights
tensor_light d v w (Ok s) loads = light_weights s.weights loads.2
tensor_light d v w (Err e) loads = tt

-- signs that are read off are a table of signs
pub tested_table : (d : RootDatum) (v : Module) (t : SignTable) → AreTestedSigns d v t → IsSignTable d t
tested_table d v t tested = tested.table
