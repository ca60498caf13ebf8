-- What is known of modules and signs that were loaded.
use Rattle.std.proofs.Common.{◌≡◌, length, Ok, Err, Result, IfOk}
use Rattle.lie_datum.specs.Vectors.{Vector}
use Rattle.lie_datum.specs.RootList.{RootDatum}
use Rattle.lie_const.specs.Adjoint.{IsAdjoint, IsAdjointOf}
use Rattle.lie_const.specs.ConstantTables.{ConstantTable, value_of, LoadsConstants}
use Rattle.lie_const.specs.Modules.{Module, IsModule}
use Rattle.lie_const.specs.Signs.{Signs, SignTable, IsSignTable}
use Rattle.lie_weight.specs.declared.faults.ModuleFault.{ModuleFault}
use Rattle.lie_weight.specs.OrbitFaults.{LoadsOrbit}
use Rattle.lie_weight.specs.Carriers.{LoadsCarrier}
use Rattle.lie_audit.specs.SignAnswers.{AreTestedSigns}

-- the adjoint module by a table that stands for the datum is that of the datum
pub adjoint_of : (d : RootDatum) (c : ConstantTable) (v : Module) → LoadsConstants d (Ok c) → IsAdjoint d (value_of c) v → IsAdjointOf d v
adjoint_of d c v loads a = (value_of c, loads.1, a)

-- it is a module
pub adjoint_module : (d : RootDatum) (v : Module) → IsAdjointOf d v → IsModule d v
adjoint_module d v a = a.2.is_module

-- a module has a list of powers for each root of its datum
pub positive_of : (d : RootDatum) (v : Module) → IsModule d v → v.positive ≡ length d.positive
positive_of d v m = m.positive

-- so has that of an orbit
pub orbit_positive : (d : RootDatum) (eta : Signs) (w : Vector) (r : Result Module ModuleFault) → LoadsOrbit d eta w r → IfOk r (λ v. v.positive ≡ length d.positive)
orbit_positive d eta w (Ok v) loads = loads.1.steps.shape.positive
orbit_positive d eta w (Err e) loads = tt

-- so has the carrier
pub carrier_positive : (d : RootDatum) (eta : Signs) (a : Module) (r : Result Module ModuleFault) → LoadsCarrier d eta a r → IfOk r (λ v. v.positive ≡ length d.positive)
carrier_positive d eta a (Ok v) loads = loads.0.sum.2.shape.positive
carrier_positive d eta a (Err e) loads = tt

-- signs that are read off are a table of signs
pub tested_table : (d : RootDatum) (v : Module) (t : SignTable) → AreTestedSigns d v t → IsSignTable d t
tested_table d v t tested = tested.table
