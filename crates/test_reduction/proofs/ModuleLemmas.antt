-- What is known of modules that were made, and of what is read off matrices.
use Rattle.std.proofs.Common.{ℕ, ℤ, List, Option, Some, None, Ok, Err, Result, IfOk, IfSome}
use Rattle.lie_ring.specs.Matrices.{Matrix}
use Rattle.lie_datum.specs.Vectors.{Vector}
use Rattle.lie_datum.specs.RootList.{RootDatum}
use Rattle.lie_weyl.specs.WeylElement.{IsElement}
use Rattle.lie_const.specs.Modules.{Module, IsModule}
use Rattle.lie_const.specs.Signs.{Signs}
use Rattle.lie_letters.specs.SignedFrames.{SignedFrame}
use Rattle.lie_unip.specs.Forms.{FormData, IsForm}
use Rattle.lie_weight.specs.OrbitFaults.{LoadsOrbit}
use Rattle.lie_weight.specs.declared.faults.ModuleFault.{ModuleFault}
use Rattle.lie_identities.specs.Audit.{HasLightWeights}
use Rattle.lie_identities.proofs.WeightBounds.{orbit_is_light}
use Rattle.lie_reduce.specs.Reduction.{HasPivots, Reduces}

-- the module of an orbit is a module
pub orbit_module : (d : RootDatum) (eta : Signs) (w : Vector) (r : Result Module ModuleFault) → LoadsOrbit d eta w r → IfOk r (IsModule d)
orbit_module d eta w (Ok v) loads = (orbit_is_light d eta w v loads).0
orbit_module d eta w (Err e) loads = tt

-- with light weights
pub orbit_light : (d : RootDatum) (eta : Signs) (w : Vector) (r : Result Module ModuleFault) → LoadsOrbit d eta w r → IfOk r HasLightWeights
orbit_light d eta w (Ok v) loads = (orbit_is_light d eta w v loads).1
orbit_light d eta w (Err e) loads = tt

-- what `pivots` answers is a Weyl element
pub pivots_element : (f : SignedFrame) (v : Module) (M : Matrix ℕ) (r : Option (List ℤ)) → HasPivots f v M r → IfSome r (IsElement f.datum)
pivots_element f v M (Some w) has = has.0
pivots_element f v M None has = tt

-- what `reduce` answers is a form
pub reduced_form : (f : SignedFrame) (v : Module) (M : Matrix ℕ) (r : Option FormData) → Reduces f v M r → IfSome r (IsForm f)
reduced_form f v M (Some x) has = has.form
reduced_form f v M None has = tt
