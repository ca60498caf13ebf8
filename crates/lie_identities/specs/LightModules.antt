-- The weights of built modules.
-- Own: the bound, which is that of `HasLightWeights`.
use Rattle.std.specs.Prelude.{Ok}
use Rattle.lie_datum.specs.Vectors.{Vector}
use Rattle.lie_datum.specs.RootList.{RootDatum, IsLoaded}
use Rattle.lie_const.specs.StructureConstants.{Table}
use Rattle.lie_const.specs.Modules.{Module, IsModule}
use Rattle.lie_const.specs.Adjoint.{IsAdjoint}
use Rattle.lie_const.specs.Signs.{Signs}
use Rattle.lie_weight.specs.OrbitFaults.{LoadsOrbit}
use Rattle.lie_weight.specs.Carriers.{LoadsCarrier}
use Rattle.lie_identities.specs.Audit.{HasLightWeights}

-- the weights of the adjoint module are light
abbrev pub AdjointIsLight : Type 0
AdjointIsLight = (d : RootDatum) (n : Table) (v : Module) → IsLoaded d → IsAdjoint d n v → HasLightWeights v

-- so are those of the module of an orbit
abbrev pub OrbitIsLight : Type 0
OrbitIsLight = (d : RootDatum) (eta : Signs) (w : Vector) (v : Module) → LoadsOrbit d eta w (Ok v) → IsModule d v × HasLightWeights v

-- and those of a carrier
abbrev pub CarrierIsLight : Type 0
CarrierIsLight = (d : RootDatum) (eta : Signs) (adjoint v : Module) → LoadsCarrier d eta adjoint (Ok v) → IsModule d v × HasLightWeights v
