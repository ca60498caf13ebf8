use Rattle.std.proofs.Common.{map, take}
use Rattle.lie_const.specs.Signs.{eta_of}
use Rattle.lie_weight.specs.CarrierParts.{IsMadeOf}
use Rattle.lie_weight.proofs.carrier.orbit_modules.Given as goal

abbrev pub invariant-loop-at : goal.invariant-loop-at
invariant-loop-at l = IsMadeOf l.datum (eta_of l.signs) (take l.at (map (λ o. o.items) l.orbits)) l.modules.items l.first
