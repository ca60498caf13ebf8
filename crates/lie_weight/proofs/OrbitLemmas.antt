-- The weights of an orbit, and why its module is not completed.
use Rattle.std.proofs.Common.{◌-◌, ◌≤◌, List, [], length, get_or, subst, arith, unsigned_abs, sym, Result, Ok, Err, IfOk, IfErr}
use Rattle.std.specs.List.{All}
use Rattle.lie_datum.specs.Vectors.{Vector}
use Rattle.lie_datum.specs.RootDatum.{IsWithin}
use Rattle.lie_datum.specs.RootList.{RootDatum}
use Rattle.lie_datum.proofs.VectorLemmas.{entry_within}
use Rattle.lie_orbit.specs.Weights.{IsMinuscule}
use Rattle.lie_orbit.specs.Orbits.{start, IsOrbit, IsNear}
use Rattle.lie_orbit.proofs.WeightLemmas.{from_entries}
use Rattle.lie_weight.specs.OrbitFaults.{IsHeavyWeight, AreLight, LoadsOrbit}
use Rattle.lie_weight.specs.Along.{IsMadeAlong, IsFaultAlong}
use Rattle.lie_weight.specs.declared.faults.ModuleFault.{ModuleFault}
use Rattle.lie_weight.specs.declared.faults.ModuleFault.TheVariants.{NoMemory, NotMinuscule, Table, Wide, Heavy, Huge}
use Rattle.lie_const.specs.Modules.{Module}
use Rattle.lie_const.specs.Signs.{Signs}

-- weights that are small are not heavy
pub light_weight : (x : Vector) → IsWithin 1000000 x → ¬ IsHeavyWeight x
light_weight x h a = let m = subst (λ t. unsigned_abs t ≤ 1000000) a.3 (h a.0 a.1 a.2) in let l = a.4 in absurd (omega (arith, m, l))

pub are_light : (ws : List Vector) → length ws ≤ 300 → All (IsWithin 1000000) ws → AreLight ws
are_light ws few small = record {
  few = few;
  light = λ a h. light_weight (get_or ws (a - 1) []) (small (a - 1) [] (let p = h.0 in let q = h.1 in omega (arith, p, q))) h.2;
}

-- weights near one with coordinates within 100 are small
pub near_small : (w : Vector) (ws : List Vector) → IsWithin 100 w → All (IsNear w 102400) ws → All (IsWithin 1000000) ws
near_small w ws small near k z l = from_entries 1000000 (get_or ws k z) (λ j. (let a = near k z l j in let b = entry_within 100 w j small in omega (arith, a, b)))

-- an orbit has its own weight
pub orbit_some : (d : RootDatum) (w : Vector) (ws : List Vector) → IsOrbit d w ws → 1 ≤ length ws
orbit_some d w ws o = let c = (o.members w).1 start in let l = c.1 in omega (arith, l)

-- what is made along an orbit is what the orbit of its weight makes
pub along_loads : (d : RootDatum) (eta : Signs) (w : Vector) (ws : List Vector) (r : Result Module ModuleFault) → IsMinuscule d w → IsOrbit d w ws → AreLight ws → IfOk r (IsMadeAlong d eta ws) → IfErr r (IsFaultAlong d eta ws) → LoadsOrbit d eta w r
along_loads d eta w ws (Ok v) m o l h f = (m, record { weights = subst (IsOrbit d w) (sym h.0) o; steps = h.1.steps; completed = h.1.completed }, subst AreLight (sym h.0) l, h.1.small)
along_loads d eta w ws (Err NoMemory) m o l h f = tt
along_loads d eta w ws (Err (NotMinuscule r)) m o l h f = absurd f
along_loads d eta w ws (Err (Table n)) m o l h f = absurd f
along_loads d eta w ws (Err (Wide n)) m o l h f = absurd f
along_loads d eta w ws (Err (Heavy a)) m o l h f = absurd f
along_loads d eta w ws (Err (Huge r k)) m o l h f = (m, record { weights = ws; orbit = o; light = l; along = f })
