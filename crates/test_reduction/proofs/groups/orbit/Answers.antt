use Rattle.std.proofs.Common.{subst}
use Rattle.lie_const.specs.Signs.{eta_of}
use Rattle.lie_letters.specs.SignedFrames.{SignedFrame}
use Rattle.lie_weight.specs.OrbitFaults.{LoadsOrbit}
use Rattle.test_reduction.proofs.ModuleLemmas.{orbit_module, orbit_light}
use Rattle.test_reduction.proofs.groups.orbit.Goals as goal

pub returns : goal.returns
returns c =
    let f = c.args.frame.now in
    let w = c.args.v.now in
    let r = c.orbit.result in
    let loads = subst (λ (z : SignedFrame). LoadsOrbit z.datum (eta_of z.signs) w r) c.frame.view_is c.orbit.ensures in
    record {
      shape = orbit_module f.datum (eta_of f.signs) w r loads;
      light = orbit_light f.datum (eta_of f.signs) w r loads;
    }
