use Rattle.test_audits.proofs.ModuleLemmas.{orbit_module, orbit_light}
use Rattle.test_audits.proofs.audits.orbit.Goals as goal

pub orbit-requires : goal.orbit-requires
orbit-requires c = record { v = c.requires.v; signs = c.requires.signs }

pub returns : goal.returns
returns c = record {
  shape = orbit_module c.args.datum.now _ _ c.orbit.result c.orbit.ensures;
  light = orbit_light c.args.datum.now _ _ c.orbit.result c.orbit.ensures;
}
