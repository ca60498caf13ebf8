use Rattle.test_modules.proofs.SpaceLemmas.{orbit_positive}
use Rattle.test_modules.proofs.spaces.orbit_of.Goals as goal

pub orbit-requires : goal.orbit-requires
orbit-requires c = record { v = c.requires.v; signs = c.requires.signs }

pub returns : goal.returns
returns c = orbit_positive c.args.datum.now _ _ c.orbit.result c.orbit.ensures
