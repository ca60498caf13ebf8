use Rattle.test_modules.proofs.SpaceLemmas.{carrier_positive}
use Rattle.test_modules.proofs.spaces.carrier_of.Goals as goal

pub carrier-requires : goal.carrier-requires
carrier-requires c = record { adjoint = c.requires.adjoint; signs = c.requires.signs }

pub returns : goal.returns
returns c = carrier_positive c.args.datum.now _ _ c.carrier.result c.carrier.ensures
