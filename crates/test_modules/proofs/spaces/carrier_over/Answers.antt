use Rattle.test_modules.proofs.spaces.carrier_over.Goals as goal

pub signs_of-requires : goal.signs_of-requires
signs_of-requires c = c.requires

pub carrier_of-requires : goal.carrier_of-requires
carrier_of-requires c = record { signs = c.in-Ok.ensures; adjoint = c.requires }
