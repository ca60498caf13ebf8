use Rattle.test_audits.proofs.audits.audited_orbit.Goals as goal

pub moved-requires : goal.moved-requires
moved-requires c = record { signs = c.in_ok-made_with.ensures; v = c.in_ok-weight.ensures }

pub audited-requires : goal.audited-requires
audited-requires c = record { constants = c.in_ok-consts.ensures; signs = c.in_ok-signs.ensures; shape = c.in_ok-space.ensures.shape; light = c.in_ok-space.ensures.light }
