use Rattle.test_audits.proofs.audits.audited_adjoint.Goals as goal

pub signs_of-requires : goal.signs_of-requires
signs_of-requires c = c.in_ok-space.ensures.adjoint

pub audited-requires : goal.audited-requires
audited-requires c = record { constants = c.in_ok-consts.ensures; signs = c.in-Ok.ensures; shape = c.in_ok-space.ensures.shape; light = c.in_ok-space.ensures.light }
