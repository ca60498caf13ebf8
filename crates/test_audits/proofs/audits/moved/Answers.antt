use Rattle.test_audits.proofs.audits.moved.Goals as goal

pub orbit-requires : goal.orbit-requires
orbit-requires c = record { signs = c.requires.signs; v = c.requires.v }
