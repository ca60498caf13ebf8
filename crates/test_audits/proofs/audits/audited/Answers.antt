use Rattle.test_audits.proofs.audits.audited.Goals as goal

pub audit-requires : goal.audit-requires
audit-requires c = record { constants = c.requires.constants; signs = c.requires.signs; shape = c.requires.shape; light = c.requires.light }
