use Rattle.lie_const.specs.Modules.{IsModule}
use Rattle.lie_identities.specs.Audit.{HasLightWeights}
use Rattle.test_audits.proofs.tables.power.Given as goal

abbrev pub invariant-factors : goal.invariant-factors
invariant-factors l = IsModule l.datum l.space × HasLightWeights l.space
