use Rattle.std.proofs.Common.{[], arith}
use Rattle.lie_orbit.proofs.GrowthLemmas.{member_minuscule, member_within}
use Rattle.lie_orbit.proofs.levels.with_levels.Goals as goal

pub level-requires-clause-minuscule : goal.level-requires-clause-minuscule
level-requires-clause-minuscule c = member_minuscule c.args.datum.now c.loaded.ensures c.args.orbit.now c.loop-weight.weight-index [] c.requires (omega arith)

pub level-requires-clause-small : goal.level-requires-clause-small
level-requires-clause-small c = member_within c.args.datum.now c.loaded.ensures c.args.orbit.now c.loop-weight.weight-index [] c.requires (omega arith)
