use Rattle.std.proofs.Common.{◌<◌, ℤ, arith}
use Rattle.lie_datum.specs.RootList.{IsNumber}
use Rattle.lie_const.specs.Signs.{eta_of}
use Rattle.lie_weight.specs.Conjugation.{absolute_height}
use Rattle.lie_weight.proofs.CompletionLemmas.{partly_start, partly_completed, partly_small, extends_refl}
use Rattle.lie_weight.proofs.completion.complete.Goals as goal
use Rattle.lie_weight.proofs.completion.complete.Goals.{After-loop-height}

pub loop-height-init : goal.loop-height-init
loop-height-init c = (partly_start c.args.datum.now (eta_of c.args.signs.now) c.args.space.now c.requires.draft, c.requires.factors, extends_refl c.args.datum.now c.args.space.now c.requires.draft)

top_is : (c : After-loop-height) → (r : ℤ) → IsNumber c.args.datum.now r → absolute_height c.args.datum.now r < c.loop-height.height
top_is c r n = let h = c.highest-height-end.ensures.all r n in let t = c.loop-height-test.false in omega (arith, h, t)

pub returns-clause-completed : goal.returns-clause-completed
returns-clause-completed c = partly_completed c.args.datum.now (eta_of c.args.signs.now) c.loop-height.height c.loop-height.space (top_is (goal.at.returns-clause-completed c).After-loop-height) c.loop-height.invariant.0

pub returns-clause-small : goal.returns-clause-small
returns-clause-small c = partly_small c.args.datum.now (eta_of c.args.signs.now) c.loop-height.height c.loop-height.space (top_is (goal.at.returns-clause-small c).After-loop-height) c.loop-height.invariant.0
