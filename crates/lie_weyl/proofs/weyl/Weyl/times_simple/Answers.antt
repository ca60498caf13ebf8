use Rattle.std.proofs.Common.{[], ◌∷◌, ◌++◌}
use Rattle.lie_weyl.proofs.weyl.Weyl.times_simple.Goals as goal

pub mul-requires-clause-b : goal.mul-requires-clause-b
mul-requires-clause-b c = (c.args.i ∷ [], c.simple_times.ensures.word [] c.identity.ensures)

pub returns-clause-word : goal.returns-clause-word
returns-clause-word c w h = c.mul.ensures.word w (c.args.i ∷ []) h (c.simple_times.ensures.word [] c.identity.ensures)

pub returns-clause-element : goal.returns-clause-element
returns-clause-element c = (c.requires.element.0 ++ c.args.i ∷ [], returns-clause-word c c.requires.element.0 c.requires.element.1)
