use Rattle.std.proofs.Common.{codes}
use Rattle.lie_gen.specs.Draws.{fixed}
use Rattle.lie_gen.specs.Demonstration.{letter}
use Rattle.lie_gen.proofs.DrawLemmas.{plain, after}
use Rattle.lie_gen.proofs.script.put_next_letter.Goals as goal

pub returns : goal.returns
returns c = after (fixed (codes " ")) (letter c.args.sample.now) c.put_letter.result _ _ (plain (codes " ") c.in_ok-extend_from_slice.ensures.items) c.put_letter.ensures
