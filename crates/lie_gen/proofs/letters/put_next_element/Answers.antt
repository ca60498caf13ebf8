use Rattle.std.proofs.Common.{codes}
use Rattle.lie_gen.specs.Draws.{fixed, number}
use Rattle.lie_gen.proofs.DrawLemmas.{plain, after}
use Rattle.lie_gen.proofs.letters.put_next_element.Goals as goal

pub returns : goal.returns
returns c = after (fixed (codes ",")) (number 3) c.put_number.result _ _ (plain (codes ",") c.in_ok-extend_from_slice.ensures.items) c.put_number.ensures
