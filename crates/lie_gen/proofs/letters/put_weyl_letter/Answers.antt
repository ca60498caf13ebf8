use Rattle.std.proofs.Common.{codes}
use Rattle.lie_gen.specs.Draws.{fixed, chosen, number, ◌>>◌}
use Rattle.lie_gen.proofs.DrawLemmas.{plain, after}
use Rattle.lie_gen.proofs.letters.put_weyl_letter.Goals as goal

pub returns : goal.returns
returns c =
    let l = c.args.l in
    after (fixed (codes "n")) (number l >> chosen (codes "'")) c.put_chosen.result _ _ (plain (codes "n") c.in_ok-extend_from_slice.ensures.items)
    (after (number l) (chosen (codes "'")) c.put_chosen.result _ _ c.in_ok-put_number.ensures c.put_chosen.ensures)
