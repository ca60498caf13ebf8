use Rattle.std.proofs.Common.{codes}
use Rattle.lie_gen.specs.Draws.{fixed, chosen, number, ◌>>◌}
use Rattle.lie_gen.proofs.DrawLemmas.{plain, after}
use Rattle.lie_gen.proofs.letters.put_root_letter.Goals as goal

pub returns : goal.returns
returns c =
    let m = c.args.m in
    let r = c.put_fixed.result in
    let last = fixed (codes ")") in
    let element = number 3 >> last in
    let opened = fixed (codes "(") >> element in
    after (fixed (codes "x")) (chosen (codes "-") >> number m >> opened) r _ _ (plain (codes "x") c.in_ok-extend_from_slice.ensures.items)
    (after (chosen (codes "-")) (number m >> opened) r _ _ c.in_ok-put_chosen.ensures
    (after (number m) opened r _ _ c.in_ok-put_number.ensures
    (after (fixed (codes "(")) element r _ _ (plain (codes "(") c.in_ok-extend_from_slice-2.ensures.items)
    (after (number 3) last r _ _ c.in_ok-put_number-2.ensures c.put_fixed.ensures))))
