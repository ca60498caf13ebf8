use Rattle.std.proofs.Common.{sym, ◌∙◌, arith}
use Rattle.lie_datum.specs.Vectors.{minus}
use Rattle.lie_datum.proofs.VectorLemmas.{same_filled, entry-minus, length-minus}
use Rattle.lie_weight.proofs.dual.opposite.Goals as goal

pub returns : goal.returns
returns c =
    let x = c.args.weight.now in
    same_filled c.loop-k.opposite (minus x) c.loop-k.k c.loop-k.invariant.0 (length-minus x c.told-weight) (let t = c.loop-k-test.false in omega (arith, t))
    (λ j l. c.loop-k.invariant.1 j l ∙ sym (entry-minus x j))
