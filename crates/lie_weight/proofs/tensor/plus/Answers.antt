use Rattle.std.proofs.Common.{◌+ℤ◌, sym, ◌∙◌, arith}
use Rattle.lie_datum.specs.Vectors.{entry, plus}
use Rattle.lie_datum.proofs.Entries.{entry-plus, length-plus}
use Rattle.lie_datum.proofs.VectorLemmas.{entry_within, filled, same_filled}
use Rattle.lie_weight.proofs.TensorPlaces.{coordinate_is}
use Rattle.lie_weight.proofs.tensor.plus.Goals as goal

pub loop-k-preserved : goal.loop-k-preserved
loop-k-preserved c =
    let k = c.loop-k.k in
    let x = c.args.x.now in
    let y = c.args.y.now in
    let inv = c.loop-k.invariant in
    filled (λ j. entry x j +ℤ entry y j) (entry x) c.loop-k.sum k _ inv.0 (let t = c.loop-k-test.true in omega (arith, t))
    (coordinate_is (entry c.loop-k.sum k) (entry x k) (entry y k) (inv.2 k (omega arith)) (entry_within 1000000 x k c.requires.x) (entry_within 1000000 y k c.requires.y)) inv.1 inv.2

pub returns : goal.returns
returns c =
    let x = c.args.x.now in
    let y = c.args.y.now in
    same_filled c.loop-k.sum (plus x y) c.loop-k.k c.loop-k.invariant.0 (length-plus x y 8 c.told-x c.told-y) (let t = c.loop-k-test.false in omega (arith, t))
    (λ j l. c.loop-k.invariant.1 j l ∙ sym (entry-plus x y j))
