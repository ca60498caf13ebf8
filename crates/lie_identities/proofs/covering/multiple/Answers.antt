use Rattle.std.proofs.Common.{◌≡◌, pos, ◌*ℤ◌, sym, ap, ◌∙◌, arith}
use Rattle.lie_datum.specs.Vectors.{entry, times}
use Rattle.lie_datum.proofs.Entries.{entry-times, length-times}
use Rattle.lie_datum.proofs.VectorLemmas.{entry_within, filled, same_filled}
use Rattle.lie_identities.proofs.CoverLemmas.{multiple_entry}
use Rattle.lie_identities.proofs.covering.multiple.Goals as goal

pub loop-k-preserved : goal.loop-k-preserved
loop-k-preserved c =
    let k = c.loop-k.k in
    let x = c.args.weight.now in
    let by = c.args.by in
    let inv = c.loop-k.invariant in
    filled (λ j. pos by *ℤ entry x j) (entry x) c.loop-k.multiple k _ inv.0 (let t = c.loop-k-test.true in omega (arith, t))
    (multiple_entry (entry c.loop-k.multiple k) (entry x k) c.from.result by (inv.2 k (omega arith)) (entry_within 1000000 x k c.requires.weight) c.requires.by c.from.ensures) inv.1 inv.2

pub returns : goal.returns
returns c =
    let x = c.args.weight.now in
    same_filled c.loop-k.multiple (times (pos c.args.by) x) c.loop-k.k c.loop-k.invariant.0 (length-times (pos c.args.by) x ∙ c.told-weight) (let t = c.loop-k-test.false in omega (arith, t))
    (λ j l. c.loop-k.invariant.1 j l ∙ sym (entry-times (pos c.args.by) x j))
