use Rattle.std.proofs.Common.{◌≡◌, ◌*◌, ◌^◌, neg_ℤ, ◌+ℤ◌, ◌*ℤ◌, sym, ap, ◌∙◌, arith, lit<}
use mir.Val.{to_z, of_z}
use mir.Syntax.{w128}
use Rattle.lie_datum.specs.Vectors.{entry, plus, times}
use Rattle.lie_datum.proofs.Entries.{entry-plus, entry-times, length-plus, length-times}
use Rattle.lie_datum.proofs.VectorLemmas.{entry_within, filled, same_filled, plain}
use Rattle.lie_orbit.proofs.ArithmeticLemmas.{turn_fits, turn_is}
use Rattle.lie_orbit.proofs.vectors.less_multiple.Goals as goal

pub overflow_sub-image : goal.overflow_sub-image
overflow_sub-image c =
    let k = c.loop-k.k in
    let x = c.args.weight.now in
    let r = c.args.root.now in
    turn_fits (entry c.loop-k.image k) (entry x k) c.args.by (entry r k) (c.loop-k.invariant.2 k (omega arith)) (entry_within (25 * 10 ^ 31) x k c.requires.weight) c.requires.by (entry_within 80000 r k c.requires.root)

pub loop-k-preserved : goal.loop-k-preserved
loop-k-preserved c =
    let k = c.loop-k.k in
    let x = c.args.weight.now in
    let r = c.args.root.now in
    let by = to_z w128 (of_z w128 c.args.by) in
    let same : by ≡ c.args.by = plain c.args.by (10 ^ 32) c.requires.by (lit< tt) in
    let inv = c.loop-k.invariant in
    filled (λ j. entry x j +ℤ neg_ℤ by *ℤ entry r j) (entry x) c.loop-k.image k _ inv.0 (let t = c.loop-k-test.true in omega (arith, t))
    (turn_is (entry c.loop-k.image k) (entry x k) c.args.by (entry r k) (inv.2 k (omega arith)) (entry_within (25 * 10 ^ 31) x k c.requires.weight) c.requires.by (entry_within 80000 r k c.requires.root) ∙ ap (λ t. entry x k +ℤ neg_ℤ t *ℤ entry r k) (sym same)) inv.1 inv.2

pub returns : goal.returns
returns c =
    let x = c.args.weight.now in
    let r = c.args.root.now in
    let y = times (neg_ℤ c.args.by) r in
    let same : to_z w128 (of_z w128 c.args.by) ≡ c.args.by = plain c.args.by (10 ^ 32) c.requires.by (lit< tt) in
    same_filled c.loop-k.image (plus x y) c.loop-k.k c.loop-k.invariant.0 (length-plus x y 8 c.told-weight (length-times (neg_ℤ c.args.by) r ∙ c.told-root)) (let t = c.loop-k-test.false in omega (arith, t))
    (λ j l. c.loop-k.invariant.1 j l ∙ ap (λ t. entry x j +ℤ neg_ℤ t *ℤ entry r j) same ∙ ap (λ t. entry x j +ℤ t) (sym (entry-times (neg_ℤ c.args.by) r j)) ∙ sym (entry-plus x y j))
