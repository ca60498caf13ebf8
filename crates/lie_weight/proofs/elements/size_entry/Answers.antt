-- One power more is added.
use Rattle.std.proofs.Common.{◌+◌, ◌*◌, ◌≤◌, pos, ◌+ℤ◌, unsigned_abs, sym, subst, ◌∙◌, arith, lit<}
use mir.Val.{to_z}
use mir.Syntax.{w128}
use Rattle.lie_datum.proofs.VectorLemmas.{abs_add, sum_is}
use Rattle.lie_weight.proofs.ElementLemmas.{size_at, upto-more}
use Rattle.lie_weight.proofs.elements.size_entry.Goals as goal

pub loop-k-preserved : goal.loop-k-preserved
loop-k-preserved c =
    let v = c.args.space.now in
    let r = c.args.root in
    let k = c.loop-k.k in
    let s = to_z w128 c.loop-k.sum-bits in
    let x = c.power_size-sum.result in
    let inv = c.loop-k.invariant in
    let few = c.requires.powers.few in
    let within : unsigned_abs s ≤ 1601 = let a = inv.small in let g = c.loop-k-test.true in let e = c.top-k-end.ensures.value in omega (arith, a, g, e, few) in
    let sum = sum_is s x 1601 100 within c.power_size-sum.ensures.bound (lit< tt) in
    let small : unsigned_abs (s +ℤ x) ≤ 1 + 100 * (k + 1) = let a = inv.small in let b = abs_add s x in let l = c.power_size-sum.ensures.bound in omega (arith, a, b, l) in
    record {
      sum_is = sum ∙ upto-more v r c.args.row c.args.col (λ k. pos (size_at v r c.args.row c.args.col k)) k s x inv.sum_is c.power_size-sum.ensures.value;
      small = subst (λ z. unsigned_abs z ≤ 1 + 100 * (k + 1)) (sym sum) small;
    }
