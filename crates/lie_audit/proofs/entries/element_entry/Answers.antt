-- One power more is added.
use Rattle.std.proofs.Common.{◌≡◌, ◌+◌, ◌*◌, ◌≤◌, pos, ◌+ℤ◌, unsigned_abs, cond, eqb, sym, ap, subst, ◌∙◌, arith, lit<}
use mir.Val.{to_z, of_z}
use mir.Syntax.{w128}
use Rattle.lie_ring.specs.Rings.{sum_below}
use Rattle.lie_ring.specs.Integers.{integers}
use Rattle.lie_const.specs.Modules.{top}
use Rattle.lie_datum.proofs.VectorLemmas.{abs_add, plain, sum_is, sum_fits}
use Rattle.lie_audit.specs.SignParts.{unit}
use Rattle.lie_audit.proofs.EntrySums.{added, entry-more, power-more}
use Rattle.lie_audit.proofs.entries.element_entry.Goals as goal

pub overflow_add-sum : goal.overflow_add-sum
overflow_add-sum c =
    let within : unsigned_abs (to_z w128 c.loop-k.sum-bits) ≤ 601 =
    let s = c.loop-k.invariant.small in let t = c.loop-k-test.true in let e = c.top-k-end.ensures.value in let f = c.requires.small.top c.args.r c.requires.number in omega (arith, s, t, e, f) in
    sum_fits (to_z w128 c.loop-k.sum-bits) c.signed-sum.result 601 200 within c.signed-sum.ensures.bound (lit< tt)

pub loop-k-preserved : goal.loop-k-preserved
loop-k-preserved c =
    let k = c.loop-k.k in
    let s = to_z w128 c.loop-k.sum-bits in
    let x = c.signed-sum.result in
    let inv = c.loop-k.invariant in
    let within : unsigned_abs s ≤ 601 =
    let a = inv.small in let g = c.loop-k-test.true in let e = c.top-k-end.ensures.value in let f = c.requires.small.top c.args.r c.requires.number in omega (arith, a, g, e, f) in
    let sum = sum_is s x 601 200 within c.signed-sum.ensures.bound (lit< tt) in
    let y = to_z w128 (of_z w128 c.power_entry.result) in
    let small : unsigned_abs (s +ℤ x) ≤ 1 + 200 * (k + 1) = let a = inv.small in let b = abs_add s x in let l = c.signed-sum.ensures.bound in omega (arith, a, b, l) in
    let entry_small : unsigned_abs c.power_entry.result ≤ 200 =
    subst (λ z. unsigned_abs z ≤ 200) (sym c.power_entry.ensures) (c.requires.small.entries c.args.r (k + 1) c.args.row c.args.col c.requires.number (omega arith) c.requires.row c.requires.col) in
    record {
      sum_is = entry-more c.args.adjoint.now c.args.r (unit c.args.minus) c.args.row c.args.col k s (unit c.loop-k.negative) y _ inv.sum_is inv.power_is (plain c.power_entry.result 200 entry_small (lit< tt) ∙ c.power_entry.ensures) (sum ∙ ap (λ z. s +ℤ z) c.signed-sum.ensures.value);
      small = subst (λ z. unsigned_abs z ≤ 1 + 200 * (k + 1)) (sym sum) small;
      power_is = power-more k c.loop-k.negative c.args.minus inv.power_is;
    }

pub returns-clause-value : goal.returns-clause-value
returns-clause-value c =
    let e : c.loop-k.k ≡ top c.args.adjoint.now c.args.r =
    let a = c.loop-k-test.false in let b = c.top-k-end.ensures.value in let f = c.loop-k.auto.k-end in omega (arith, a, b, f) in
    c.loop-k.invariant.sum_is ∙ ap (λ m. cond (eqb c.args.row c.args.col) (pos 1) (pos 0) +ℤ sum_below integers m (added c.args.adjoint.now c.args.r (unit c.args.minus) c.args.row c.args.col)) e
