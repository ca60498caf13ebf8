-- One power more is added.
use Rattle.std.proofs.Common.{◌≡◌, suc, ◌+◌, ◌*◌, ◌≤◌, pos, ◌+ℤ◌, ◌*ℤ◌, unsigned_abs, sym, ap, subst, ◌∙◌, arith, lit<}
use mir.Val.{to_z, of_z}
use mir.Syntax.{w128}
use Rattle.lie_ring.specs.Integers.{integers}
use Rattle.lie_ring.specs.Powers.{power}
use Rattle.lie_ring.specs.Matrices.{entry}
use Rattle.lie_datum.proofs.VectorLemmas.{abs_add, plain, sum_is, sum_fits}
use Rattle.lie_const.specs.Modules.{top, divided_power}
use Rattle.lie_weight.proofs.ElementLemmas.{added, entry_upto, upto-more, power_small}
use Rattle.lie_weight.proofs.elements.element_entry.Goals as goal
use Rattle.lie_weight.proofs.elements.element_entry.Goals.{After-power_term-sum}

within : (c : After-power_term-sum) → unsigned_abs (to_z w128 c.loop-k.sum-bits) ≤ 1601
within c =
    let few = c.requires.powers.few in
    let a = c.loop-k.invariant.sum_small in let g = c.loop-k-test.true in let e = c.top-k-end.ensures.value in omega (arith, a, g, e, few)

-- the next power of the factor
power_next : (c : After-power_term-sum) → to_z w128 (of_z w128 c.signed-power.result) ≡ power integers c.args.factor (suc c.loop-k.k)
power_next c =
    let t = c.args.factor in
    let k = c.loop-k.k in
    let same : to_z w128 (of_z w128 t) ≡ t = plain t 1 c.requires.unit (lit< tt) in
    let is : c.signed-power.result ≡ power integers t (suc k) = c.signed-power.ensures.value ∙ ap (λ z. z *ℤ to_z w128 (of_z w128 t)) c.loop-k.invariant.power_is ∙ ap (λ z. power integers z k *ℤ z) same in
    ap (λ z. to_z w128 (of_z w128 z)) is ∙ plain (power integers t (suc k)) 1 (power_small t (suc k) c.requires.unit) (lit< tt)

pub overflow_add-sum : goal.overflow_add-sum
overflow_add-sum c = sum_fits (to_z w128 c.loop-k.sum-bits) c.power_term-sum.result 1601 100 (within (goal.at.overflow_add-sum c).After-power_term-sum) c.power_term-sum.ensures.bound (lit< tt)

pub loop-k-preserved : goal.loop-k-preserved
loop-k-preserved c =
    let here = (goal.at.loop-k-preserved c).After-power_term-sum in
    let v = c.args.space.now in
    let r = c.args.root in
    let t = c.args.factor in
    let k = c.loop-k.k in
    let s = to_z w128 c.loop-k.sum-bits in
    let x = c.power_term-sum.result in
    let same : to_z w128 (of_z w128 t) ≡ t = plain t 1 c.requires.unit (lit< tt) in
    let up : suc k ≡ k + 1 = omega arith in
    let next = power_next here in
    let sum = sum_is s x 1601 100 (within here) c.power_term-sum.ensures.bound (lit< tt) in
    let term : x ≡ added v r c.args.row c.args.col t k = c.power_term-sum.ensures.value ∙ ap (λ z. z *ℤ entry (pos 0) (divided_power v r (suc k)) c.args.row c.args.col) next in
    let before : s ≡ entry_upto v r c.args.row c.args.col (added v r c.args.row c.args.col t) k = c.loop-k.invariant.sum_is ∙ ap (λ z. entry_upto v r c.args.row c.args.col (added v r c.args.row c.args.col z) k) same in
    let small : unsigned_abs (s +ℤ x) ≤ 1 + 100 * (k + 1) = let a = c.loop-k.invariant.sum_small in let b = abs_add s x in let l = c.power_term-sum.ensures.bound in omega (arith, a, b, l) in
    record {
      power_is = next ∙ ap (λ n. power integers t n) up ∙ ap (λ z. power integers z (k + 1)) (sym same);
      sum_is = sum ∙ upto-more v r c.args.row c.args.col (added v r c.args.row c.args.col t) k s x before term ∙ ap (λ z. entry_upto v r c.args.row c.args.col (added v r c.args.row c.args.col z) (k + 1)) (sym same);
      power_small = subst (λ z. unsigned_abs z ≤ 1) (sym next) (power_small t (suc k) c.requires.unit);
      sum_small = subst (λ z. unsigned_abs z ≤ 1 + 100 * (k + 1)) (sym sum) small;
    }

pub returns-clause-value : goal.returns-clause-value
returns-clause-value c =
    let v = c.args.space.now in
    let r = c.args.root in
    let t = c.args.factor in
    let same : to_z w128 (of_z w128 t) ≡ t = plain t 1 c.requires.unit (lit< tt) in
    let e : c.loop-k.k ≡ top v r = let a = c.loop-k-test.false in let b = c.top-k-end.ensures.value in let f = c.loop-k.auto.k-end in omega (arith, a, b, f) in
    c.loop-k.invariant.sum_is ∙ ap (λ z. entry_upto v r c.args.row c.args.col (added v r c.args.row c.args.col z) c.loop-k.k) same ∙ ap (entry_upto v r c.args.row c.args.col (added v r c.args.row c.args.col t)) e
