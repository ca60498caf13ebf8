use Rattle.std.proofs.Common.{◌≤◌, ◌+◌, ◌*◌, ◌+ℤ◌, ◌*ℤ◌, sym, ap, ap₂, subst, ◌∙◌, arith, unsigned_abs, lit<}
use mir.Val.{to_z}
use mir.Syntax.{w128}
use Rattle.lie_datum.specs.Vectors.{Vector, entry}
use Rattle.lie_datum.proofs.VectorLemmas.{entry_within, abs_add, abs_mul, product_fits, step_fits, step_is}
use Rattle.lie_identities.proofs.CoverSums.{partial-more, partial-all, weight_small, whole_is}
use Rattle.lie_identities.proofs.cover_lines.combination_entry.Goals as goal

pub overflow_mul-sum : goal.overflow_mul-sum
overflow_mul-sum c =
    let k = c.args.k in
    let within = entry_within 1000000 c.args.c.now c.loop-a.a c.requires.small in
    let p = subst (λ z. unsigned_abs z ≤ 1000000) (sym (c.from.ensures ∙ whole_is (entry c.args.c.now c.loop-a.a) within)) within in
    let q = subst (λ (w : Vector). unsigned_abs (entry w k) ≤ 1000000) (sym c.weight.ensures.value) (weight_small c.args.space.now c.loop-a.a k c.requires.light) in
    product_fits c.from.result (entry c.weight.result.now k) 1000000 1000000 p q (lit< tt) (lit< tt) (lit< tt)

pub overflow_add-sum : goal.overflow_add-sum
overflow_add-sum c =
    let k = c.args.k in
    let within = entry_within 1000000 c.args.c.now c.loop-a.a c.requires.small in
    let p = subst (λ z. unsigned_abs z ≤ 1000000) (sym (c.from.ensures ∙ whole_is (entry c.args.c.now c.loop-a.a) within)) within in
    let q = subst (λ (w : Vector). unsigned_abs (entry w k) ≤ 1000000) (sym c.weight.ensures.value) (weight_small c.args.space.now c.loop-a.a k c.requires.light) in
    let s = to_z w128 c.loop-a.sum-bits in
    let bound : unsigned_abs s ≤ 1024000000000000 = let t = c.loop-a-test.true in let b = c.loop-a.invariant.1 in let e = c.loop-a.auto.a-end in let n = c.dim-a-end.ensures.few in omega (arith, b, t, e, n) in
    step_fits c.from.result (entry c.weight.result.now k) 1000000 1000000 p q (lit< tt) (lit< tt) (lit< tt) s 1024000000000000 bound (lit< tt)

pub loop-a-preserved : goal.loop-a-preserved
loop-a-preserved c =
    let v = c.args.space.now in
    let k = c.args.k in
    let a = c.loop-a.a in
    let x = c.from.result in
    let y = entry c.weight.result.now k in
    let within = entry_within 1000000 c.args.c.now a c.requires.small in
    let from = c.from.ensures ∙ whole_is (entry c.args.c.now a) within in
    let p = subst (λ z. unsigned_abs z ≤ 1000000) (sym from) within in
    let q = subst (λ (w : Vector). unsigned_abs (entry w k) ≤ 1000000) (sym c.weight.ensures.value) (weight_small v a k c.requires.light) in
    let s = to_z w128 c.loop-a.sum-bits in
    let h = c.loop-a.invariant.1 in
    let bound : unsigned_abs s ≤ 1024000000000000 = let t = c.loop-a-test.true in let e = c.loop-a.auto.a-end in let n = c.dim-a-end.ensures.few in omega (arith, h, t, e, n) in
    let is = step_is x y 1000000 1000000 p q (lit< tt) (lit< tt) (lit< tt) s 1024000000000000 bound (lit< tt) in
    let more = abs_add s (x *ℤ y) in
    let product = abs_mul x y 1000000 1000000 p q in
    let small : unsigned_abs (s +ℤ x *ℤ y) ≤ 1000000000000 * (a + 1) = omega (arith, more, product, h) in (
      is ∙ ap₂ (λ t u. t +ℤ u) c.loop-a.invariant.0 (ap₂ (λ t u. t *ℤ u) from (ap (λ (w : Vector). entry w k) c.weight.ensures.value)) ∙ sym (partial-more v c.args.c.now k a),
      subst (λ z. unsigned_abs z ≤ 1000000000000 * (a + 1)) (sym is) small,
    )

pub returns : goal.returns
returns c =
    let t = c.loop-a-test.false in
    let e = c.loop-a.auto.a-end in
    let n = c.dim-a-end.ensures.value in
    c.loop-a.invariant.0 ∙ partial-all c.args.space.now c.args.c.now c.args.k c.loop-a.a (omega (arith, t, e, n)) c.requires.count
