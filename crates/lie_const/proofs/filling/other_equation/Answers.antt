use Rattle.std.proofs.Common.{◌^◌, ◌≤◌, ℕ, ℤ, neg_ℤ, ◌+ℤ◌, ◌*ℤ◌, ap, subst, sym, ◌∙◌, arith, lit<, unsigned_abs}
use mir.Val.{to_z, of_z}
use mir.Syntax.{w128}
use Rattle.lie_const.specs.StructureConstants.{own, at_part, norm, gap}
use Rattle.lie_const.proofs.FillLemmas.{forced_as}
use Rattle.lie_const.specs.Filling.{table_in}
use Rattle.lie_datum.proofs.VectorLemmas.{plain}
use Rattle.lie_const.proofs.SpecialLemmas.{abs_number, abs_opposite}
use Rattle.lie_const.proofs.Kept.{three_kept, norm_bound, sum_fits, scaled_fits, scaled_kept}
use Rattle.lie_const.proofs.filling.other_equation.Goals as goal
use Rattle.lie_const.proofs.filling.other_equation.Goals.{After-length2}

pub n-requires-clause-r : goal.n-requires-clause-r
n-requires-clause-r c = abs_number c.args.datum.now c.args.values.now.positive c.args.s c.requires.count c.requires.special.sum.right

pub n-requires-clause-s : goal.n-requires-clause-s
n-requires-clause-s c = abs_opposite c.args.datum.now c.args.values.now.positive c.opposite.result c.args.r0 c.requires.count c.opposite.ensures c.requires.extraspecial.special.sum.left

pub n-requires-2-clause-r : goal.n-requires-2-clause-r
n-requires-2-clause-r c = abs_number c.args.datum.now c.args.values.now.positive c.args.r c.requires.count c.requires.special.sum.left

pub n-requires-2-clause-s : goal.n-requires-2-clause-s
n-requires-2-clause-s c = abs_opposite c.args.datum.now c.args.values.now.positive c.opposite-2.result c.args.s0 c.requires.count c.opposite-2.ensures c.requires.extraspecial.special.sum.right

pub n-requires-3-clause-r : goal.n-requires-3-clause-r
n-requires-3-clause-r c = abs_opposite c.args.datum.now c.args.values.now.positive c.opposite-3.result c.args.r0 c.requires.count c.opposite-3.ensures c.requires.extraspecial.special.sum.left

pub n-requires-3-clause-s : goal.n-requires-3-clause-s
n-requires-3-clause-s c = abs_number c.args.datum.now c.args.values.now.positive c.args.r c.requires.count c.requires.special.sum.left

pub n-requires-4-clause-r : goal.n-requires-4-clause-r
n-requires-4-clause-r c = abs_number c.args.datum.now c.args.values.now.positive c.args.s c.requires.count c.requires.special.sum.right

pub n-requires-4-clause-s : goal.n-requires-4-clause-s
n-requires-4-clause-s c = abs_opposite c.args.datum.now c.args.values.now.positive c.opposite-4.result c.args.s0 c.requires.count c.opposite-4.ensures c.requires.extraspecial.special.sum.right

pub n-requires-5-clause-r : goal.n-requires-5-clause-r
n-requires-5-clause-r c = abs_number c.args.datum.now c.args.values.now.positive c.args.r0 c.requires.count c.requires.extraspecial.special.sum.left

pub n-requires-5-clause-s : goal.n-requires-5-clause-s
n-requires-5-clause-s c = abs_number c.args.datum.now c.args.values.now.positive c.args.s0 c.requires.count c.requires.extraspecial.special.sum.right

-- a value, and what the code passes of a number that is small
small : (z : ℤ) → unsigned_abs z ≤ 128 → unsigned_abs z ≤ 2160
small z l = omega (arith, l)

kept : (z : ℤ) (n : ℕ) → unsigned_abs z ≤ n → n ≤ 2160 → unsigned_abs (to_z w128 (of_z w128 z)) ≤ 2160
kept z n l m = let e = plain z 2160 (omega (arith, l, m)) (lit< tt) in subst (λ t. unsigned_abs t ≤ 2160) (sym e) (omega (arith, l, m))

pub product-through_r-requires-clause-x : goal.product-through_r-requires-clause-x
product-through_r-requires-clause-x c = kept c.n.result 128 c.n.ensures.bound (omega arith)

pub product-through_r-requires-clause-y : goal.product-through_r-requires-clause-y
product-through_r-requires-clause-y c = kept c.n-2.result 128 c.n-2.ensures.bound (omega arith)

pub product-through_r-requires-clause-z : goal.product-through_r-requires-clause-z
product-through_r-requires-clause-z c = kept c.gap-from_r.result 2160 c.gap-from_r.ensures.bound (omega arith)

pub product-through_s-requires-clause-x : goal.product-through_s-requires-clause-x
product-through_s-requires-clause-x c = kept c.n-3.result 128 c.n-3.ensures.bound (omega arith)

pub product-through_s-requires-clause-y : goal.product-through_s-requires-clause-y
product-through_s-requires-clause-y c = kept c.n-4.result 128 c.n-4.ensures.bound (omega arith)

pub product-through_s-requires-clause-z : goal.product-through_s-requires-clause-z
product-through_s-requires-clause-z c = kept c.gap-from_s.result 2160 c.gap-from_s.ensures.bound (omega arith)

pub product-requires-clause-x : goal.product-requires-clause-x
product-requires-clause-x c = kept c.n-5.result 128 c.n-5.ensures.bound (omega arith)

pub product-requires-clause-y : goal.product-requires-clause-y
product-requires-clause-y c = kept c.gap-from_s.result 2160 c.gap-from_s.ensures.bound (omega arith)

pub product-requires-clause-z : goal.product-requires-clause-z
product-requires-clause-z c = kept c.gap-from_r.result 2160 c.gap-from_r.ensures.bound (omega arith)

length_bound : (c : After-length2) → unsigned_abs c.length2.result ≤ 2160
length_bound c = norm_bound c.length2.result c.length2.ensures.positive c.length2.ensures.bound

pub overflow_add-result : goal.overflow_add-result
overflow_add-result c = sum_fits c.length2.result c.product-through_r.result c.product-through_s.result (length_bound c) c.product-through_r.ensures.bound c.product-through_s.ensures.bound

pub overflow_mul-result : goal.overflow_mul-result
overflow_mul-result c = scaled_fits c.length2.result c.product-through_r.result c.product-through_s.result (length_bound c) c.product-through_r.ensures.bound c.product-through_s.ensures.bound

pub returns-clause-forced : goal.returns-clause-forced
returns-clause-forced c =
    let d = c.args.datum.now in
    let n = table_in c.args.values.now in
    let r = c.args.r in
    let s = c.args.s in
    let r0 = c.args.r0 in
    let s0 = c.args.s0 in
    let through_r = three_kept c.n.result c.n-2.result c.gap-from_r.result (n s (neg_ℤ r0)) (n r (neg_ℤ s0)) (gap d r r0) c.product-through_r.result (small c.n.result c.n.ensures.bound) (small c.n-2.result c.n-2.ensures.bound) c.gap-from_r.ensures.bound
    c.product-through_r.ensures.value (c.n.ensures.value ∙ ap (n s) c.opposite.ensures) (c.n-2.ensures.value ∙ ap (n r) c.opposite-2.ensures) c.gap-from_r.ensures.value in
    let through_s = three_kept c.n-3.result c.n-4.result c.gap-from_s.result (n (neg_ℤ r0) r) (n s (neg_ℤ s0)) (gap d s r0) c.product-through_s.result (small c.n-3.result c.n-3.ensures.bound) (small c.n-4.result c.n-4.ensures.bound) c.gap-from_s.ensures.bound
    c.product-through_s.ensures.value (c.n-3.ensures.value ∙ ap (λ t. n t r) c.opposite-3.ensures) (c.n-4.ensures.value ∙ ap (n s) c.opposite-4.ensures) c.gap-from_s.ensures.value in
    let factor = three_kept c.n-5.result c.gap-from_s.result c.gap-from_r.result (n r0 s0) (gap d s r0) (gap d r r0) c.product.result (small c.n-5.result c.n-5.ensures.bound) c.gap-from_s.ensures.bound c.gap-from_r.ensures.bound
    c.product.ensures.value c.n-5.ensures.value c.gap-from_s.ensures.value c.gap-from_r.ensures.value in
    let value = scaled_kept c.length2.result c.product-through_r.result c.product-through_s.result (length_bound c) c.product-through_r.ensures.bound c.product-through_s.ensures.bound
    ∙ ap (λ t. t *ℤ (c.product-through_r.result +ℤ c.product-through_s.result)) c.length2.ensures.value ∙ ap (λ t. norm d c.args.k *ℤ (t +ℤ c.product-through_s.result)) through_r
    ∙ ap (λ t. norm d c.args.k *ℤ (n s (neg_ℤ r0) *ℤ n r (neg_ℤ s0) *ℤ gap d r r0 +ℤ t)) through_s in
    forced_as d n (at_part c.args.k r 0) r s _ _ _ _ (plain c.product.result (2 ^ 40) c.product.ensures.bound (lit< tt) ∙ factor) value (own r s c.args.k r0 s0 c.requires.special c.requires.extraspecial c.requires.other)
