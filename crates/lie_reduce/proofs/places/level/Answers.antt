use Rattle.std.proofs.Common.{◌≡◌, ◌≤◌, ◌<◌, ◌+◌, ◌*◌, ◌+ℤ◌, length, subst, sym, ap, ◌∙◌, arith, unsigned_abs}
use mir.Val.{to_z}
use mir.Syntax.{w128}
use Rattle.lie_datum.specs.Vectors.{pairing}
use Rattle.lie_datum.specs.RootDatum.{IsWithin, covector}
use Rattle.lie_datum.specs.RootList.{root_of}
use Rattle.lie_datum.proofs.VectorLemmas.{sum_is, sum_bound, sum_fits}
use Rattle.lie_orbit.proofs.WeightLemmas.{covector_within}
use Rattle.lie_orbit.proofs.OrderLemmas.{level_whole}
use Rattle.lie_reduce.proofs.LevelSums.{light_pairing, level_next}
use Rattle.lie_reduce.proofs.places.level.Goals as goal

pub pairing-sum-requires-clause-y : goal.pairing-sum-requires-clause-y
pairing-sum-requires-clause-y c = subst (IsWithin 80000) (sym c.coroot.ensures) (covector_within c.args.datum.now c.loaded.ensures c.root_at.result c.root_at.ensures.number)

pub overflow_add-sum : goal.overflow_add-sum
overflow_add-sum c =
    let d = c.args.datum.now in
    let x = c.args.weight.now in
    let p = c.pairing-sum.result in
    let small = subst (IsWithin 80000) (sym c.coroot.ensures) (covector_within d c.loaded.ensures c.root_at.result c.root_at.ensures.number) in
    let bound = light_pairing x c.coroot.result.now c.requires small in
    let long = c.told-weight in
    let one : unsigned_abs p ≤ 640000000000 = subst (λ t. unsigned_abs t ≤ 640000000000) (sym c.pairing-sum.ensures) (omega (arith, bound, long)) in
    let test = c.loop-k-test.true in
    let end = c.m-k-end.ensures.bound in
    let few : c.loop-k.k ≤ 120 = omega (arith, test, end) in
    sum_fits (to_z w128 c.loop-k.sum-bits) p (c.loop-k.k * 640000000000) 640000000000 c.loop-k.invariant.1 one (omega (arith, few))

pub loop-k-preserved : goal.loop-k-preserved
loop-k-preserved c =
    let d = c.args.datum.now in
    let x = c.args.weight.now in
    let k = c.loop-k.k in
    let test = c.loop-k-test.true in
    let value = c.m-k-end.ensures.value in
    let end = c.m-k-end.ensures.bound in
    let inside : k < length d.positive = omega (arith, test, value) in
    let few : k ≤ 120 = omega (arith, test, end) in
    let s = to_z w128 c.loop-k.sum-bits in
    let p = c.pairing-sum.result in
    let small = subst (IsWithin 80000) (sym c.coroot.ensures) (covector_within d c.loaded.ensures c.root_at.result c.root_at.ensures.number) in
    let bound = light_pairing x c.coroot.result.now c.requires small in
    let long = c.told-weight in
    let one : unsigned_abs p ≤ 640000000000 = subst (λ t. unsigned_abs t ≤ 640000000000) (sym c.pairing-sum.ensures) (omega (arith, bound, long)) in
    let is : p ≡ pairing x (covector d.base (root_of d c.root_at.result)) = c.pairing-sum.ensures ∙ ap (pairing x) c.coroot.ensures in
    let more = level_next d x k inside c.root_at.result s c.root_at.ensures.value c.loop-k.invariant.0 in
    let b = c.loop-k.invariant.1 in
    let is' = sum_is s p (k * 640000000000) 640000000000 b one (omega (arith, few)) in
    let most = sum_bound s p (k * 640000000000) 640000000000 b one (omega (arith, few)) in
    (is' ∙ ap (λ t. s +ℤ t) is ∙ more, subst (λ t. unsigned_abs t ≤ (k + 1) * 640000000000) (sym is') (omega (arith, most)))

pub returns-clause-value : goal.returns-clause-value
returns-clause-value c =
    let t = c.loop-k-test.false in
    let m = c.m-k-end.ensures.value in
    level_whole c.args.datum.now c.args.weight.now c.loop-k.k _ (omega (arith, t, m)) c.loop-k.invariant.0
