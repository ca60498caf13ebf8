use Rattle.std.proofs.Common.{◌≡◌, ◌≤◌, ◌<◌, ◌+◌, ◌+ℤ◌, length, subst, sym, ap, ◌∙◌, arith, unsigned_abs}
use mir.Val.{to_z}
use mir.Syntax.{w128}
use Rattle.lie_datum.specs.Vectors.{pairing}
use Rattle.lie_datum.specs.RootDatum.{IsWithin, covector}
use Rattle.lie_datum.specs.RootList.{root_of}
use Rattle.lie_datum.proofs.VectorLemmas.{sum_is, sum_bound}
use Rattle.lie_orbit.proofs.WeightLemmas.{covector_within}
use Rattle.lie_orbit.proofs.OrderLemmas.{level_number, level_bound, level_more, level_whole}
use Rattle.lie_orbit.proofs.levels.level.Goals as goal

pub pairing-sum-requires-clause-y : goal.pairing-sum-requires-clause-y
pairing-sum-requires-clause-y c =
    let d = c.args.datum.now in
    let inside : c.loop-k.k < length d.positive = let t = c.loop-k-test.true in let m = c.m-positive.ensures.value in omega (arith, t, m) in
    subst (IsWithin 80000) (sym c.coroot.ensures) (covector_within d c.loaded.ensures c.at.result (level_number d c.loaded.ensures c.args.weight.now c.requires.minuscule c.loop-k.k c.m-positive.result inside c.m-positive.ensures.value c.at.result c.at.ensures))

pub loop-k-preserved : goal.loop-k-preserved
loop-k-preserved c =
    let d = c.args.datum.now in
    let x = c.args.weight.now in
    let k = c.loop-k.k in
    let inside : k < length d.positive = let t = c.loop-k-test.true in let m = c.m-positive.ensures.value in omega (arith, t, m) in
    let s = to_z w128 c.loop-k.sum-bits in
    let p = c.pairing-sum.result in
    let is : p ≡ pairing x (covector d.base (root_of d c.at.result)) = c.pairing-sum.ensures ∙ ap (pairing x) c.coroot.ensures in
    let one : unsigned_abs p ≤ 1 = subst (λ t. unsigned_abs t ≤ 1) (sym is) (level_bound d c.loaded.ensures x c.requires.minuscule k c.m-positive.result inside c.m-positive.ensures.value c.at.result c.at.ensures) in
    let more = level_more d c.loaded.ensures x c.requires.minuscule k c.m-positive.result inside c.m-positive.ensures.value c.at.result c.at.ensures s c.loop-k.invariant.0 in
    let few : k ≤ 120 = let m = c.m-positive.ensures in let v = m.value in let b = m.bound in omega (arith, inside, v, b) in
    let b = c.loop-k.invariant.1 in
    let is' = sum_is s p k 1 b one (omega (arith, few)) in
    let bound = sum_bound s p k 1 b one (omega (arith, few)) in
    (is' ∙ ap (λ t. s +ℤ t) is ∙ more, subst (λ t. unsigned_abs t ≤ k + 1) (sym is') bound)

pub returns-clause-value : goal.returns-clause-value
returns-clause-value c =
    let t = c.loop-k-test.false in
    let m = c.m-positive.ensures.value in
    level_whole c.args.datum.now c.args.weight.now c.loop-k.k _ (omega (arith, t, m)) c.loop-k.invariant.0
