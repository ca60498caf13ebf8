use Rattle.std.proofs.Common.{◌≡◌, suc, ◌+◌, ◌-◌, ◌≤◌, pos, ◌+ℤ◌, ◌-ℤ◌, ◌*ℤ◌, unsigned_abs, sym, ap, subst, ◌∙◌, arith}
use Rattle.lie_datum.specs.Vectors.{entry}
use Rattle.lie_datum.specs.RootDatum.{simple, reflected, is_simple, is_reflected, IsSimpleIndex}
use Rattle.lie_datum.specs.RootList.{height}
use Rattle.lie_datum.proofs.VectorLemmas.{entry_within}
use Rattle.lie_weyl.proofs.HeightSigns.{height_within}
use Rattle.lie_weyl.proofs.HeightSums.{plain_small, product_fits, sum_fits, sum_is}
use Rattle.lie_weyl.proofs.ImageLemmas.{below_more, behind_more}
use Rattle.std.proofs.Math.ListN.{length-set}
use Rattle.lie_weyl.proofs.descents.turned.Goals as goal

pub overflow_mul-turned : goal.overflow_mul-turned
overflow_mul-turned c =
    let d = c.args.datum.now in
    let i = c.args.i in
    let k = c.loop-k.k in
    let t = c.loop-k-test.true in
    let l = c.l-k-end.ensures in
    let s : IsSimpleIndex d.base (k + 1) = (omega arith, omega (arith, t, l)) in
    let r = reflected d.base i (simple (k + 1)) in
    let is : c.height.result ≡ height r = c.height.ensures ∙ ap height (c.reflect-image.ensures.root ∙ ap (reflected d.base i) c.simple.ensures.root) in
    let small = subst (λ z. unsigned_abs z ≤ 800) (sym is) (height_within d c.loaded.ensures r (is_reflected i (simple (k + 1)) c.requires.index (is_simple (k + 1) s))) in
    let f = subst (λ z. unsigned_abs z ≤ 800) (sym (c.from.ensures ∙ plain_small c.height.result small)) small in
    let e = entry c.args.heights.now (i - 1) in
    let q = entry_within 800 c.args.heights.now (i - 1) c.requires.small in
    product_fits c.from.result e e f q q

pub overflow_add-turned : goal.overflow_add-turned
overflow_add-turned c =
    let d = c.args.datum.now in
    let i = c.args.i in
    let k = c.loop-k.k in
    let t = c.loop-k-test.true in
    let l = c.l-k-end.ensures in
    let s : IsSimpleIndex d.base (k + 1) = (omega arith, omega (arith, t, l)) in
    let r = reflected d.base i (simple (k + 1)) in
    let is : c.height.result ≡ height r = c.height.ensures ∙ ap height (c.reflect-image.ensures.root ∙ ap (reflected d.base i) c.simple.ensures.root) in
    let small = subst (λ z. unsigned_abs z ≤ 800) (sym is) (height_within d c.loaded.ensures r (is_reflected i (simple (k + 1)) c.requires.index (is_simple (k + 1) s))) in
    let f = subst (λ z. unsigned_abs z ≤ 800) (sym (c.from.ensures ∙ plain_small c.height.result small)) small in
    let q = entry_within 800 c.args.heights.now (i - 1) c.requires.small in
    let old = subst (λ z. unsigned_abs z ≤ 800) (sym (c.loop-k.invariant.2 k (omega arith))) (entry_within 800 c.args.heights.now k c.requires.small) in
    sum_fits c.from.result (entry c.args.heights.now (i - 1)) (entry c.loop-k.turned k) f q old

pub loop-k-preserved : goal.loop-k-preserved
loop-k-preserved c =
    let d = c.args.datum.now in
    let i = c.args.i in
    let k = c.loop-k.k in
    let t = c.loop-k-test.true in
    let l = c.l-k-end.ensures in
    let s : IsSimpleIndex d.base (k + 1) = (omega arith, omega (arith, t, l)) in
    let r = reflected d.base i (simple (k + 1)) in
    let is : c.height.result ≡ height r = c.height.ensures ∙ ap height (c.reflect-image.ensures.root ∙ ap (reflected d.base i) c.simple.ensures.root) in
    let small = subst (λ z. unsigned_abs z ≤ 800) (sym is) (height_within d c.loaded.ensures r (is_reflected i (simple (k + 1)) c.requires.index (is_simple (k + 1) s))) in
    let from = c.from.ensures ∙ plain_small c.height.result small in
    let f = subst (λ z. unsigned_abs z ≤ 800) (sym from) small in
    let q = entry_within 800 c.args.heights.now (i - 1) c.requires.small in
    let same = c.loop-k.invariant.2 k (omega arith) in
    let old = subst (λ z. unsigned_abs z ≤ 800) (sym same) (entry_within 800 c.args.heights.now k c.requires.small) in
    let places = c.loop-k.invariant.0 in
    let e : k + 1 ≡ suc k = omega arith in
    let value = sum_is c.from.result (entry c.args.heights.now (i - 1)) (entry c.loop-k.turned k) f q old
    ∙ ap (λ z. z +ℤ (c.from.result -ℤ pos 1) *ℤ entry c.args.heights.now (i - 1)) same
    ∙ ap (λ z. entry c.args.heights.now k +ℤ (z -ℤ pos 1) *ℤ entry c.args.heights.now (i - 1)) (from ∙ is ∙ ap (λ n. height (reflected d.base i (simple n))) e) in (
      length-set c.loop-k.turned k _ ∙ places,
      below_more (λ z j. z ≡ entry c.args.heights.now j +ℤ (height (reflected d.base i (simple (suc j))) -ℤ pos 1) *ℤ entry c.args.heights.now (i - 1)) c.loop-k.turned _ k (pos 0) (omega (arith, places)) c.loop-k.invariant.1 value,
      behind_more c.loop-k.turned c.args.heights.now _ k (pos 0) c.loop-k.invariant.2,
    )

pub returns-clause-turned : goal.returns-clause-turned
returns-clause-turned c = λ j s.
    let d = c.args.datum.now in
    let i = c.args.i in
    let a = s.0 in
    let b = s.1 in
    let t = c.loop-k-test.false in
    let l = c.l-k-end.ensures in
    let e : suc (j - 1) ≡ j = omega (arith, a) in
    c.loop-k.invariant.1 (j - 1) (omega (arith, a, b, t, l)) ∙ ap (λ n. entry c.args.heights.now (j - 1) +ℤ (height (reflected d.base i (simple n)) -ℤ pos 1) *ℤ entry c.args.heights.now (i - 1)) e

pub returns-clause-rest : goal.returns-clause-rest
returns-clause-rest c = λ h k q.
    let t = c.loop-k.auto.k-end in
    let l = c.l-k-end.ensures in
    c.loop-k.invariant.2 k (omega (arith, t, l, q)) ∙ h k q
