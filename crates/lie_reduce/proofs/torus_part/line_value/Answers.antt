use Rattle.std.proofs.Common.{◌≡◌, ◌+◌, ◌<◌, suc, take, sym, ap, subst, ◌∙◌, arith, inl, lit<}
use mir.Val.{to_z, of_z}
use mir.Syntax.{w128}
use Rattle.lie_field.specs.Elements.{order_large}
use Rattle.lie_field.specs.Quotient.{mul, power_int}
use Rattle.lie_datum.specs.Vectors.{combination, entry as coordinate}
use Rattle.lie_datum.proofs.VectorLemmas.{take_whole, entry_within, plain}
use Rattle.lie_const.specs.Modules.{dimension}
use Rattle.lie_identities.proofs.CoverSums.{whole_is}
use Rattle.lie_reduce.specs.TorusReading.{IsValueAt}
use Rattle.lie_reduce.proofs.TorusSteps.{diagonal-unit, line-start, line-step}
use Rattle.lie_reduce.proofs.torus_part.line_value.Goals as goal

pub loop-a-init : goal.loop-a-init
loop-a-init c =
    let f = c.args.field.now in
    let v = c.args.space.now in
    let D = c.args.d.now in
    subst (IsValueAt f v D (combination (take 0 c.args.c.now) v.weights)) (sym c.one_of-value.ensures) (line-start f v D c.args.c.now (omega arith, order_large f))

pub pow-requires-clause-defined : goal.pow-requires-clause-defined
pow-requires-clause-defined c =
    let a = c.loop-a.a in
    let low : a < dimension c.args.space.now = let t = c.loop-a-test.true in let e = c.loop-a.auto.a-end in let n = c.dim-a-end.ensures.value in omega (arith, t, e, n) in
    let some = (diagonal-unit c.args.field.now c.args.space.now c.args.d.now c.requires.diagonal a low).0 in
    let is = c.get.ensures in
    inl (omega (arith, some, is))

pub loop-a-preserved : goal.loop-a-preserved
loop-a-preserved c =
    let f = c.args.field.now in
    let g = f.given in
    let v = c.args.space.now in
    let D = c.args.d.now in
    let a = c.loop-a.a in
    let x = c.args.c.now in
    let low : a < dimension v = let t = c.loop-a-test.true in let e = c.loop-a.auto.a-end in let n = c.dim-a-end.ensures.value in omega (arith, t, e, n) in
    let next : suc a ≡ a + 1 = omega arith in
    let within = entry_within 1000000 x a c.requires.small in
    let wide = ap (λ z. to_z w128 (of_z w128 z)) (c.from.ensures ∙ whole_is (coordinate x a) within) ∙ plain (coordinate x a) 1000000 within (lit< tt) in
    let is = c.mul-value.ensures.value ∙ ap (mul g c.loop-a.value) (c.pow.ensures.value ∙ ap (power_int g c.get.result) wide ∙ ap (λ e. power_int g e (coordinate x a)) c.get.ensures) in
    subst (λ n. IsValueAt f v D (combination (take n x) v.weights) c.mul-value.result) next
    (subst (IsValueAt f v D (combination (take (suc a) x) v.weights)) (sym is) (line-step f v D c.requires.diagonal x a c.loop-a.value c.requires.count low c.loop-a.invariant))

pub returns : goal.returns
returns c =
    let v = c.args.space.now in
    let t = c.loop-a-test.false in
    let e = c.loop-a.auto.a-end in
    let n = c.dim-a-end.ensures.value in
    let count = c.requires.count in
    subst (λ x. IsValueAt c.args.field.now v c.args.d.now (combination x v.weights) c.loop-a.value) (take_whole c.loop-a.a c.args.c.now (omega (arith, t, e, n, count))) c.loop-a.invariant
