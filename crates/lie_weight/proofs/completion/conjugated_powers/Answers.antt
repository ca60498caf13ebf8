use Rattle.std.proofs.Common.{◌≡◌, ◌+◌, ◌≤◌, ◌*ℤ◌, suc, unsigned_abs, IfOk, ap, sym, subst, ◌∙◌, arith, lit<}
use mir.Val.{to_z, of_z}
use mir.Syntax.{w128}
use Rattle.lie_datum.proofs.VectorLemmas.{plain}
use Rattle.lie_datum.proofs.ListingLemmas.{ok_map}
use Rattle.lie_const.specs.Modules.{dimension, top, divided_power}
use Rattle.lie_mat.specs.Wide.{IsHugeMatrix}
use Rattle.lie_weight.specs.Factors.{work_on, conjugate_power}
use Rattle.lie_weight.specs.Completion.{IsTrimmed, KeepsAll}
use Rattle.lie_weight.proofs.ConjugatePowers.{sign_product, next_sign, next_conjugate, conjugates_keep}
use Rattle.lie_weight.proofs.completion.conjugated_powers.Goals as goal

pub conjugate-requires-clause-narrow : goal.conjugate-requires-clause-narrow
conjugate-requires-clause-narrow c =
    let next : c.loop-k.k + 1 ≡ suc c.loop-k.k = omega arith in
    subst (λ t. ¬ IsHugeMatrix (work_on c.args.factors.now.absolute t)) (sym (c.power.ensures.value ∙ ap (divided_power c.args.space.now c.args.s) next)) (c.requires.small c.loop-k.k)

pub loop-k-preserved : goal.loop-k-preserved
loop-k-preserved c =
    let w = c.args.factors.now in
    let v = c.args.space.now in
    let s = c.args.s in
    let k = c.loop-k.k in
    let sign = to_z w128 (of_z w128 c.args.sign) in
    let p = to_z w128 c.loop-k.power-bits in
    let q = to_z w128 (of_z w128 (p *ℤ sign)) in
    let inv = c.loop-k.invariant in
    let same : sign ≡ c.args.sign = plain c.args.sign 1 c.requires.sign (lit< tt) in
    let unit : unsigned_abs sign ≤ 1 = subst (λ t. unsigned_abs t ≤ 1) (sym same) c.requires.sign in
    let is : q ≡ p *ℤ sign = plain (p *ℤ sign) 1 (sign_product p sign c.args.sign inv.2 same c.requires.sign) (lit< tt) in
    let r = next_sign sign p q k inv.1 inv.2 unit is in
    (next_conjugate w sign v s c.requires.factors k q c.loop-k.list.items c.push.new.self.items c.power.result.now c.in_ok-conjugate.field-0 inv.0 r.0 c.power.ensures.value c.in_ok-conjugate.ensures.value c.in_ok-conjugate.ensures.fit c.in_ok-push.ensures.items, r.0, r.1)

pub returns : goal.returns
returns c =
    let w = c.args.factors.now in
    let v = c.args.space.now in
    let s = c.args.s in
    let k = c.loop-k.k in
    let sign = to_z w128 (of_z w128 c.args.sign) in
    let same : sign ≡ c.args.sign = plain c.args.sign 1 c.requires.sign (lit< tt) in
    let t = c.loop-k-test.false in
    let e = c.top-k-end.ensures.value in
    let a = c.loop-k.auto.k-end in
    let f = c.requires.few in
    let few : k ≤ 16 = omega (arith, a, e, f) in
    let high : top v s ≤ k = omega (arith, t, e) in
    ok_map (λ l. IsTrimmed (dimension v) c.loop-k.list.items l.items) (λ l. KeepsAll (dimension v) (conjugate_power w c.args.sign v s) l.items)
    (λ l h. subst (λ z. KeepsAll (dimension v) (conjugate_power w z v s) l.items) same (conjugates_keep w sign v s c.requires.factors k c.loop-k.list.items l.items few high c.loop-k.invariant.0 h))
    c.kept.result (subst (λ m. IfOk c.kept.result (λ l. IsTrimmed m c.loop-k.list.items l.items)) c.dim.ensures.value c.kept.ensures)
