-- The rows before and after those of the h_i are 0.
use Rattle.std.proofs.Common.{◌≡◌, ◌+◌, ◌<◌, ◌≤◌, unsigned_abs, refl, sym, ap, subst, ◌∙◌, arith, lit<, length, neg_ℤ}
use mir.Val.{to_z, of_z}
use mir.Syntax.{w128}
use Rattle.lie_datum.specs.Vectors.{entry}
use Rattle.lie_datum.specs.RootDatum.{rank}
use Rattle.lie_datum.proofs.VectorLemmas.{plain}
use Rattle.lie_const.specs.ConstantTables.{value_of}
use Rattle.lie_const.specs.Adjoint.{basis_place}
use Rattle.lie_const.proofs.SumLemmas.{neg_number}
use Rattle.lie_weight.specs.AdjointParts.{IsPartial, IsDivided}
use Rattle.lie_weight.proofs.BasisLemmas.{root_within}
use Rattle.lie_weight.proofs.PairingLemmas.{co_coefficient_small}
use Rattle.lie_weight.proofs.Fills.{set_next, opposite_divided, coroots_begin, coroots_end}
use Rattle.lie_weight.proofs.adjoint.fill_coroots.Goals as goal

small : (c : goal.After-set-arg-in-loop-i-2-1) → unsigned_abs (entry c.co_coeffs.result.now c.loop-i.i) ≤ 100
small c = subst (λ v. unsigned_abs (entry v c.loop-i.i) ≤ 100) (sym c.co_coeffs.ensures) (co_coefficient_small c.args.datum.now c.loaded.ensures c.args.r c.loop-i.i c.requires.number)

pub loop-i-init : goal.loop-i-init
loop-i-init c =
    let d = c.args.datum.now in
    let n = value_of c.args.consts.now in
    let e : length d.positive ≡ c.m-m.result + 0 = let f = c.m-m.ensures.value in omega (arith, f) in
    let begun = subst (λ col. IsPartial d n c.args.r 1 c.args.matrix.now col 0) c.requires.col c.requires.partly in
    subst (λ col. IsPartial d n c.args.r 1 c.args.matrix.now col (c.m-m.result + 0)) (sym c.requires.col)
    (subst (IsPartial d n c.args.r 1 c.args.matrix.now (basis_place d (neg_ℤ c.args.r))) e (coroots_begin d c.loaded.ensures n c.args.r c.requires.number c.args.matrix.now begun))

pub set-requires-clause-row : goal.set-requires-clause-row
set-requires-clause-row c = let p = c.loop-i.invariant.height in let a = c.m-m.ensures.value in let b = c.l-i-end.ensures in let t = c.loop-i-test.true in omega (arith, p, a, b, t)

pub set-requires-clause-col : goal.set-requires-clause-col
set-requires-clause-col c =
    let d = c.args.datum.now in
    let w = root_within d (neg_ℤ c.args.r) (neg_number d c.loaded.ensures c.args.r c.requires.number) in
    let p = c.loop-i.invariant.width in
    let e = c.requires.col in
    omega (arith, w, p, e)

pub set-requires-clause-fits : goal.set-requires-clause-fits
set-requires-clause-fits c =
    let l = small c in
    (refl, subst (λ z. unsigned_abs z < 85070591730234615865843651857942052864) (sym (plain (entry c.co_coeffs.result.now c.loop-i.i) 100 l (lit< tt))) (omega (arith, l)))

pub loop-i-preserved : goal.loop-i-preserved
loop-i-preserved c =
    let d = c.args.datum.now in
    let n = value_of c.args.consts.now in
    let r = c.args.r in
    let i = c.loop-i.i in
    let x = entry c.co_coeffs.result.now i in
    let down = neg_number d c.loaded.ensures r c.requires.number in
    let col = basis_place d (neg_ℤ r) in
    let m = c.m-m.ensures.value in
    let row : c.m-m.result + i ≡ length d.positive + i = omega (arith, m) in
    let more : length d.positive + i + 1 ≡ c.m-m.result + (i + 1) = omega (arith, m) in
    let l : i < rank d.base = let t = c.loop-i-test.true in let e = c.l-i-end.ensures in omega (arith, t, e) in
    let begun = subst (IsPartial d n r 1 c.loop-i.matrix col) row (subst (λ k. IsPartial d n r 1 c.loop-i.matrix k (c.m-m.result + i)) c.requires.col c.loop-i.invariant) in
    let value = plain x 100 (subst (λ v. unsigned_abs (entry v i) ≤ 100) (sym c.co_coeffs.ensures) (co_coefficient_small d c.loaded.ensures r i c.requires.number)) (lit< tt) ∙ ap (λ v. entry v i) c.co_coeffs.ensures in
    let divided = subst (λ e. IsDivided d n r 1 e (length d.positive + i) col) (sym value) (opposite_divided d c.loaded.ensures n r c.requires.number i l) in
    subst (λ k. IsPartial d n r 1 c.set.new.self k (c.m-m.result + (i + 1))) (sym c.requires.col)
    (subst (IsPartial d n r 1 c.set.new.self col) more
    (set_next d n r 1 c.loop-i.matrix c.set.new.self (c.m-m.result + i) c.args.col (length d.positive + i) col (to_z w128 (of_z w128 x)) row c.requires.col
    (c.in_ok-set.ensures.ok) (c.in_ok-set.ensures.fit) begun (root_within d (neg_ℤ r) down) (omega (arith, l)) divided))

pub returns : goal.returns
returns c =
    let d = c.args.datum.now in
    let n = value_of c.args.consts.now in
    let r = c.args.r in
    let m = c.m-m.ensures.value in
    let e = c.l-i-end.ensures in
    let t = c.loop-i-test.false in
    let all : length d.positive + rank d.base ≤ c.m-m.result + c.loop-i.i = omega (arith, m, e, t) in
    subst (λ k. IsPartial d n r 1 c.loop-i.matrix (k + 1) 0) (sym c.requires.col)
    (coroots_end d c.loaded.ensures n r c.requires.number c.loop-i.matrix (c.m-m.result + c.loop-i.i) all
    (subst (λ k. IsPartial d n r 1 c.loop-i.matrix k (c.m-m.result + c.loop-i.i)) c.requires.col c.loop-i.invariant))
