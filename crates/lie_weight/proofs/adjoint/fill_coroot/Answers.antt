-- The column of h_i has -<r, a_i^> in the row of e_r in the first power, and is 0 in the others.
use Rattle.std.proofs.Common.{◌≡◌, ◌+◌, ◌-◌, sym, subst, ◌∙◌, arith, lit<}
use mir.Val.{to_z, of_z}
use mir.Syntax.{w128}
use Rattle.lie_datum.proofs.VectorLemmas.{plain}
use Rattle.lie_const.specs.ConstantTables.{value_of}
use Rattle.lie_const.specs.Adjoint.{basis_place}
use Rattle.lie_weight.specs.AdjointParts.{IsPartial, coroot_place}
use Rattle.lie_weight.proofs.BasisLemmas.{root_within, coroot_within}
use Rattle.lie_weight.proofs.SpecialColumns.{coroot_column}
use Rattle.lie_weight.proofs.Partials.{none_written}
use Rattle.lie_weight.proofs.Fills.{on_ok, set_one, coroot_divided, coroot_zero}
use Rattle.lie_weight.proofs.adjoint.fill_coroot.Goals as goal

pub returns-then-k-ne1 : goal.returns-then-k-ne1
returns-then-k-ne1 c =
    let d = c.args.datum.now in
    let n = value_of c.args.consts.now in
    none_written d n c.args.r c.args.k c.args.matrix.now (coroot_place d c.args.i) c.requires.partly
    (λ j l. coroot_column d c.loaded.ensures n c.args.r c.requires.number c.args.i c.requires.index c.args.k j (let h = c.requires.first in let o = c.if-k-ne1.true in omega (arith, h, o)) l)

pub returns : goal.returns
returns c =
    let d = c.args.datum.now in
    let n = value_of c.args.consts.now in
    let r = c.args.r in
    let one : 1 ≡ c.args.k = let e = c.if-k-ne1.false in omega (arith, e) in
    let begun = subst (λ k. IsPartial d n r k c.args.matrix.now (coroot_place d c.args.i) 0) (sym one) c.requires.partly in
    let h = c.requires.index.0 in
    on_ok c.set.result c.set.ensures.ok c.set.ensures.fit (λ same fit.
    subst (λ k. IsPartial d n r k c.set.new.self (coroot_place d c.args.i + 1) 0) one
    (set_one d n r 1 c.args.matrix.now c.set.new.self c.place_in_basis.result (c.m.result + c.args.i - 1) (basis_place d r) (coroot_place d c.args.i) (to_z w128 (of_z w128 c.negated_pairing.result))
    c.place_in_basis.ensures.value (let e = c.m.ensures.value in omega (arith, e, h)) same fit begun
    (coroot_within d c.args.i c.requires.index) (root_within d r c.requires.number)
    (coroot_divided d c.loaded.ensures n r c.requires.number c.args.i c.requires.index (to_z w128 (of_z w128 c.negated_pairing.result)) (plain c.negated_pairing.result 200 c.negated_pairing.ensures.bound (lit< tt) ∙ c.negated_pairing.ensures.value))
    (coroot_zero d c.loaded.ensures n r c.requires.number c.args.i c.requires.index)))
