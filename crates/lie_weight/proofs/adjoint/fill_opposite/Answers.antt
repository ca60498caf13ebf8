-- The column of e_(-r) has -1 in the row of e_r in the second power, and is 0 in the third.
use Rattle.std.proofs.Common.{◌≡◌, ◌+◌, negsuc, neg_ℤ, sym, ap, subst, ◌∙◌, arith}
use Rattle.lie_const.specs.ConstantTables.{value_of}
use Rattle.lie_const.specs.Adjoint.{basis_place}
use Rattle.lie_const.proofs.SumLemmas.{neg_number}
use Rattle.lie_weight.specs.AdjointParts.{IsPartial}
use Rattle.lie_weight.proofs.BasisLemmas.{root_within}
use Rattle.lie_weight.proofs.SpecialColumns.{opposite_column}
use Rattle.lie_weight.proofs.Partials.{none_written}
use Rattle.lie_weight.proofs.Fills.{on_ok, set_one, second_divided, second_zero}
use Rattle.lie_weight.proofs.adjoint.fill_opposite.Goals as goal

pub returns-then-k-eq2 : goal.returns-then-k-eq2
returns-then-k-eq2 c =
    let d = c.args.datum.now in
    let n = value_of c.args.consts.now in
    let r = c.args.r in
    let col = basis_place d (neg_ℤ r) in
    let two : 2 ≡ c.args.k = let e = c.if-k-eq2.true in omega (arith, e) in
    let begun = subst (λ k. IsPartial d n r k c.args.matrix.now col 0) (sym two) c.requires.partly in
    let loaded = c.loaded.ensures in
    on_ok c.set.result c.set.ensures.ok c.set.ensures.fit (λ same fit.
    subst (λ k. IsPartial d n r k c.set.new.self (col + 1) 0) two
    (set_one d n r 2 c.args.matrix.now c.set.new.self c.place_in_basis.result c.place_in_basis-col.result (basis_place d r) col (negsuc 0)
    c.place_in_basis.ensures.value (c.place_in_basis-col.ensures.value ∙ ap (basis_place d) c.opposite.ensures) same fit begun (root_within d (neg_ℤ r) (neg_number d loaded r c.requires.number)) (root_within d r c.requires.number)
    (second_divided d loaded n r c.requires.number) (second_zero d loaded n r c.requires.number)))

pub returns : goal.returns
returns c =
    let d = c.args.datum.now in
    let n = value_of c.args.consts.now in
    let a = c.requires.first in
    let b = c.if-k-eq1.false in
    let e = c.if-k-eq2.false in
    none_written d n c.args.r c.args.k c.args.matrix.now (basis_place d (neg_ℤ c.args.r)) c.requires.partly
    (λ j l. opposite_column d c.loaded.ensures n c.args.r c.requires.number c.args.k j (omega (arith, a, b, e)) l)
