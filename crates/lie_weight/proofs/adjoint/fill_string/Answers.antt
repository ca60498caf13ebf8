-- The column of e_s has the term (k, 1) of r and s, where there is one.
use Rattle.std.proofs.Common.{◌≡◌, ◌<◌, ◌≤◌, unsigned_abs, refl, sym, subst, arith, lit<}
use mir.Val.{to_z, of_z}
use mir.Syntax.{w128}
use Rattle.lie_datum.proofs.VectorLemmas.{plain}
use Rattle.lie_const.specs.CommutatorTerms.{AreTerms}
use Rattle.lie_const.specs.ConstantTables.{value_of}
use Rattle.lie_const.specs.Adjoint.{basis_place}
use Rattle.lie_weight.proofs.BasisLemmas.{root_within}
use Rattle.lie_weight.proofs.Partials.{none_written}
use Rattle.lie_weight.proofs.Fills.{on_ok, set_one, found, found_small, found_divided, found_zero, not_found}
use Rattle.lie_weight.proofs.adjoint.fill_string.Goals as goal

pub place_in_basis-requires : goal.place_in_basis-requires
place_in_basis-requires c =
    let d = c.args.datum.now in
    let n = value_of c.args.consts.now in
    let terms = subst (AreTerms d n c.args.r c.args.s) (sym c.c.ensures) (c.requires.consts.2 c.args.r c.args.s c.requires.pair) in
    (found d c.loaded.ensures n c.requires.consts.1 c.args.r c.args.s c.requires.pair c.c.result.now terms c.args.k c.requires.first c.requires.last c.in-Some.t c.in-Some.ensures).number

-- the value is small, and stands as it is in 128 bits
value : (c : goal.After-struct_told-1) → (to_z w128 (of_z w128 c.in-Some.t.value) ≡ c.in-Some.t.value) × (unsigned_abs c.in-Some.t.value ≤ 64)
value c =
    let d = c.args.datum.now in
    let n = value_of c.args.consts.now in
    let terms = subst (AreTerms d n c.args.r c.args.s) (sym c.c.ensures) (c.requires.consts.2 c.args.r c.args.s c.requires.pair) in
    let small = found_small d c.loaded.ensures n c.requires.consts.1 c.args.r c.args.s c.requires.pair c.c.result.now terms c.args.k c.requires.first c.requires.last c.in-Some.t c.in-Some.ensures in
    (plain c.in-Some.t.value 64 small (lit< tt), small)

pub set-requires-clause-fits : goal.set-requires-clause-fits
set-requires-clause-fits c =
    let v = value c in
    let l = v.1 in
    (refl, subst (λ z. unsigned_abs z < 85070591730234615865843651857942052864) (sym v.0) (omega (arith, l)))

pub returns-in-Some : goal.returns-in-Some
returns-in-Some c =
    let d = c.args.datum.now in
    let n = value_of c.args.consts.now in
    let r = c.args.r in
    let s = c.args.s in
    let k = c.args.k in
    let t = c.in-Some.t in
    let ts = c.c.result.now in
    let pair = c.requires.pair in
    let first = c.requires.first in
    let last = c.requires.last in
    let here = c.in-Some.ensures in
    let loaded = c.loaded.ensures in
    let stands = c.requires.consts.1 in
    let terms = subst (AreTerms d n r s) (sym c.c.ensures) (c.requires.consts.2 r s pair) in
    let small = found_small d loaded n stands r s pair ts terms k first last t here in
    let number = (found d loaded n stands r s pair ts terms k first last t here).number in
    let e = to_z w128 (of_z w128 t.value) in
    on_ok c.set.result c.set.ensures.ok c.set.ensures.fit (λ same fit.
    set_one d n r k c.args.matrix.now c.set.new.self c.place_in_basis.result c.place_in_basis-in-Some.result (basis_place d t.root) (basis_place d s) e
    c.place_in_basis.ensures.value c.place_in_basis-in-Some.ensures.value same fit c.requires.partly (root_within d s pair.right) (root_within d t.root number)
    (found_divided d loaded n stands r s pair ts terms k first last t here e (plain t.value 64 small (lit< tt)))
    (found_zero d loaded n stands r s pair ts terms k first last t here))

pub returns-in-None : goal.returns-in-None
returns-in-None c =
    let d = c.args.datum.now in
    let n = value_of c.args.consts.now in
    let terms = subst (AreTerms d n c.args.r c.args.s) (sym c.c.ensures) (c.requires.consts.2 c.args.r c.args.s c.requires.pair) in
    none_written d n c.args.r c.args.k c.args.matrix.now (basis_place d c.args.s) c.requires.partly
    (not_found d c.loaded.ensures n c.requires.consts.1 c.args.r c.args.s c.requires.pair c.c.result.now terms c.args.k c.requires.first c.requires.last c.in-None.ensures)
