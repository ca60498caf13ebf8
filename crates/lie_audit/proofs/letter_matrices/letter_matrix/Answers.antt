use Rattle.std.proofs.Common.{sym, subst, arith}
use Rattle.lie_datum.specs.RootDatum.{IsSimpleIndex}
use Rattle.lie_datum.proofs.NumberLemmas.{place_within}
use Rattle.lie_audit.proofs.WordMatrixLemmas.{for-X, for-H, for-N, for-Ninv}
use Rattle.lie_audit.proofs.letter_matrices.letter_matrix.Goals as goal

pub root_matrix-requires-clause-r : goal.root_matrix-requires-clause-r
root_matrix-requires-clause-r c =
    let d = c.args.datum.now in
    let within = (place_within d c.in-X.r (for-X c.args.field.now d c.args.letter.now c.requires.letter c.in-X.r c.in-X.a c.in-X.is).0).1 in
    let same = c.requires.space.positive in
    omega (arith, within, same)

pub root_matrix-requires-clause-a : goal.root_matrix-requires-clause-a
root_matrix-requires-clause-a c = (for-X c.args.field.now c.args.datum.now c.args.letter.now c.requires.letter c.in-X.r c.in-X.a c.in-X.is).1

pub torus_matrix-requires : goal.torus_matrix-requires
torus_matrix-requires c = for-H c.args.field.now c.args.datum.now c.args.letter.now c.requires.letter c.in-H.t c.in-H.is

pub weyl_matrix-requires-clause-index : goal.weyl_matrix-requires-clause-index
weyl_matrix-requires-clause-index c = subst (IsSimpleIndex c.args.datum.now.base) (sym c.from.ensures) (for-N c.args.field.now c.args.datum.now c.args.letter.now c.requires.letter c.in-N.i c.in-N.is)

pub inverse_matrix-requires-clause-index : goal.inverse_matrix-requires-clause-index
inverse_matrix-requires-clause-index c = subst (IsSimpleIndex c.args.datum.now.base) (sym c.from-in-Ninv.ensures) (for-Ninv c.args.field.now c.args.datum.now c.args.letter.now c.requires.letter c.in-Ninv.i c.in-Ninv.is)
