-- All signs are tested at the end.
use Rattle.std.proofs.Common.{◌≡◌, ◌+◌, sym, subst, arith}
use Rattle.lie_datum.specs.RootDatum.{rank}
use Rattle.lie_weight.proofs.SmallLemmas.{adjoint_dim}
use Rattle.lie_audit.specs.SignAnswers.{AreTestedSigns}
use Rattle.lie_audit.specs.SignParts.{AreTested}
use Rattle.lie_audit.proofs.TestLemmas.{tested_list, all_tested}
use Rattle.lie_audit.proofs.sign_checks.signs.Goals as goal

pub add_signs-requires-clause-small : goal.add_signs-requires-clause-small
add_signs-requires-clause-small c = c.adjoint_is_small.ensures c.args.datum.now c.requires.0 c.args.adjoint.now c.loaded.ensures c.requires.1 c.requires.2

pub add_signs-requires-clause-dimension : goal.add_signs-requires-clause-dimension
add_signs-requires-clause-dimension c = adjoint_dim c.args.datum.now c.requires.0 c.args.adjoint.now c.loaded.ensures c.requires.1 c.requires.2

pub of-requires : goal.of-requires
of-requires c =
    let d = c.args.datum.now in
    let e = c.l-i-end.ensures in
    let a = c.loop-i.auto.i-end in
    let t = c.loop-i-test.false in
    let all : c.loop-i.i ≡ rank d.base + 1 = omega (arith, e, a, t) in
    tested_list d c.args.adjoint.now c.loop-i.table.items (subst (λ k. AreTested d c.args.adjoint.now c.loop-i.table.items k 0) all c.loop-i.invariant)

pub returns-clause-ok : goal.returns-clause-ok
returns-clause-ok c =
    let d = c.args.datum.now in
    let e = c.l-i-end.ensures in
    let a = c.loop-i.auto.i-end in
    let t = c.loop-i-test.false in
    let all : c.loop-i.i ≡ rank d.base + 1 = omega (arith, e, a, t) in
    subst (AreTestedSigns d c.args.adjoint.now) (sym c.of.ensures)
    (all_tested d c.args.adjoint.now c.loop-i.table.items (subst (λ k. AreTested d c.args.adjoint.now c.loop-i.table.items k 0) all c.loop-i.invariant))
