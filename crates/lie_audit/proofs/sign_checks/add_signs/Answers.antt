-- The next root stands at the next place.
use Rattle.std.proofs.Common.{◌≡◌, ◌+◌, ◌*◌, sym, subst, length, arith}
use Rattle.lie_audit.specs.SignParts.{AreTested}
use Rattle.lie_audit.proofs.TestLemmas.{place_at, row_tested}
use Rattle.lie_audit.proofs.sign_checks.add_signs.Goals as goal

pub add_sign-requires-clause-tested : goal.add_sign-requires-clause-tested
add_sign-requires-clause-tested c =
    let d = c.args.datum.now in
    let m = c.m-m in
    let at = place_at d c.loop-place.place m.result c.at.result m.ensures.value c.loop-place-test.true c.at.ensures in
    subst (AreTested d c.args.adjoint.now c.loop-place.table.items c.args.i) (sym at) c.loop-place.invariant

pub loop-place-preserved : goal.loop-place-preserved
loop-place-preserved c =
    let d = c.args.datum.now in
    let m = c.m-m in
    let at = place_at d c.loop-place.place m.result c.at.result m.ensures.value c.loop-place-test.true c.at.ensures in
    subst (λ h. AreTested d c.args.adjoint.now c.add_sign.new.table.items c.args.i (h + 1)) at c.in_ok-add_sign.ensures.ok

pub returns-clause-ok : goal.returns-clause-ok
returns-clause-ok c =
    let d = c.args.datum.now in
    let e = c.m-m.ensures.value in
    let l = c.loop-place-test.false in
    let k = c.loop-place.auto.place-end in
    let all : c.loop-place.place ≡ 2 * length d.positive = omega (arith, e, l, k) in
    row_tested d c.args.adjoint.now c.loop-place.table.items c.args.i c.requires.index.0 (subst (AreTested d c.args.adjoint.now c.loop-place.table.items c.args.i) all c.loop-place.invariant)
