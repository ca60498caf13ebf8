use Rattle.std.proofs.Common.{◌≡◌, ◌≤◌, pos, nat_abs, sym, subst, ◌∙◌, arith}
use Rattle.std.specs.Prelude.{IfOk}
use Rattle.std.proofs.lemmas.Int.{ints}
use mir.Syntax.{w32, w128}
use mir.Val.{to_z, of_z}
use Rattle.lie_datum.specs.RootDatum.{IsWithin}
use Rattle.lie_orbit.proofs.WeightLemmas.{covector_within}
use Rattle.lie_poly.specs.Polynomials.{monomial}
use Rattle.lie_identities.proofs.ActionLemmas.{coroot-exponent}
use Rattle.lie_identities.proofs.columns.coroot_power.Goals as goal

pub pairing-exponent-requires-clause-y : goal.pairing-exponent-requires-clause-y
pairing-exponent-requires-clause-y c =
    subst (IsWithin 80000) (sym c.coroot-coroot.ensures) (covector_within c.args.steps.now.datum.now c.loaded.ensures c.simple.result c.simple.ensures.number)

pub overflow_cast-exponent : goal.overflow_cast-exponent
overflow_cast-exponent c =
    let s = c.args.steps.now in
    let e = coroot-exponent s.datum.now c.loaded.ensures s.module.now c.args.i c.args.row c.simple.result c.weight.result.now c.coroot-coroot.result.now c.pairing-exponent.result c.requires.i c.pairing-exponent.ensures c.weight.ensures.value c.coroot-coroot.ensures c.simple.ensures.root in
    let h = s.pairings c.args.i c.args.row c.requires.row in
    let l : nat_abs c.pairing-exponent.result ≤ 800000000 = subst (λ z. nat_abs z ≤ 800000000) (sym e) h in
    omega (arith, ints, l)

pub narrow_monomial-requires-clause-t_small : goal.narrow_monomial-requires-clause-t_small
narrow_monomial-requires-clause-t_small c =
    let s = c.args.steps.now in
    let e = coroot-exponent s.datum.now c.loaded.ensures s.module.now c.args.i c.args.row c.simple.result c.weight.result.now c.coroot-coroot.result.now c.pairing-exponent.result c.requires.i c.pairing-exponent.ensures c.weight.ensures.value c.coroot-coroot.ensures c.simple.ensures.root in
    let h = s.pairings c.args.i c.args.row c.requires.row in
    let l : nat_abs c.pairing-exponent.result ≤ 800000000 = subst (λ z. nat_abs z ≤ 800000000) (sym e) h in
    omega (arith, ints, l)

pub returns-clause-value : goal.returns-clause-value
returns-clause-value c =
    let s = c.args.steps.now in
    let e = coroot-exponent s.datum.now c.loaded.ensures s.module.now c.args.i c.args.row c.simple.result c.weight.result.now c.coroot-coroot.result.now c.pairing-exponent.result c.requires.i c.pairing-exponent.ensures c.weight.ensures.value c.coroot-coroot.ensures c.simple.ensures.root in
    let h = s.pairings c.args.i c.args.row c.requires.row in
    let l : nat_abs c.pairing-exponent.result ≤ 800000000 = subst (λ z. nat_abs z ≤ 800000000) (sym e) h in
    let back : to_z w32 (of_z w32 (to_z w128 (of_z w128 c.pairing-exponent.result))) ≡ c.pairing-exponent.result = omega (arith, ints, l) in
    subst (λ z. IfOk c.narrow_monomial.result (λ p. p ≡ monomial (pos 1) z (pos 0))) (back ∙ e) c.narrow_monomial.ensures.value
