use Rattle.std.proofs.Common.{◌≡◌, IfOk, refl, sym, ap, subst, ◌∙◌}
use Rattle.lie_ring.specs.Matrices.{entry}
use Rattle.lie_ring.specs.RingLemmas.{zero_add}
use Rattle.lie_poly.specs.Polynomials.{laurent, plus}
use Rattle.lie_poly.specs.LaurentLaws.{laurent_ring}
use Rattle.lie_identities.proofs.additions.raised.Goals as goal

pub returns-in-None-clause-value : goal.returns-in-None-clause-value
returns-in-None-clause-value c =
    let value = c.args.value.now in
    let none : entry laurent.zero c.args.column.now c.args.row 0 ≡ laurent.zero = c.in-None.ensures.none.0 refl in
    subst (λ x. IfOk c.copied.result (λ p. p ≡ x)) (sym (ap (λ x. plus x value) none ∙ zero_add laurent laurent_ring.laws value refl)) c.copied.ensures.value
