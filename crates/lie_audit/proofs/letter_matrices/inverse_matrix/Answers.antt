use Rattle.std.proofs.Common.{◌≡◌, ◌∙◌, ap, subst, IfOk}
use Rattle.lie_field.specs.Quotient.{neg}
use Rattle.lie_audit.proofs.WordMatrixLemmas.{inverse-three}
use Rattle.lie_audit.proofs.letter_matrices.inverse_matrix.Goals as goal

pub returns : goal.returns
returns c =
    let f = c.args.field.now in
    subst (λ M. IfOk c.conjugated.result (λ m. m ≡ M))
    (inverse-three f c.args.space.now c.simple.result c.args.i c.neg.result c.in_ok-one.one c.simple.ensures.value (c.neg.ensures.value ∙ ap (neg f.given) c.in_ok-one.ensures.value) (c.in_ok-one.ensures.value))
    c.conjugated.ensures
