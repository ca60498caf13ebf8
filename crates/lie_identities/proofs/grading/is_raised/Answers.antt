use Rattle.std.proofs.Common.{◌≡◌, ℤ, pos, sym, ap, ◌∙◌}
use Rattle.lie_datum.specs.Vectors.{plus, times}
use Rattle.lie_const.specs.StructureConstants.{same_vector}
use Rattle.lie_weight.proofs.VectorEquality.{same_test, same_vector_is, same_vector_itself}
use Rattle.lie_identities.proofs.GradingLemmas.{read-negative}
use Rattle.lie_identities.proofs.grading.is_raised.Goals as goal

pub returns : goal.returns
returns c =
    let row = c.args.row.now in
    let col = c.args.col.now in
    let root = c.args.root.now in
    let made = c.less_multiple.result in
    let test : c.eq.result ≡ same_vector row made = c.eq.ensures ∙ same_test row made in
    let image : made ≡ plus col (times (pos c.args.k) root) = c.less_multiple.ensures ∙ ap (λ (n : ℤ). plus col (times n root)) (read-negative c.args.k c.from.result c.ranges.k.fits c.from.ensures) in
    (λ t. same_vector_is row made (sym test ∙ t) ∙ image, λ e. test ∙ ap (same_vector row) (image ∙ sym e) ∙ same_vector_itself row)
