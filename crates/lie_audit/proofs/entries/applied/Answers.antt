-- One row more.
use Rattle.std.proofs.Common.{ap, ◌++◌, ◌∷◌, [], ◌∙◌, lit<}
use Rattle.lie_datum.proofs.VectorLemmas.{plain}
use Rattle.lie_audit.specs.SignParts.{unit, row_value}
use Rattle.lie_audit.proofs.ListLemmas.{lists-push}
use Rattle.lie_audit.proofs.entries.applied.Goals as goal

pub loop-row-preserved : goal.loop-row-preserved
loop-row-preserved c =
    let x = c.row_product.result in
    let small = c.row_product.ensures.bound c.requires.within in
    lists-push c.loop-row.row (λ i. row_value c.args.adjoint.now c.args.r (unit c.args.minus) i c.args.column.now) 100000000 c.loop-row.image.items c.push.new.self.items x
    c.loop-row.invariant c.row_product.ensures.value small (c.in_ok-push.ensures.items ∙ ap (λ z. c.loop-row.image.items ++ z ∷ []) (plain x 100000000 small (lit< tt)))
