-- One entry more.
use Rattle.std.proofs.Common.{ap, ◌++◌, ◌∷◌, [], ◌∙◌, lit<}
use Rattle.lie_ring.specs.Integers.{integers}
use Rattle.lie_const.specs.Modules.{root_element_entry}
use Rattle.lie_datum.proofs.VectorLemmas.{plain}
use Rattle.lie_audit.specs.SignParts.{unit}
use Rattle.lie_audit.proofs.ListLemmas.{lists-push}
use Rattle.lie_audit.proofs.entries.element_column.Goals as goal

pub loop-row-preserved : goal.loop-row-preserved
loop-row-preserved c =
    let x = c.element_entry.result in
    lists-push c.loop-row.row (λ i. root_element_entry integers c.args.adjoint.now c.args.r (unit c.args.minus) i c.args.col) 601 c.loop-row.column.items c.push.new.self.items x
    c.loop-row.invariant c.element_entry.ensures.value c.element_entry.ensures.bound (c.in_ok-push.ensures.items ∙ ap (λ z. c.loop-row.column.items ++ z ∷ []) (plain x 601 c.element_entry.ensures.bound (lit< tt)))
