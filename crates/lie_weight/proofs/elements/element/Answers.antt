use Rattle.std.proofs.Common.{◌≡◌, ap, ◌∙◌, lit<}
use mir.Val.{to_z, of_z}
use mir.Syntax.{w128}
use Rattle.lie_ring.specs.Integers.{integers}
use Rattle.lie_ring.specs.Matrices.{table}
use Rattle.lie_datum.proofs.ListingLemmas.{ok_map}
use Rattle.lie_datum.proofs.VectorLemmas.{plain}
use Rattle.lie_const.specs.Modules.{root_element, root_element_entry}
use Rattle.lie_weight.proofs.ElementLemmas.{element_table}
use Rattle.lie_weight.proofs.elements.element.Goals as goal

pub returns-clause-value : goal.returns-clause-value
returns-clause-value c =
    let v = c.args.space.now in
    let r = c.args.root in
    ok_map (λ m. m ≡ table c.dim-size.result c.dim-size.result (root_element_entry integers v r (to_z w128 (of_z w128 c.args.factor)))) (λ m. m ≡ root_element integers v r c.args.factor)
    (λ m e. e ∙ ap (λ n. table n n (root_element_entry integers v r (to_z w128 (of_z w128 c.args.factor)))) c.dim-size.ensures.value ∙ element_table v r (to_z w128 (of_z w128 c.args.factor)) ∙ ap (root_element integers v r) (plain c.args.factor 1 c.requires.unit (lit< tt)))
    c.built.result c.built.ensures.value
