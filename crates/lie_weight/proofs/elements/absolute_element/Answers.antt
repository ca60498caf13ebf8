use Rattle.std.proofs.Common.{◌≡◌, ap, ◌∙◌}
use Rattle.lie_ring.specs.Matrices.{table}
use Rattle.lie_datum.proofs.ListingLemmas.{ok_map}
use Rattle.lie_weight.specs.Conjugation.{absolute_element}
use Rattle.lie_weight.specs.Factors.{absolute_entry}
use Rattle.lie_weight.proofs.ElementLemmas.{absolute_table}
use Rattle.lie_weight.proofs.elements.absolute_element.Goals as goal

pub returns-clause-value : goal.returns-clause-value
returns-clause-value c =
    let v = c.args.space.now in
    let r = c.args.root in
    ok_map (λ m. m ≡ table c.dim-size.result c.dim-size.result (absolute_entry v r)) (λ m. m ≡ absolute_element v r)
    (λ m e. e ∙ ap (λ n. table n n (absolute_entry v r)) c.dim-size.ensures.value ∙ absolute_table v r)
    c.built.result c.built.ensures.value
