use Rattle.std.proofs.Common.{ap₂, ◌∙◌}
use Rattle.lie_ring.specs.Matrices.{with_entry}
use Rattle.lie_poly.specs.Polynomials.{laurent}
use Rattle.lie_identities.proofs.ColumnLemmas.{unit-written}
use Rattle.lie_identities.proofs.columns.unit_column.Goals as goal

pub returns : goal.returns
returns c =
    c.in_ok-set.ensures.ok
    ∙ ap₂ (λ M e. with_entry laurent.zero M c.args.col 0 e) c.in_ok-column.ensures.value c.in_ok-one.ensures.value
    ∙ unit-written c.args.dim c.args.col
