use Rattle.std.proofs.Common.{List, IfOk, subst, ◌∙◌}
use Rattle.std.specs.Ordering.{int_eq}
use Rattle.indexmap.specs.IndexMap.{get}
use lib.Pointwise.{pointwise}
use Rattle.lie_datum.specs.Vectors.{Vector}
use Rattle.lie_datum.specs.Grids.{IsIndexed}
use Rattle.lie_datum.proofs.tables.by_coefficients.Goals as goal

pub returns : goal.returns
returns c =
    subst (λ (vs : List Vector). IfOk c.numbers.result (λ names. (v : Vector) → IsIndexed c.args.positive vs v (get (pointwise int_eq) names v)))
    (c.deref.ensures.value ∙ c.in_ok-coefficients.ensures) c.numbers.ensures
