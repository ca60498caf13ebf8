use Rattle.std.proofs.Common.{ℕ, ◌<◌, pos}
use Rattle.std.specs.Prelude.{◌≤ℤ◌}
use Rattle.lie_ring.specs.Rings.{sum_below}
use Rattle.lie_ring.specs.Integers.{integers}
use Rattle.lie_ring.specs.Matrices.{entry}
use Rattle.lie_const.specs.Modules.{dimension}
use Rattle.lie_identities.specs.AuditRelations.{size_element}
use Rattle.lie_identities.proofs.bounds.root_bound.Given as goal

abbrev pub invariant-loop-col : goal.invariant-loop-col
invariant-loop-col l =
    let v = l.steps.module.now in
    (j : ℕ) → j < l.col → sum_below integers (dimension v) (λ i. entry (pos 0) (size_element v l.fn.r l.size) i j) ≤ℤ pos l.greatest
