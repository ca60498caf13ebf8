use Rattle.std.proofs.Common.{◌≡◌, ◌^◌, ◌<◌}
use Rattle.lie_identities.specs.Sizes.{partial_size}
use Rattle.lie_identities.proofs.sizes.size_entry.Given as goal

abbrev pub invariant-loop-k : goal.invariant-loop-k
invariant-loop-k l = (l.sum ≡ partial_size l.steps.module.now l.r l.size l.row l.col l.k) × (l.sum < 2 ^ 126)
