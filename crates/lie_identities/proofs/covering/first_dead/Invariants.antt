use Rattle.std.proofs.Common.{ℕ, ◌+◌, ◌<◌, ◌≤◌, pos}
use Rattle.lie_identities.specs.Covers.{IsLiveAt}
use Rattle.lie_identities.proofs.covering.first_dead.Given as goal

abbrev pub invariant-loop-place : goal.invariant-loop-place
invariant-loop-place l = (k : ℕ) → 1 ≤ k → k < l.place + 1 → IsLiveAt l.field l.space (pos k)
