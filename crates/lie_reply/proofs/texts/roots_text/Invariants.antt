use Rattle.std.proofs.Common.{◌≡◌, ◌≤◌, ◌+◌, ◌-◌, ◌++◌, drop, length}
use Rattle.lie_reply.specs.Texts.{root_texts, roots_text}
use Rattle.lie_reply.proofs.texts.roots_text.Given as goal

abbrev pub invariant-roots : goal.invariant-roots
invariant-roots l = (l.k ≤ length l.datum.positive) × (l.out.items ++ root_texts l.datum.base (l.k + 1) (drop l.k l.datum.positive) ≡ roots_text l.datum)

abbrev pub decreases-roots : goal.decreases-roots
decreases-roots l = length l.datum.positive - l.k
