use Rattle.std.proofs.Common.{◌≤◌, ◌-◌}
use Rattle.lie_const.specs.Modules.{dimension}
use Rattle.lie_identities.specs.Moves.{base_of, AddsRows}
use Rattle.lie_identities.proofs.additions.additions.Given as goal

abbrev pub invariant-loop-row : goal.invariant-loop-row
invariant-loop-row l = record {
  low : l.from ≤ dimension l.steps.module.now;
  adds : AddsRows l.steps.module.now l.r (base_of l.powers) l.column l.from l.additions.items;
}

abbrev pub decreases-loop-row : goal.decreases-loop-row
decreases-loop-row l = dimension l.steps.module.now - l.from
