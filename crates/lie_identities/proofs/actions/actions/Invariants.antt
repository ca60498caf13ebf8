use Rattle.std.proofs.Common.{◌≡◌, map, take}
use Rattle.std.specs.List.{All}
use Rattle.lie_identities.specs.Actions.{factor_of, HasPowersFor}
use Rattle.lie_identities.proofs.actions.actions.Given as goal

abbrev pub invariant-loop-factor : goal.invariant-loop-factor
invariant-loop-factor l = record {
  same : map factor_of l.actions.items ≡ take l.factor-index l.factors;
  powers : All (HasPowersFor l.steps.module.now) l.actions.items;
}
