use Rattle.std.proofs.Common.{◌≡◌, length}
use Rattle.lie_identities.specs.Moves.{ArePowersOf}
use Rattle.lie_identities.proofs.actions.powers.Given as goal

abbrev pub invariant-loop-k : goal.invariant-loop-k
invariant-loop-k l = record {
  count : length l.powers.items ≡ l.k;
  powers : ArePowersOf l.f l.powers.items;
}
