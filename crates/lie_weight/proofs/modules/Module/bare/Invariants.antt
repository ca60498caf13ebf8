use Rattle.std.proofs.Common.{◌≡◌, [], map, replicate}
use Rattle.lie_weight.proofs.modules.Module.bare.Given as goal

abbrev pub invariant-loop : goal.invariant-loop
invariant-loop l = map (λ v. v.items) l.powers.items ≡ replicate l.counter []
