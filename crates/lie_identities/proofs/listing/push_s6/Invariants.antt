use Rattle.std.proofs.Common.{◌≡◌, ◌++◌, map}
use Rattle.std.specs.List.{range_with_len}
use Rattle.lie_identities.specs.declared.relations.Rel.TheVariants.{S6}
use Rattle.lie_identities.proofs.listing.push_s6.Given as goal

abbrev pub invariant-loop-i : goal.invariant-loop-i
invariant-loop-i l = l.list.items ≡ l.fn.list.items ++ map S6 (map (λ n. n) (range_with_len 1 l.i))
