use Rattle.std.proofs.Common.{◌≡◌, ◌++◌, map}
use Rattle.std.specs.List.{flat_map, range_with_len}
use Rattle.lie_identities.specs.declared.relations.Rel.TheVariants.{S7}
use Rattle.lie_identities.specs.AuditRelations.{root_numbers}
use Rattle.lie_identities.proofs.listing.push_s7.Given as goal

abbrev pub invariant-loop-i : goal.invariant-loop-i
invariant-loop-i l = l.list.items ≡ l.fn.list.items ++ flat_map (λ i. map (S7 i) (root_numbers l.datum)) (map (λ n. n) (range_with_len 1 l.i))
