use Rattle.std.proofs.Common.{◌≡◌, ◌++◌, map, length}
use Rattle.std.specs.List.{flat_map, range_with_len}
use Rattle.lie_datum.specs.Numbers.{number_at}
use Rattle.lie_identities.specs.declared.relations.Rel.TheVariants.{S2}
use Rattle.lie_identities.specs.AuditRelations.{partners}
use Rattle.lie_identities.proofs.listing.push_s2.Given as goal

abbrev pub invariant-loop-place : goal.invariant-loop-place
invariant-loop-place l = l.list.items ≡ l.fn.list.items ++ flat_map (λ r. map (S2 r) (partners l.datum r)) (map (number_at (length l.datum.positive)) (range_with_len 0 l.place))
