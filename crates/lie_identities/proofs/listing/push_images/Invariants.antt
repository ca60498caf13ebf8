use Rattle.std.proofs.Common.{◌≡◌, ◌++◌, map, length}
use Rattle.std.specs.List.{range_with_len}
use Rattle.lie_datum.specs.Numbers.{number_at}
use Rattle.lie_identities.specs.declared.relations.Rel.TheVariants.{S7}
use Rattle.lie_identities.proofs.listing.push_images.Given as goal

abbrev pub invariant-loop-place : goal.invariant-loop-place
invariant-loop-place l = l.list.items ≡ l.fn.list.items ++ map (S7 l.i) (map (number_at (length l.datum.positive)) (range_with_len 0 l.place))
