use Rattle.std.proofs.Common.{◌≡◌, ◌++◌, map, length, ltb, not, ◌&&◌, neg_ℤ}
use Rattle.std.specs.List.{filter, range_with_len}
use Rattle.std.specs.Ordering.{int_eq}
use Rattle.lie_datum.specs.Numbers.{place, number_at}
use Rattle.lie_identities.specs.declared.relations.Rel.TheVariants.{S2}
use Rattle.lie_identities.proofs.listing.push_partners.Given as goal

abbrev pub invariant-loop-place : goal.invariant-loop-place
invariant-loop-place l =
    let m = length l.datum.positive in
    l.list.items ≡ l.fn.list.items ++ map (S2 l.r) (filter (λ s. ltb (place m l.r) (place m s) && not (int_eq s (neg_ℤ l.r))) (map (number_at m) (range_with_len 0 l.place)))
