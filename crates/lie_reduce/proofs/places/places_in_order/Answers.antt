use Rattle.std.proofs.Common.{◌≡◌, map, subst, sym, ap, ◌∙◌}
use Rattle.lie_datum.proofs.ListingLemmas.{ok_map}
use Rattle.lie_reduce.specs.Places.{AreInOrder, placed_number}
use Rattle.lie_reduce.proofs.PlaceOrder.{in_order}
use Rattle.lie_reduce.proofs.places.places_in_order.Goals as goal

pub returns : goal.returns
returns c =
    let d = c.args.datum.now in
    let v = c.args.space.now in
    ok_map (λ l. l.items ≡ map placed_number c.deref.result.now) (λ l. AreInOrder d v l.items)
    (λ l e. subst (AreInOrder d v) (sym (e ∙ ap (map placed_number) c.deref.ensures.value))
    (in_order d v c.in_ok-list.list.items c.sort.new.self.items c.in_ok-list.ensures c.in_ok-sort.ensures.permutation c.in_ok-sort.ensures.sorted))
    c.without_levels.result c.without_levels.ensures
