use Rattle.std.proofs.Common.{◌≡◌, ◌≤◌, length, map}
use Rattle.lie_datum.specs.RootList.{IsPositiveList}
use Rattle.lie_datum.specs.Listing.{ranked_root}
use Rattle.lie_datum.proofs.ListingLemmas.{positive_list, finite_closure, small_closure, ok_map}
use Rattle.lie_datum.proofs.ListedLemmas.{listed_few}
use Rattle.lie_datum.proofs.listing.positive_roots.Goals as goal

pub pick_positive-requires : goal.pick_positive-requires
pick_positive-requires c = small_closure c.args.base.now c.args.roots.now c.requires.roots

pub returns-clause-listed : goal.returns-clause-listed
returns-clause-listed c =
    let b = c.args.base.now in
    ok_map (λ l. l.items ≡ map ranked_root c.deref.result.now) (λ l. IsPositiveList b l.items)
    (λ l e. positive_list b c.args.roots.now c.in_ok-list.list.items c.sort.new.self.items c.deref.result.now l.items c.requires.roots
    c.in_ok-list.ensures.picked c.in_ok-list.ensures.ranks c.in_ok-sort.ensures.permutation c.in_ok-sort.ensures.sorted c.deref.ensures.value e)
    c.without_heights.result c.without_heights.ensures

pub returns-clause-bound : goal.returns-clause-bound
returns-clause-bound c =
    let b = c.args.base.now in
    ok_map (λ l. l.items ≡ map ranked_root c.deref.result.now) (λ l. length l.items ≤ 120)
    (λ l e. listed_few b c.requires.cartan c.requires.unmixed l.items
    (positive_list b c.args.roots.now c.in_ok-list.list.items c.sort.new.self.items c.deref.result.now l.items c.requires.roots
    c.in_ok-list.ensures.picked c.in_ok-list.ensures.ranks c.in_ok-sort.ensures.permutation c.in_ok-sort.ensures.sorted c.deref.ensures.value e)
    (finite_closure b c.args.roots.now c.requires.roots))
    c.without_heights.result c.without_heights.ensures
