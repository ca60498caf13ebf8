use Rattle.std.proofs.Common.{◌≡◌, length, map, subst, sym, ap, ◌∙◌}
use Rattle.std.specs.List.{All}
use Rattle.lie_orbit.specs.Orbits.{IsOrbit, IsNear}
use Rattle.lie_orbit.specs.Growth.{first_weight}
use Rattle.lie_orbit.specs.Levels.{leveled_weight}
use Rattle.lie_datum.proofs.ListingLemmas.{ok_map}
use Rattle.lie_orbit.proofs.OrderLemmas.{sorted_orbit, sorted_count, sorted_near}
use Rattle.lie_orbit.proofs.levels.in_order.Goals as goal

pub returns-clause-orbit : goal.returns-clause-orbit
returns-clause-orbit c =
    let d = c.args.datum.now in
    let ws = c.args.orbit.now in
    ok_map (λ l. l.items ≡ map leveled_weight c.deref.result.now) (λ l. IsOrbit d (first_weight ws) l.items)
    (λ l e. subst (IsOrbit d (first_weight ws)) (sym (e ∙ ap (map leveled_weight) c.deref.ensures.value))
    (sorted_orbit d c.loaded.ensures ws c.requires.growing c.in_ok-list.list.items c.sort.new.self.items c.in_ok-list.ensures.weights c.in_ok-sort.ensures.permutation c.requires.whole c.in_ok-list.ensures.levels c.in_ok-sort.ensures.sorted))
    c.without_levels.result c.without_levels.ensures

pub returns-clause-count : goal.returns-clause-count
returns-clause-count c =
    let d = c.args.datum.now in
    let ws = c.args.orbit.now in
    ok_map (λ l. l.items ≡ map leveled_weight c.deref.result.now) (λ l. length l.items ≡ length ws)
    (λ l e. ap length (e ∙ ap (map leveled_weight) c.deref.ensures.value)
    ∙ sorted_count d c.loaded.ensures ws c.requires.growing c.in_ok-list.list.items c.sort.new.self.items c.in_ok-list.ensures.weights c.in_ok-sort.ensures.permutation)
    c.without_levels.result c.without_levels.ensures

pub returns-clause-near : goal.returns-clause-near
returns-clause-near c =
    let d = c.args.datum.now in
    let ws = c.args.orbit.now in
    ok_map (λ l. l.items ≡ map leveled_weight c.deref.result.now) (λ l. All (IsNear (first_weight ws) 102400) l.items)
    (λ l e. subst (All (IsNear (first_weight ws) 102400)) (sym (e ∙ ap (map leveled_weight) c.deref.ensures.value))
    (sorted_near d c.loaded.ensures ws c.requires.growing c.in_ok-list.list.items c.sort.new.self.items c.in_ok-list.ensures.weights c.in_ok-sort.ensures.permutation))
    c.without_levels.result c.without_levels.ensures
