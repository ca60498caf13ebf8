-- What is made of one orbit more.
use Rattle.std.proofs.Common.{◌≡◌, ◌+◌, ◌<◌, List, [], ◌∷◌, ◌++◌, map, length, get_or, take, Some, sym, ap, subst, ◌∙◌, arith}
use Rattle.std.proofs.Math.ListN.{length-map}
use Rattle.std.proofs.lemmas.List.{take_more}
use Rattle.lie_datum.specs.Vectors.{Vector}
use Rattle.lie_const.specs.Modules.{Module}
use Rattle.lie_const.specs.Signs.{eta_of}
use Rattle.lie_weight.specs.Along.{AreSteppable}
use Rattle.lie_weight.specs.CarrierParts.{IsMadeOf}
use Rattle.lie_weight.proofs.ListingTests.{item-list}
use Rattle.lie_weight.proofs.CarrierLemmas.{made_more, huge_more, huge_is}
use Rattle.lie_weight.proofs.carrier.add_module.Goals as goal
use Rattle.lie_weight.proofs.carrier.add_module.Goals.{In_ok-weights}

within_is : (c : In_ok-weights) → c.args.at < length (map (λ o. o.items) c.args.orbits.now)
within_is c = let l = c.requires.at in let n = length-map c.args.orbits.now (λ o. o.items) in omega (arith, l, n)

orbit_is : (c : In_ok-weights) → get_or (map (λ o. o.items) c.args.orbits.now) c.args.at [] ≡ c.in_ok-weights.weights.items
orbit_is c = item-list (λ o. o.items) c.args.orbits.now c.args.at c.index-orbits-at.result c.requires.at c.index-orbits-at.is ∙ sym (c.in_ok-weights.ensures.items ∙ c.deref.ensures.value)

more_is : (c : In_ok-weights) → take (c.args.at + 1) (map (λ o. o.items) c.args.orbits.now) ≡ take c.args.at (map (λ o. o.items) c.args.orbits.now) ++ c.in_ok-weights.weights.items ∷ []
more_is c =
    let os = map (λ o. o.items) c.args.orbits.now in
    take_more os c.args.at [] (within_is c) ∙ ap (λ (o : List Vector). take c.args.at os ++ o ∷ []) (orbit_is c)

pub along-requires-clause-weights : goal.along-requires-clause-weights
along-requires-clause-weights c =
    let a = (goal.at.along-requires-clause-weights c).In_ok-weights in
    subst AreSteppable (orbit_is a) (c.requires.orbits c.args.at [] (within_is a))

pub returns-in_ok-push-in-Ok : goal.returns-in_ok-push-in-Ok
returns-in_ok-push-in-Ok c =
    let a = (goal.at.returns-in_ok-push-in-Ok c).In_ok-weights in
    let d = c.args.datum.now in
    let eta = eta_of c.args.signs.now in
    let os = map (λ o. o.items) c.args.orbits.now in
    subst (λ (t : List (List Vector)). IsMadeOf d eta t c.push.new.self.items c.args.first.now) (sym (more_is a))
    (subst (λ (t : List Module). IsMadeOf d eta (take c.args.at os ++ c.in_ok-weights.weights.items ∷ []) t c.args.first.now) (sym c.in_ok-push-in-Ok.ensures.items)
    (made_more d c.loaded.ensures eta (take c.args.at os) c.in_ok-weights.weights.items c.in-Ok.space c.args.modules.now.items c.args.first.now c.requires.made c.in-Ok.ensures.made))

pub returns-in-Some : goal.returns-in-Some
returns-in-Some c =
    let a = (goal.at.returns-in-Some c).In_ok-weights in
    let d = c.args.datum.now in
    let eta = eta_of c.args.signs.now in
    let os = map (λ o. o.items) c.args.orbits.now in
    subst (λ (t : List (List Vector)). IsMadeOf d eta t c.args.modules.now.items (Some c.earlier.result)) (sym (more_is a))
    (huge_more d c.loaded.ensures eta (take c.args.at os) c.in_ok-weights.weights.items c.in-Some.place.0 c.in-Some.place.1 c.args.modules.now.items c.args.first.now c.earlier.result c.requires.made
    (huge_is d eta c.in_ok-weights.weights.items c.in-Err.fault c.in-Some.place c.in-Err.ensures.fault c.in-Some.ensures) c.earlier.ensures)
