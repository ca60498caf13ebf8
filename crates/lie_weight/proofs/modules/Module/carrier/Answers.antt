-- The carrier, or why there is none.
use Rattle.std.proofs.Common.{◌≡◌, ℕ, ◌+◌, ◌<◌, ◌≤◌, List, ◌∷◌, ◌++◌, map, length, sym, ap, subst, ◌∙◌}
use Rattle.std.proofs.lemmas.Result.{err_from_is_err_and}
use Rattle.std.specs.List.{All}
use Rattle.lie_datum.specs.Vectors.{Vector}
use Rattle.lie_const.specs.Modules.{Module}
use Rattle.lie_const.specs.Signs.{eta_of}
use Rattle.lie_weight.specs.OrbitFaults.{IsHeavyAt}
use Rattle.lie_weight.specs.Along.{AreSteppable}
use Rattle.lie_weight.specs.Sums.{IsDirectSum}
use Rattle.lie_weight.specs.Carriers.{joined}
use Rattle.lie_weight.specs.CarrierParts.{dimensions, AreMade, IsMakingFault}
use Rattle.lie_weight.proofs.CarrierLemmas.{adjoint_size, carrier_few, heavy_carrier, all_steppable, making_fault, all_few, carrier_loads}
use Rattle.lie_weight.proofs.modules.Module.carrier.Goals as goal
use Rattle.lie_weight.proofs.modules.Module.carrier.Goals.{In_ok-weights, After-deref-3, In_ok-modules}

pub carrier_orbits-requires-clause-adjoint : goal.carrier_orbits-requires-clause-adjoint
carrier_orbits-requires-clause-adjoint c = c.dim.ensures.value ∙ adjoint_size c.args.datum.now c.args.adjoint.now c.requires.adjoint

order_is : (c : In_ok-weights) → c.in_ok-weights.weights.items ≡ c.args.adjoint.now.weights ++ joined (map (λ o. o.items) c.in_ok-orbits.orbits.items)
order_is c = c.in_ok-weights.ensures ∙ ap (λ l. c.args.adjoint.now.weights ++ joined (map (λ o. o.items) l)) c.deref.ensures.value

few_is : (c : In_ok-weights) → length c.in_ok-weights.weights.items ≤ 1024
few_is c = carrier_few c.args.datum.now c.args.adjoint.now c.args.datum.now.base.dim (map (λ o. o.items) c.in_ok-orbits.orbits.items) c.in_ok-weights.weights.items c.requires.adjoint c.in_ok-orbits.ensures.orbits (order_is c)

light_is : (c : After-deref-3) → (a : ℕ) → ¬ IsHeavyAt c.in_ok-weights.weights.items a
light_is c = subst (λ (t : List Vector). (a : ℕ) → ¬ IsHeavyAt t a) c.deref-2.ensures.value c.in_default.ensures.here

made_is : (c : In_ok-modules) → AreMade c.args.datum.now (eta_of c.args.signs.now) (map (λ o. o.items) c.in_ok-orbits.orbits.items) c.in_ok-modules.modules.items
made_is c = subst (λ l. AreMade c.args.datum.now (eta_of c.args.signs.now) (map (λ o. o.items) l) c.in_ok-modules.modules.items) c.deref-3.ensures.value c.in_ok-modules.ensures.made

pub returns-in-Some : goal.returns-in-Some
returns-in-Some c =
    let a = (goal.at.returns-in-Some c).In_ok-weights in
    heavy_carrier c.args.datum.now c.loaded.ensures (eta_of c.args.signs.now) (map (λ o. o.items) c.in_ok-orbits.orbits.items) c.in_ok-orbits.ensures.orbits.orbits c.args.adjoint.now c.in_ok-weights.weights.items (order_is a) (few_is a) (c.in-Some.a + 1)
    (subst (λ (t : List Vector). IsHeavyAt t (c.in-Some.a + 1)) c.deref-2.ensures.value c.in-Some.ensures.here)
    (subst (λ (t : List Vector). (b : ℕ) → b < c.in-Some.a + 1 → ¬ IsHeavyAt t b) c.deref-2.ensures.value c.in-Some.ensures.before)

pub orbit_modules-requires-clause-orbits : goal.orbit_modules-requires-clause-orbits
orbit_modules-requires-clause-orbits c =
    let a = (goal.at.orbit_modules-requires-clause-orbits c).In_ok-weights in
    let b = (goal.at.orbit_modules-requires-clause-orbits c).After-deref-3 in
    subst (λ l. All AreSteppable (map (λ o. o.items) l)) (sym c.deref-3.ensures.value)
    (all_steppable c.args.datum.now c.loaded.ensures c.args.datum.now.base.dim (map (λ o. o.items) c.in_ok-orbits.orbits.items) c.args.adjoint.now.weights c.in_ok-weights.weights.items c.in_ok-orbits.ensures.orbits (order_is a) (light_is b))

pub returns-in_err-modules : goal.returns-in_err-modules
returns-in_err-modules c =
    let a = (goal.at.returns-in_err-modules c).In_ok-weights in
    let b = (goal.at.returns-in_err-modules c).After-deref-3 in
    let d = c.args.datum.now in
    let eta = eta_of c.args.signs.now in
    let e = c.in_err-modules.field-0.0 in
    let p = err_from_is_err_and c.from_residual-in_err-modules.result c.from_residual-in_err-modules.ensures.1 in
    rw (p.1, p.2) (making_fault d c.loaded.ensures eta (map (λ o. o.items) c.in_ok-orbits.orbits.items) c.in_ok-orbits.ensures.orbits.orbits c.args.adjoint.now c.in_ok-weights.weights.items (order_is a) (few_is a) (light_is b) e
    (subst (λ l. IsMakingFault d eta (map (λ o. o.items) l) e) c.deref-3.ensures.value c.in_err-modules.ensures.fault))

pub direct_sum-requires-clause-few : goal.direct_sum-requires-clause-few
direct_sum-requires-clause-few c =
    let a = (goal.at.direct_sum-requires-clause-few c).In_ok-weights in
    let m = (goal.at.direct_sum-requires-clause-few c).In_ok-modules in
    subst (λ (t : List Module). dimensions (c.args.adjoint.now ∷ t) ≤ 1024) (sym c.deref-4.ensures.value)
    (all_few c.args.datum.now (eta_of c.args.signs.now) c.args.adjoint.now (map (λ o. o.items) c.in_ok-orbits.orbits.items) c.in_ok-modules.modules.items c.in_ok-weights.weights.items (made_is m) (order_is a) (few_is a))

pub returns : goal.returns
returns c =
    let a = (goal.at.returns c).In_ok-weights in
    let b = (goal.at.returns c).After-deref-3 in
    let m = (goal.at.returns c).In_ok-modules in
    let d = c.args.datum.now in
    carrier_loads d c.loaded.ensures (eta_of c.args.signs.now) (map (λ o. o.items) c.in_ok-orbits.orbits.items) c.in_ok-orbits.ensures.orbits.orbits c.args.adjoint.now c.in_ok-weights.weights.items (order_is a) (few_is a) (light_is b) c.in_ok-modules.modules.items c.in_ok-direct_sum.field-0 (made_is m)
    (subst (λ (t : List Module). IsDirectSum d (c.args.adjoint.now ∷ t) c.in_ok-direct_sum.field-0) c.deref-4.ensures.value c.in_ok-direct_sum.ensures)
