use Rattle.std.proofs.Common.{◌≡◌, ◌≤◌, length, subst, sym, arith, rules}
use Rattle.std.specs.List.{All}
use Rattle.lie_datum.specs.RootDatum.{IsWithin}
use Rattle.lie_const.specs.Signs.{eta_of}
use Rattle.lie_orbit.specs.Orbits.{IsOrbitSize}
use Rattle.lie_orbit.proofs.OneOrbit.{listed_size}
use Rattle.lie_weight.proofs.OrbitLemmas.{near_small, are_light, orbit_some, along_loads}
use Rattle.lie_weight.proofs.modules.Module.minuscule.Goals as goal
use Rattle.lie_weight.proofs.modules.Module.minuscule.Goals.{In_ok-weights}

pub returns-then-count-gt-LIMIT : goal.returns-then-count-gt-LIMIT
returns-then-count-gt-LIMIT c =
    let d = c.args.datum.now in
    let e : c.len-count.result ≡ length c.in_ok-weights.weights.items = let l = c.len-count.ensures in search rules in
    let o = c.in_ok-weights.ensures in
    (c.requires.minuscule, c.if-count-gt-LIMIT.true, subst (IsOrbitSize d c.args.v.now) (sym e) (listed_size d c.args.v.now c.in_ok-weights.weights.items o.orbit (let f = o.few in omega (arith, f))))

small_is : (c : In_ok-weights) → All (IsWithin 1000000) c.in_ok-weights.weights.items
small_is c = near_small c.args.v.now c.in_ok-weights.weights.items c.requires.v c.in_ok-weights.ensures.near

pub along-requires-clause-weights : goal.along-requires-clause-weights
along-requires-clause-weights c = record {
  some = orbit_some c.args.datum.now c.args.v.now c.in_ok-weights.weights.items c.in_ok-weights.ensures.orbit;
  few = let f = c.in_ok-weights.ensures.few in omega (arith, f);
  small = small_is (goal.at.along-requires-clause-weights c).In_ok-weights;
}

pub returns : goal.returns
returns c =
    let ws = c.in_ok-weights.weights.items in
    let e : c.len-count.result ≡ length ws = let l = c.len-count.ensures in search rules in
    let few : length ws ≤ 300 = let f = c.if-count-gt-LIMIT.false in omega (arith, e, f) in
    along_loads c.args.datum.now (eta_of c.args.signs.now) c.args.v.now ws c.along.result c.requires.minuscule c.in_ok-weights.ensures.orbit
    (are_light ws few (small_is (goal.at.returns c).In_ok-weights)) c.along.ensures.made c.along.ensures.fault
