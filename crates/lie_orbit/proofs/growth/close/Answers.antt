use Rattle.std.proofs.Common.{◌≤◌, ◌<◌, length, arith, rules}
use Rattle.lie_orbit.proofs.GrowthLemmas.{StartsWith-trans, StartsWith-length, next_weight}
use Rattle.lie_orbit.proofs.growth.close.Goals as goal

pub loop-at-preserved : goal.loop-at-preserved
loop-at-preserved c =
    let inv = c.loop-at.invariant in
    let e = c.in_ok-add_images.ensures in
    let long = StartsWith-length c.loop-at.orbit.keys c.add_images.new.orbit.keys e.kept in
    let t = c.loop-at-test.true in
    let n = c.len.ensures in
    let in_list : c.loop-at.at < length c.loop-at.orbit.keys = search rules in
    (e.growing, StartsWith-trans c.args.orbit.now.keys c.loop-at.orbit.keys c.add_images.new.orbit.keys inv.1 e.kept, omega (arith, long, in_list), next_weight c.args.datum.now c.loop-at.orbit.keys c.add_images.new.orbit.keys c.loop-at.at in_list e.kept inv.3 e.done)

pub returns-clause-grown : goal.returns-clause-grown
returns-clause-grown c room k l =
    let t = c.loop-at-test.false in
    let n = c.len.ensures in
    let end : length c.loop-at.orbit.keys ≤ c.loop-at.at = search rules in
    c.loop-at.invariant.3 room k (omega (arith, end, l))
