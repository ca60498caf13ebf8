use Rattle.std.proofs.Common.{arith, rules}
use Rattle.lie_orbit.proofs.GrowthLemmas.{StartsWith-trans, StartsWith-length, next_image}
use Rattle.lie_orbit.proofs.growth.add_images.Goals as goal

pub loop-i-preserved : goal.loop-i-preserved
loop-i-preserved c =
    let inv = c.loop-i.invariant in
    let e = c.in_ok-add_image.ensures in
    let long = StartsWith-length c.args.orbit.now.keys c.loop-i.orbit.keys inv.1 in
    let at = inv.2 in (
      e.growing,
      StartsWith-trans c.args.orbit.now.keys c.loop-i.orbit.keys c.add_image.new.orbit.keys inv.1 e.kept,
      inv.2,
      next_image c.args.datum.now c.loop-i.orbit.keys c.add_image.new.orbit.keys c.args.at c.loop-i.i (omega (arith, long, at)) e.kept inv.3 e.done,
    )

pub returns-clause-done : goal.returns-clause-done
returns-clause-done c room i s z = let t = c.loop-i-test.false in let e = c.loop-i.auto in let l = s.1 in c.loop-i.invariant.3 room i s.0 (search rules) z
