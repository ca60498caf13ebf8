use Rattle.std.proofs.Common.{◌<◌, length, subst, sym, rules}
use Rattle.lie_orbit.specs.Growth.{HasAllImages}
use Rattle.lie_orbit.proofs.orbits.orbit.Goals as goal

pub in_order-requires-clause-whole : goal.in_order-requires-clause-whole
in_order-requires-clause-whole c =
    let f = c.if-len-ge-MOST.false in
    let e = c.len.ensures.len in
    let room : length c.in_ok-members.members.keys < 1025 = search rules in
    subst (HasAllImages c.args.datum.now) (sym c.as_slice.ensures.keys) (c.in_ok-members.ensures.grown room)
