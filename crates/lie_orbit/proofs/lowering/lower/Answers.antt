use Rattle.std.proofs.Common.{◌*◌, ◌^◌, ◌<◌, arith, subst, sym}
use Rattle.lie_orbit.specs.Lowering.{low}
use Rattle.lie_orbit.proofs.WeightLemmas.{within_more}
use Rattle.lie_orbit.proofs.FallLemmas.{norm, IsOnTheWay, way_start, way_within, way_pairing, on_the_way, half_falls, low_minuscule}
use Rattle.lie_orbit.proofs.lowering.lower.Goals as goal

pub loop-r-init : goal.loop-r-init
loop-r-init c = way_start c.args.datum.now c.args.v.now c.requires

pub first_high-requires : goal.first_high-requires
first_high-requires c =
    within_more (2 * 10 ^ 32) (25 * 10 ^ 31) c.loop-r.weight (omega arith) (way_within c.args.datum.now c.loaded.ensures c.args.v.now c.loop-r.weight c.told-v c.requires c.loop-r.invariant)

pub lowered_by-weight-requires-clause-few : goal.lowered_by-weight-requires-clause-few
lowered_by-weight-requires-clause-few c =
    way_pairing c.args.datum.now c.loaded.ensures c.args.v.now c.loop-r.weight c.in-Some.r c.told-v c.requires c.loop-r.invariant c.in-Some.ensures.number

pub lowered_by-weight-requires-clause-small : goal.lowered_by-weight-requires-clause-small
lowered_by-weight-requires-clause-small c =
    within_more (2 * 10 ^ 32) (25 * 10 ^ 31) c.loop-r.weight (omega arith) (way_within c.args.datum.now c.loaded.ensures c.args.v.now c.loop-r.weight c.told-v c.requires c.loop-r.invariant)

pub loop-r-smaller : goal.loop-r-smaller
loop-r-smaller c =
    let d = c.args.datum.now in
    let h = c.lowered_by-weight.ensures in
    subst (λ t. norm d t < norm d c.loop-r.weight) (sym h.2) (half_falls d c.loaded.ensures c.loop-r.weight c.in-Some.r h.0 c.in-Some.ensures h.1)

pub loop-r-preserved : goal.loop-r-preserved
loop-r-preserved c =
    let d = c.args.datum.now in
    let h = c.lowered_by-weight.ensures in
    subst (IsOnTheWay d c.args.v.now) (sym h.2) (on_the_way d c.loaded.ensures c.args.v.now c.loop-r.weight c.in-Some.r h.0 c.loop-r.invariant c.in-Some.ensures h.1)

pub returns-clause-lowers : goal.returns-clause-lowers
returns-clause-lowers c = c.loop-r.invariant.leads c.loop-r.weight (low c.loop-r.weight c.in_default.ensures)

pub returns-clause-minuscule : goal.returns-clause-minuscule
returns-clause-minuscule c = low_minuscule c.args.datum.now c.loaded.ensures c.loop-r.weight c.in_default.ensures

pub returns-clause-near : goal.returns-clause-near
returns-clause-near c = way_within c.args.datum.now c.loaded.ensures c.args.v.now c.loop-r.weight c.told-v c.requires c.loop-r.invariant
