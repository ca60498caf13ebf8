use Rattle.std.proofs.Common.{◌≡◌, ◌*◌, ◌^◌, ◌<◌, length, arith, subst, sym, ap, ◌∙◌, rules, slice_index_or}
use Rattle.std.proofs.lemmas.Int.{to_z-of_z}
use mir.Val.{SFits}
use mir.Syntax.{w128}
use Rattle.std.proofs.lemmas.List.{get_or_read}
use Rattle.lie_datum.specs.Numbers.{place, number_at}
use Rattle.lie_datum.proofs.NumberLemmas.{place_within}
use Rattle.lie_field.specs.Elements.{order_large}
use Rattle.lie_field.specs.Quotient.{mul, power_int}
use Rattle.lie_letters.proofs.CharacterLemmas.{one_times, times_one}
use Rattle.lie_orbit.proofs.WeightLemmas.{within_more}
use Rattle.lie_orbit.proofs.FallLemmas.{norm, IsOnTheWay, way_start, way_within, way_pairing, on_the_way, half_falls}
use Rattle.lie_orbit.specs.Lowering.{less_root}
use Rattle.lie_identities.specs.CoverParts.{LowersToZero}
use Rattle.lie_reduce.specs.TorusReading.{IsQuotientAt, IsRootValue}
use Rattle.lie_reduce.proofs.TorusSteps.{quotient-start, quotient-step, quotient-end}
use Rattle.lie_reduce.proofs.TorusLoops.{lowered-on, lowered-end, number-placed, same_half}
use Rattle.lie_reduce.proofs.torus_part.lowered_value.Goals as goal

pub loop-r-init : goal.loop-r-init
loop-r-init c =
    let f = c.args.field.now in
    let v = c.args.space.now in
    let D = c.args.d.now in
    let x = c.args.x.now in
    let large = order_large f in (
      way_start c.args.datum.now x c.requires.small,
      c.requires.lowers,
      subst (IsQuotientAt f v D x x) (sym c.one_of-value.ensures) (quotient-start f c.args.datum.now v D x (omega arith, large) (one_times f)),
    )

pub first_high-requires : goal.first_high-requires
first_high-requires c =
    within_more (2 * 10 ^ 32) (25 * 10 ^ 31) c.loop-r.weight (omega arith) (way_within c.args.datum.now c.loaded.ensures c.args.x.now c.loop-r.weight c.told-x c.requires.small c.loop-r.invariant.0)

pub half-times-requires-clause-few : goal.half-times-requires-clause-few
half-times-requires-clause-few c =
    way_pairing c.args.datum.now c.loaded.ensures c.args.x.now c.loop-r.weight c.in-Some.r c.told-x c.requires.small c.loop-r.invariant.0 c.in-Some.ensures.number

pub half-times-requires-clause-small : goal.half-times-requires-clause-small
half-times-requires-clause-small c =
    within_more (2 * 10 ^ 32) (25 * 10 ^ 31) c.loop-r.weight (omega arith) (way_within c.args.datum.now c.loaded.ensures c.args.x.now c.loop-r.weight c.told-x c.requires.small c.loop-r.invariant.0)

pub place-requires-clause-number : goal.place-requires-clause-number
place-requires-clause-number c =
    let w = (place_within c.args.datum.now c.in-Some.r c.in-Some.ensures.number).1 in
    let e = c.m.ensures.value in
    omega (arith, w, e)

pub lowered_by-weight-requires-clause-few : goal.lowered_by-weight-requires-clause-few
lowered_by-weight-requires-clause-few c =
    way_pairing c.args.datum.now c.loaded.ensures c.args.x.now c.loop-r.weight c.in-Some.r c.told-x c.requires.small c.loop-r.invariant.0 c.in-Some.ensures.number

pub lowered_by-weight-requires-clause-small : goal.lowered_by-weight-requires-clause-small
lowered_by-weight-requires-clause-small c =
    within_more (2 * 10 ^ 32) (25 * 10 ^ 31) c.loop-r.weight (omega arith) (way_within c.args.datum.now c.loaded.ensures c.args.x.now c.loop-r.weight c.told-x c.requires.small c.loop-r.invariant.0)

pub loop-r-smaller : goal.loop-r-smaller
loop-r-smaller c =
    let d = c.args.datum.now in
    let h = c.lowered_by-weight.ensures in
    subst (λ t. norm d t < norm d c.loop-r.weight) (sym h.2) (half_falls d c.loaded.ensures c.loop-r.weight c.in-Some.r h.0 c.in-Some.ensures h.1)

pub loop-r-preserved : goal.loop-r-preserved
loop-r-preserved c =
    let f = c.args.field.now in
    let v = c.args.space.now in
    let D = c.args.d.now in
    let d = c.args.datum.now in
    let x = c.args.x.now in
    let w = c.loop-r.weight in
    let r = c.in-Some.r in
    let h = c.lowered_by-weight.ensures in
    let m = length d.positive in
    let number = c.in-Some.ensures.number in
    let within = (place_within d r number).2 in
    let at : c.place.result ≡ place m r = c.place.ensures.value ∙ ap (λ n. place n r) c.m.ensures.value in
    let count = c.requires.values.count in
    let low : c.place.result < length c.args.values.now = omega (arith, at, within, count) in
    let value = get_or_read c.args.values.now c.place.result c.index-values-place.result low c.index-values-place.is 0 ∙ ap (λ p. slice_index_or c.args.values.now p 0) at in
    let root = subst (λ z. IsRootValue f d v D z c.index-values-place.result) (number-placed d r number)
    (subst (IsRootValue f d v D (number_at m (place m r))) (sym value) (c.requires.values.each (place m r) within)) in
    let same = same_half d w r c.half-times.result h.0 c.half-times.ensures h.1 in
    let next = h.2 ∙ ap (λ t. less_root d w t r) (sym same) in
    let fit : SFits w128 c.half-times.result = search rules in
    let powered = c.pow.ensures.value ∙ ap (power_int f.given c.index-values-place.result) (to_z-of_z w128 c.half-times.result fit) in
    let is = c.mul-value.ensures.value ∙ ap (mul f.given c.loop-r.value) powered in (
      subst (IsOnTheWay d x) (sym h.2) (on_the_way d c.loaded.ensures x w r h.0 c.loop-r.invariant.0 c.in-Some.ensures h.1),
      subst (LowersToZero d) (sym h.2) (lowered-on d w r h.0 c.in-Some.ensures h.1 c.loop-r.invariant.1),
      subst (λ y. IsQuotientAt f v D x y c.mul-value.result) (sym next)
          (subst (IsQuotientAt f v D x (less_root d w c.half-times.result r)) (sym is) (quotient-step f d v D x w c.loop-r.value r c.half-times.result c.index-values-place.result c.loop-r.invariant.2 root)),
    )

pub returns : goal.returns
returns c =
    let f = c.args.field.now in
    quotient-end f c.args.datum.now c.args.space.now c.args.d.now c.args.x.now c.loop-r.weight c.loop-r.value (lowered-end c.args.datum.now c.loop-r.weight c.in_default.ensures c.loop-r.invariant.1) (times_one f) c.loop-r.invariant.2
