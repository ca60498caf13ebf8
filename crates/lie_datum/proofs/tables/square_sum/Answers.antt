use Rattle.std.proofs.Common.{◌≤◌, ◌+ℤ◌, ◌*ℤ◌, get_or, [], sym, ap, ◌∙◌, arith, unsigned_abs}
use mir.Val.{to_z}
use mir.Syntax.{w128}
use Rattle.lie_datum.specs.Vectors.{pairing}
use Rattle.lie_datum.proofs.TableFilling.{total_take_more, square_is, square_more}
use Rattle.lie_datum.proofs.tables.square_sum.Goals as goal

pub loop-y-preserved : goal.loop-y-preserved
loop-y-preserved c =
    let ys = c.args.covectors.now in
    let x = c.args.x.now in
    let n = c.loop-y.y-index in
    let s = to_z w128 c.loop-y.sum-bits in
    let k = c.small_pairing-k.result in
    let b = c.loop-y.invariant.1 in
    let few = c.requires.count in
    let low : unsigned_abs s ≤ 629145600000000000000000 = omega (arith, b, few) in
    let is = square_is s k c.small_pairing-k.ensures.bound low in
    let next = total_take_more (λ y. pairing x y *ℤ pairing x y) ys n [] (omega arith) in
    rw is (
      ap (λ t. s +ℤ t *ℤ t) c.small_pairing-k.ensures.value ∙ ap (λ t. t +ℤ pairing x (get_or ys n []) *ℤ pairing x (get_or ys n [])) c.loop-y.invariant.0 ∙ sym next,
      square_more s k c.small_pairing-k.ensures.bound low n b,
    )
