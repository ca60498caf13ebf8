-- One power more is added.
use Rattle.std.proofs.Common.{◌≡◌, ◌∙◌, ap, arith}
use Rattle.std.proofs.lemmas.Int.{to_z-of_z}
use mir.Val.{to_z, of_z}
use mir.Syntax.{w128}
use Rattle.lie_field.specs.Quotient.{of_int, add}
use Rattle.lie_const.specs.Modules.{top}
use Rattle.lie_audit.proofs.RootEntries.{partial, partial-first, partial-more, power-first, power-next}
use Rattle.lie_audit.proofs.letter_matrices.root_entry.Goals as goal

pub loop-k-init : goal.loop-k-init
loop-k-init c = record {
  sum_is = partial-first c.args.field.now c.args.space.now c.args.r c.args.a c.args.row c.args.col c.in_ok-sum.sum c.in_ok-sum.ensures.value c.in_ok-sum.ensures.below;
  sum_below = c.in_ok-sum.ensures.below;
  power_is = power-first c.args.field.now c.args.a c.requires.a;
  power_below = c.requires.a;
}

pub loop-k-preserved : goal.loop-k-preserved
loop-k-preserved c =
    let f = c.args.field.now in
    let k = c.loop-k.k in
    let inv = c.loop-k.invariant in
    let plain : to_z w128 (of_z w128 c.power_entry.result) ≡ c.power_entry.result = grind (arith, to_z-of_z) in
    record {
      sum_is = c.add-sum.ensures.value ∙ ap (add f.given c.loop-k.sum) c.mul.ensures.value
          ∙ partial-more f c.args.space.now c.args.r c.args.a c.args.row c.args.col k c.loop-k.sum c.loop-k.power c.in_ok-factor.factor inv.sum_is inv.power_is (c.in_ok-factor.ensures.value ∙ ap (of_int f.given) (plain ∙ c.power_entry.ensures));
      sum_below = c.add-sum.ensures.below;
      power_is = c.mul-power.ensures.value ∙ power-next f c.args.a k c.loop-k.power inv.power_is;
      power_below = c.mul-power.ensures.below;
    }

pub returns : goal.returns
returns c =
    let e : c.loop-k.k ≡ top c.args.space.now c.args.r =
    let a = c.loop-k-test.false in let b = c.top-k-end.ensures.value in let h = c.loop-k.auto.k-end in omega (arith, a, b, h) in
    c.loop-k.invariant.sum_is ∙ ap (partial c.args.field.now c.args.space.now c.args.r c.args.a c.args.row c.args.col) e
