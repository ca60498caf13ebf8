use Rattle.std.proofs.Common.{◌∙◌, ap, sym, subst, rules}
use Rattle.std.proofs.lemmas.Int.{to_z-of_z}
use mir.Val.{SFits}
use mir.Syntax.{w128}
use Rattle.lie_ring.specs.Matrices.{entry}
use Rattle.lie_datum.specs.Vectors.{unit}
use Rattle.lie_field.specs.Quotient.{mul, inv, power_int}
use Rattle.lie_identities.specs.Covers.{less_axis}
use Rattle.lie_reduce.specs.TorusReading.{IsValueAt}
use Rattle.lie_reduce.proofs.TorusSteps.{axis-value}
use Rattle.lie_reduce.proofs.torus_part.axis_value.Goals as goal

pub returns : goal.returns
returns c =
    let f = c.args.field.now in
    let g = f.given in
    let v = c.args.space.now in
    let D = c.args.d.now in
    let times = c.in-Some.times in
    let a = c.in-Some.a in
    let x = c.less_axis-x.ensures.value ∙ ap (λ w. less_axis times w c.args.axis) c.weight.ensures.value in
    let rest = subst (λ z. IsValueAt f v D z c.lowered_value-rest.result) x c.lowered_value-rest.ensures in
    let fit : SFits w128 c.from.result = search rules in
    let whole = c.pow-whole.ensures.value ∙ ap (power_int g c.get.result) (to_z-of_z w128 c.from.result fit) ∙ ap (λ e. power_int g e c.from.result) c.get.ensures ∙ ap (power_int g (entry 0 D a a)) c.from.ensures in
    subst (IsValueAt f v D (unit 8 c.args.axis)) (sym (c.mul.ensures.value ∙ ap (mul g c.pow-whole.result) c.inv.ensures.value ∙ ap (λ e. mul g e (inv g c.lowered_value-rest.result)) whole))
    (axis-value f c.args.datum.now v D c.requires.diagonal times a c.args.axis c.lowered_value-rest.result c.in-Some.ensures.1 rest)
