use Rattle.std.proofs.Common.{◌≡◌, ◌+◌, ◌∙◌, suc, length, take, get_or, ap, sym, subst, arith}
use Rattle.std.proofs.lemmas.List.{length-take-le, get_or-take}
use Rattle.lie_datum.specs.Vectors.{unit}
use Rattle.lie_reduce.specs.TorusReading.{IsValueAt}
use Rattle.lie_reduce.proofs.TorusSteps.{torus-only}
use Rattle.lie_reduce.proofs.torus_part.torus_of.Goals as goal

pub returns : goal.returns
returns c =
    let f = c.args.field.now in
    let d = c.args.datum.now in
    let v = c.args.audited.now.module in
    let D = c.args.d.now in
    let xs = c.axis_values-entries.result in
    let dim = c.d.ensures in
    let few = c.loaded.ensures.axioms.input.dim.1 in
    let t : c.in-Some.t ≡ take d.base.dim xs = c.in-Some.ensures.0 ∙ ap (λ n. take n xs) dim in
    let long = c.axis_values-entries.ensures.long in
    let size = ap length t ∙ length-take-le d.base.dim xs (omega (arith, few, long)) in
    torus-only f d v D c.in-Some.t (sym size) few c.in-Some.ensures.1.units (λ j low.
    (let at : get_or c.in-Some.t j 0 ≡ get_or xs j 0 = ap (λ ys. get_or ys j 0) t ∙ get_or-take d.base.dim xs j 0 low in
    let next : j + 1 ≡ suc j = omega arith in
    subst (IsValueAt f v D (unit 8 (suc j))) (sym at) (subst (λ n. IsValueAt f v D (unit 8 n) (get_or xs j 0)) next (c.axis_values-entries.ensures.each j low))))
