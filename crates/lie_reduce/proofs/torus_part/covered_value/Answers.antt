use Rattle.std.proofs.Common.{◌≤◌, sym, subst}
use Rattle.lie_datum.specs.RootList.{RootDatum}
use Rattle.lie_datum.specs.Vectors.{combination}
use Rattle.lie_const.specs.Modules.{Module}
use Rattle.lie_reduce.specs.TorusReading.{IsValueAt}
use Rattle.lie_reduce.proofs.TorusSteps.{line-value}
use Rattle.lie_reduce.proofs.torus_part.covered_value.Goals as goal

pub returns-in-Some : goal.returns-in-Some
returns-in-Some c =
    let f = c.args.field.now in
    let D = c.args.d.now in
    let a = c.args.audited.now in
    let v = a.module in
    let j = c.args.axis in
    let line = sym c.in-Some.ensures in
    let last : j ≤ a.datum.base.dim = subst (λ (d : RootDatum). j ≤ d.base.dim) c.requires.datum c.requires.axis.1 in
    let is = c.module-space.ensures.audited.cover.each j c.in-Some.c.now c.requires.axis.0 last line in
    line-value f v D j c.line_value.result c.in-Some.c.now is
    (subst (λ (w : Module). IsValueAt f w D (combination c.in-Some.c.now w.weights) c.line_value.result) c.module-space.ensures.value c.line_value.ensures)
