use Rattle.std.proofs.Common.{◌≡◌, ◌∙◌, sym, ap, arith}
use Rattle.lie_field.specs.Quotient.{mul}
use Rattle.lie_mat.specs.Parts.{partial_table}
use Rattle.lie_mat.specs.PartLemmas.{partial-row, partial-all}
use Rattle.lie_reduce.specs.Pivots.{without_column}
use Rattle.lie_reduce.proofs.columns.reduced.Goals as goal

pub loop-row-preserved : goal.loop-row-preserved
loop-row-preserved c =
    let n = c.args.m.now.height in
    c.fill_row.ensures.partly ∙ partial-row 0 n n (without_column c.args.field.now.given c.args.m.now c.inv-inverse.result c.args.p c.args.col) c.loop-row.row

pub returns : goal.returns
returns c =
    let n = c.args.m.now.height in
    let F = without_column c.args.field.now.given c.args.m.now c.inv-inverse.result c.args.p c.args.col in
    let tall = c.dim-n.ensures.rows in
    let last : c.loop-row.row ≡ n = omega (arith, c.loop-row-test.false, c.loop-row.auto.row-end, tall) in (
      c.inv-inverse.result,
      c.inv-inverse.ensures.below,
      ap (λ e. mul c.args.field.now.given e c.inv-inverse.result) (sym c.get.ensures) ∙ c.inv-inverse.ensures.inverts,
      c.loop-row.invariant ∙ ap (λ r. partial_table 0 n n F r 0) last ∙ partial-all 0 n n F,
    )
