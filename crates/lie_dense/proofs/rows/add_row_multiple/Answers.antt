use Rattle.std.proofs.Common.{◌∙◌, sym, arith}
use Rattle.std.proofs.lemmas.Bool.{eqb-true}
use Rattle.lie_dense.proofs.RowLemmas.{zero-multiple}
use Rattle.lie_dense.proofs.rows.add_row_multiple.Goals as goal

pub returns-then-eq-clause-sums : goal.returns-then-eq-clause-sums
returns-then-eq-clause-sums c j p =
    let none = eqb-true c.args.a c.zero.result (sym c.eq.ensures ∙ c.if-eq.true) ∙ c.zero.ensures in
    zero-multiple c.args.field.now c.args.a _ _ none (c.requires.row_elem j p) (c.requires.other_elem j (omega (arith, p, c.requires.lengths)))
