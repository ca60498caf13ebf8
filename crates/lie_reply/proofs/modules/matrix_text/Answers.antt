use Rattle.std.proofs.Common.{rules, ◌≡◌, ◌++◌, ap, sym, ◌∙◌}
use Rattle.lie_reply.specs.Modules.{row_text}
use Rattle.lie_reply.proofs.RowLemmas.{rows-more}
use Rattle.lie_reply.proofs.modules.matrix_text.Goals as goal

pub rows-preserved : goal.rows-preserved
rows-preserved c =
    let M = c.args.matrix.now in
    let written : c.put_row.new.out.items ≡ c.rows.out.items ++ row_text M c.rows.row = search rules in
    written ∙ ap (λ z. z ++ row_text M c.rows.row) c.rows.invariant ∙ sym (rows-more (row_text M) c.rows.row)
