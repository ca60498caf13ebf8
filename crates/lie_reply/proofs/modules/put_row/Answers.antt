use Rattle.std.proofs.Common.{rules, ◌≡◌, [], ◌∷◌, ◌++◌, map, ap, sym, ◌∙◌, append_assoc, arith}
use Rattle.std.specs.Prelude.{codes}
use Rattle.std.specs.List.{join_with_byte, range_with_len}
use Rattle.lie_reply.specs.Modules.{entry_text, row_text}
use Rattle.lie_reply.proofs.RowLemmas.{join-next, regrouped, OnOk-written}
use Rattle.lie_reply.proofs.modules.put_row.Goals as goal

pub cols-preserved : goal.cols-preserved
cols-preserved c =
    let f = entry_text c.args.matrix.now c.args.row in
    let old = c.args.out.now.items in
    let front = join_with_byte 32 (map f (range_with_len 0 c.cols.col)) in
    let written : c.put_number-in-cols.new.out.items ≡ (c.cols.out.items ++ codes " ") ++ f c.cols.col = search rules in
    written ∙ ap (λ z. (z ++ codes " ") ++ f c.cols.col) c.cols.invariant ∙ regrouped old front (32 ∷ []) (f c.cols.col)
    ∙ ap (λ z. old ++ z) (sym (join-next f c.cols.col c.cols.auto.col))

pub returns : goal.returns
returns c =
    let M = c.args.matrix.now in
    let f = entry_text M c.args.row in
    let old = c.args.out.now.items in
    let last : c.cols.col ≡ M.width = let a = c.cols-test.false in let b = c.cols.auto.col-end in let e = c.dim-n.ensures.cols in omega (arith, a, b, e) in
    OnOk-written c.extend_from_slice-2.result c.extend_from_slice-2.new.self.items (c.cols.out.items ++ codes "\n") c.cols.out.items (old ++ row_text M c.args.row) c.extend_from_slice-2.ensures.items
    (ap (λ z. z ++ codes "\n") (c.cols.invariant ∙ ap (λ k. old ++ join_with_byte 32 (map f (range_with_len 0 k))) last) ∙ append_assoc old (join_with_byte 32 (map f (range_with_len 0 M.width))) (codes "\n"))
