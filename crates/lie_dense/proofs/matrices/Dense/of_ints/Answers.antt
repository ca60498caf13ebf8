use Rattle.std.proofs.Common.{◌≡◌, ◌∙◌, pos, sym, ap, subst, arith}
use Rattle.lie_ring.specs.Matrices.{AllElem, image, entry}
use Rattle.lie_ring.specs.MatrixLemmas.{image-table}
use Rattle.lie_ring.specs.MatrixElements.{table-elem}
use Rattle.lie_mat.specs.Parts.{partial_table}
use Rattle.lie_mat.specs.PartLemmas.{partial-row, partial-all}
use Rattle.lie_field.specs.Quotient.{of_int}
use Rattle.lie_field.specs.FieldRing.{field_ring, field_is_ring}
use Rattle.lie_dense.specs.Flat.{image_entry}
use Rattle.lie_dense.proofs.matrices.Dense.of_ints.Goals.{After-loop-row}
use Rattle.lie_dense.proofs.matrices.Dense.of_ints.Goals as goal

pub loop-row-preserved : goal.loop-row-preserved
loop-row-preserved c =
    let M = c.args.m.now in
    c.in_ok-fill_row.ensures.partly ∙ partial-row 0 M.height M.width (image_entry c.args.field.now.given M) c.loop-row.row

pub returns-clause-value : goal.returns-clause-value
returns-clause-value c =
    let M = c.args.m.now in
    let g = of_int c.args.field.now.given in
    let f = image_entry c.args.field.now.given M in
    let last : c.loop-row.row ≡ M.height = omega (arith, c.loop-row-test.false, c.loop-row.auto.row-end, c.rows-n.ensures.rows) in
    c.loop-row.invariant ∙ ap (λ i. partial_table 0 M.height M.width f i 0) last ∙ partial-all 0 M.height M.width f
    ∙ sym (ap (image g) c.rows-n.ensures.entries ∙ image-table g M.height M.width (entry (pos 0) M))

pub returns-clause-elem : goal.returns-clause-elem
returns-clause-elem c =
    let M = c.args.m.now in
    let R = field_ring c.args.field.now in
    let ring = field_is_ring c.args.field.now in
    let g = of_int c.args.field.now.given in
    subst (AllElem R) (sym (returns-clause-value c ∙ ap (image g) c.rows-n.ensures.entries ∙ image-table g M.height M.width (entry (pos 0) M)))
    (table-elem R ring M.height M.width (λ i j. g (entry (pos 0) M i j)) (λ i j _ _. ring.integers.int_elem (entry (pos 0) M i j)))
