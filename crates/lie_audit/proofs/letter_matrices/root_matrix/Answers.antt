use Rattle.std.proofs.Common.{◌≡◌, ◌∙◌, ap, arith}
use Rattle.lie_ring.specs.Matrices.{zero_matrix}
use Rattle.lie_mat.specs.Parts.{partial_table}
use Rattle.lie_mat.specs.PartLemmas.{partial-none, partial-row, partial-all}
use Rattle.lie_field.specs.FieldRing.{field_ring}
use Rattle.lie_const.specs.Modules.{dimension, root_element, root_element_entry}
use Rattle.lie_audit.proofs.letter_matrices.root_matrix.Goals as goal

pub loop-row-init : goal.loop-row-init
loop-row-init c =
    let n = dimension c.args.space.now in
    c.in_ok-matrix.ensures.value ∙ ap (λ m. zero_matrix 0 m m) c.dim-n.ensures.value ∙ partial-none 0 n n (root_element_entry (field_ring c.args.field.now) c.args.space.now c.args.r c.args.a)

pub loop-row-preserved : goal.loop-row-preserved
loop-row-preserved c =
    let n = dimension c.args.space.now in
    c.in_ok-fill_row.ensures ∙ partial-row 0 n n (root_element_entry (field_ring c.args.field.now) c.args.space.now c.args.r c.args.a) c.loop-row.row

pub returns : goal.returns
unfolding root_element
returns c =
    let n = dimension c.args.space.now in
    let g = root_element_entry (field_ring c.args.field.now) c.args.space.now c.args.r c.args.a in
    let last : c.loop-row.row ≡ n = let a = c.loop-row-test.false in let b = c.dim-n.ensures.value in let h = c.loop-row.auto.row-end in omega (arith, a, b, h) in
    c.loop-row.invariant ∙ ap (λ i. partial_table 0 n n g i 0) last ∙ partial-all 0 n n g
