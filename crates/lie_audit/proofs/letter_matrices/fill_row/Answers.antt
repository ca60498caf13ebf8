use Rattle.std.proofs.Common.{◌≡◌, ◌<◌, ◌∙◌, ap, ap₂, arith}
use Rattle.lie_ring.specs.Matrices.{with_entry}
use Rattle.lie_mat.specs.Parts.{partial_table}
use Rattle.lie_mat.specs.PartLemmas.{partial-step}
use Rattle.lie_field.specs.FieldRing.{field_ring}
use Rattle.lie_const.specs.Modules.{dimension, root_element_entry}
use Rattle.lie_audit.proofs.letter_matrices.fill_row.Goals as goal

pub loop-col-preserved : goal.loop-col-preserved
loop-col-preserved c =
    let v = c.args.space.now in
    let row = c.args.row in
    let col = c.loop-col.col in
    let left : col < dimension v = let a = c.loop-col-test.true in let b = c.dim-col-end.ensures.value in omega (arith, a, b) in
    c.set.ensures ∙ ap₂ (λ N e. with_entry 0 N row col e) c.loop-col.invariant c.in_ok-e.ensures
    ∙ partial-step 0 (dimension v) (dimension v) (root_element_entry (field_ring c.args.field.now) v c.args.r c.args.a) row col c.requires.row left

pub returns : goal.returns
returns c =
    let v = c.args.space.now in
    let last : c.loop-col.col ≡ dimension v = let a = c.loop-col-test.false in let b = c.dim-col-end.ensures.value in let h = c.loop-col.auto.col-end in omega (arith, a, b, h) in
    c.loop-col.invariant ∙ ap (partial_table 0 (dimension v) (dimension v) (root_element_entry (field_ring c.args.field.now) v c.args.r c.args.a) c.args.row) last
