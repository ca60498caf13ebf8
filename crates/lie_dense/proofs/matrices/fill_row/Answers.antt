use Rattle.std.proofs.Common.{◌∙◌, ◌<◌, ap, ap₂, arith}
use Rattle.lie_ring.specs.Matrices.{with_entry}
use Rattle.lie_mat.specs.PartLemmas.{partial-step, partial-skip}
use Rattle.lie_field.specs.Quotient.{of_int}
use Rattle.lie_field.specs.FieldRing.{field_ring, field_is_ring}
use Rattle.lie_ring.specs.RingLemmas.{int_zero}
use Rattle.lie_dense.specs.Flat.{image_entry}
use Rattle.lie_dense.proofs.matrices.fill_row.Goals.{in-Some+in_ok-image_of, in_default}
use Rattle.lie_dense.proofs.matrices.fill_row.Goals as goal

pub loop-col-preserved : goal.loop-col-preserved
loop-col-preserved c =
    let M = c.args.m.now in
    let f = c.args.field.now.given in
    let row = c.args.row in
    let col = c.loop-col.col in
    let left : col < M.width = omega (arith, c.loop-col-test.true, c.cols-col-end.ensures.cols) in
    elim c.match-get.branch [
      | in-Some+in_ok-image_of w ↦
          w.matrix-is ∙ w.set.ensures
          ∙ ap₂ (λ N e. with_entry 0 N row col e) c.loop-col.invariant (w.in_ok-image_of.ensures ∙ ap (of_int f) w.in-Some.ensures.some)
          ∙ partial-step 0 M.height M.width (image_entry f M) row col c.requires.row left
      | in_default w ↦
          w.matrix-is ∙ c.loop-col.invariant
          ∙ partial-skip 0 M.height M.width (image_entry f M) row col (ap (of_int f) (c.get.ensures.none.0 w.in_default.is) ∙ int_zero (field_ring c.args.field.now) (field_is_ring c.args.field.now))
    ]
