use Rattle.std.proofs.Common.{◌∙◌, sym, ap, ap₂}
use Rattle.lie_ring.specs.Matrices.{table, entry, image}
use Rattle.lie_ring.specs.MatrixLemmas.{image-table}
use Rattle.lie_mat.proofs.mats.Mat.map.Goals as goal

pub returns-in-Ok-clause-value : goal.returns-in-Ok-clause-value
returns-in-Ok-clause-value g c =
    let h = g.H.Hom.map c.args.hom.now in
    let M = c.args.self.now in
    let z = g.R.Ring.zero in
    c.in-Ok.ensures.value
    ∙ ap₂ (λ m n. table m n (λ i j. h (entry z M i j))) c.rows.ensures.rows c.cols.ensures.cols
    ∙ sym (ap (image h) c.rows.ensures.entries ∙ image-table h M.height M.width (entry z M))
