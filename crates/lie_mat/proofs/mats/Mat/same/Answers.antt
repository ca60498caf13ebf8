use Rattle.std.proofs.Common.{◌∙◌, sym, ap₂, refl, arith}
use Rattle.lie_ring.specs.Matrices.{table, entry}
use Rattle.lie_ring.specs.MatrixLemmas.{table-same}
use Rattle.lie_mat.proofs.mats.Mat.same.Goals as goal

pub returns : goal.returns
returns g c =
    let z = g.R.Ring.zero in
    let M = c.args.self.now in
    let N = c.args.b.now in (
      λ _.
          c.rows-row-end.ensures.entries
          ∙ table-same M.height M.width (entry z M) (entry z N) (λ i j p q. c.loop-row.invariant i j (omega (arith, p, c.loop-row-test.false, c.rows-row-end.ensures.rows)) q)
          ∙ ap₂ (λ m n. table m n (entry z N)) c.requires.rows c.requires.cols
          ∙ sym c.rows.ensures.entries,
      λ _. refl,
    )
