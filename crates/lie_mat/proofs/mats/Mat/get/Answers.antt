use Rattle.std.proofs.Common.{◌≡◌, ◌∙◌, ◌<◌, sym, ap, arith, length}
use Rattle.std.specs.Option.{unwrap_or}
use Rattle.lie_ring.specs.Matrices.{entry}
use Rattle.lie_mat.specs.Columns.{stored}
use Rattle.lie_mat.specs.ColumnLemmas.{entry-matrix_of, stored-read, found, not_found}
use Rattle.lie_mat.proofs.mats.Mat.get.Given.{Over}
use Rattle.lie_mat.proofs.mats.Mat.get.Goals.{After-get}
use Rattle.lie_mat.proofs.mats.Mat.get.Goals as goal

-- the entry is what is kept in its column
kept_here : (g : Over) (c : After-get g) → (entry g.R.Ring.zero c.args.self.now c.args.row c.args.col ≡ unwrap_or (stored c.self.inside.columns.items c.args.row c.args.col) g.R.Ring.zero) × (c.args.col < length c.self.inside.columns.items)
kept_here g c =
    let z = g.R.Ring.zero in
    let columns = c.self.inside.columns.items in
    let low : c.args.row < c.self.inside.height = omega (arith, c.requires.row, ap (λ M. M.height) c.self.view_is) in
    let left : c.args.col < length columns = omega (arith, c.requires.col, ap (λ M. M.width) c.self.view_is) in
    (ap (λ M. entry z M c.args.row c.args.col) (sym c.self.view_is) ∙ entry-matrix_of z c.self.inside.height columns c.args.row c.args.col low left, left)

pub returns-clause-some : goal.returns-clause-some
returns-clause-some g c =
    let here = kept_here g c in
    let read = stored-read c.self.inside.columns.items c.args.row c.args.col c.index.result.now here.1 c.index.ensures in
    found c.get.result _ g.R.Ring.zero _ c.get.ensures.value (here.0 ∙ ap (λ o. unwrap_or o g.R.Ring.zero) read)

pub returns-clause-none : goal.returns-clause-none
returns-clause-none g c =
    let here = kept_here g c in
    let read = stored-read c.self.inside.columns.items c.args.row c.args.col c.index.result.now here.1 c.index.ensures in
    not_found c.get.result _ g.R.Ring.zero _ (λ y e. c.self.invariant.nonzero c.args.row c.args.col y (read ∙ e)) c.get.ensures.value (here.0 ∙ ap (λ o. unwrap_or o g.R.Ring.zero) read)
