use Rattle.std.proofs.Common.{◌<◌, ◌∙◌, ap, arith}
use Rattle.lie_ring.specs.Matrices.{with_entry}
use Rattle.lie_dense.proofs.FlatLemmas.{square-write}
use Rattle.lie_dense.proofs.matrices.Dense.set.Goals as goal

pub returns : goal.returns
returns c =
    let n = c.self.inside.dim in
    let i : c.args.row < n = omega (arith, c.requires.row, ap (λ M. M.height) c.self.view_is) in
    let j : c.args.col < n = omega (arith, c.requires.col, ap (λ M. M.width) c.self.view_is) in
    square-write n c.self.inside.entries.items c.args.row c.args.col c.args.e c.self.invariant.0 i j
    ∙ ap (λ M. with_entry 0 M c.args.row c.args.col c.args.e) c.self.view_is
