use Rattle.std.proofs.Common.{◌<◌, ◌+◌, ◌*◌, ◌∙◌, sym, ap, arith}
use Rattle.std.proofs.lemmas.List.{get_or_default}
use Rattle.lie_ring.specs.Matrices.{entry}
use Rattle.lie_dense.proofs.FlatLemmas.{square-entry, place_below}
use Rattle.lie_dense.proofs.matrices.Dense.get.Goals as goal

pub returns : goal.returns
returns c =
    let n = c.self.inside.dim in
    let i : c.args.row < n = omega (arith, c.requires.row, ap (λ M. M.height) c.self.view_is) in
    let j : c.args.col < n = omega (arith, c.requires.col, ap (λ M. M.width) c.self.view_is) in
    c.index.ensures ∙ get_or_default c.self.inside.entries.items (c.args.row * n + c.args.col) c.index.result.now 0 (let p = place_below n c.args.row c.args.col i j in omega (arith, p, c.self.invariant.0))
    ∙ sym (square-entry n c.self.inside.entries.items c.args.row c.args.col i j) ∙ ap (λ M. entry 0 M c.args.row c.args.col) c.self.view_is
