use Rattle.std.proofs.Common.{◌≡◌, ◌∙◌, ◌+◌, ◌*◌, ◌<◌, sym, ap₂, arith}
use Rattle.std.proofs.lemmas.Nat.{div-mul-add, mod-mul-add}
use Rattle.lie_ring.specs.Matrices.{entry}
use Rattle.lie_dense.proofs.FlatLemmas.{place_below}
use Rattle.lie_reduce.proofs.coefficients.nonzero_place.Goals as goal

pub returns : goal.returns
returns c i j p q =
    let n = c.dim-n.result in
    let tall = c.dim-n.ensures.rows in
    let last : c.loop-place.place ≡ n * n = omega (arith, c.loop-place-test.false, c.loop-place.auto.place-end) in
    let row : i < n = omega (arith, p, tall) in
    let col : j < n = omega (arith, q, tall) in
    sym (ap₂ (entry 0 c.args.m.now) (div-mul-add i n j col) (mod-mul-add i n j col))
    ∙ c.loop-place.invariant (i * n + j) (let b = place_below n i j row col in omega (arith, b, last))
