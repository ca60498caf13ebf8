use Rattle.std.proofs.Common.{◌≡◌, ◌∙◌, ◌+◌, ◌*◌, sym, ap, ap₂, arith}
use Rattle.std.proofs.lemmas.Nat.{div-mul-add, mod-mul-add}
use Rattle.lie_ring.specs.Matrices.{entry, table}
use Rattle.lie_ring.specs.MatrixLemmas.{table-same}
use Rattle.lie_dense.specs.Flat.{place, square_of}
use Rattle.lie_dense.proofs.FlatLemmas.{place_below}
use Rattle.lie_reduce.proofs.factors.entries_of.Goals as goal

pub returns-clause-value : goal.returns-clause-value
returns-clause-value c =
    let M = c.args.m.now in
    let n = c.dim-n.result in
    let xs = c.loop-place.entries.items in
    let tall = c.dim-n.ensures.rows in
    let wide = c.dim-n.ensures.cols in
    let last : c.loop-place.place ≡ n * n = omega (arith, c.loop-place-test.false, c.loop-place.auto.place-end) in
    ap (λ k. square_of k xs) (sym tall)
    ∙ table-same n n (place n xs) (entry 0 M) (λ i j p q.
    c.loop-place.invariant.each (i * n + j) (let b = place_below n i j p q in omega (arith, b, last))
    ∙ ap₂ (entry 0 M) (div-mul-add i n j q) (mod-mul-add i n j q))
    ∙ ap₂ (λ a b. table a b (entry 0 M)) tall wide
    ∙ sym c.dim-n.ensures.entries
