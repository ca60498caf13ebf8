use Rattle.std.proofs.Common.{◌≡◌, ◌∙◌, ◌<◌, ap, sym, arith}
use Rattle.std.proofs.lemmas.Bool.{ltb-true}
use Rattle.lie_ring.specs.Matrices.{image, entry}
use Rattle.lie_field.specs.Quotient.{of_int, mul, order}
use Rattle.lie_const.specs.Modules.{dimension}
use Rattle.lie_reduce.proofs.CoefficientLemmas.{live_top, image_at, coefficient-found}
use Rattle.lie_reduce.proofs.coefficients.coefficient.Goals as goal

pub power-requires-clause-within : goal.power-requires-clause-within
power-requires-clause-within c = live_top c.args.field.now c.args.space.now c.args.r c.requires.live

pub unreachable-requires : goal.unreachable-requires
unreachable-requires c =
    let live = c.requires.live in
    let g = c.args.field.now.given in
    let V = c.in_ok-vectors.vectors in
    let is = c.in_ok-vectors.ensures.value ∙ ap (image (of_int g)) c.power.ensures.value in
    let tall : V.height ≡ dimension c.args.space.now = ap (λ M. M.height) c.in_ok-vectors.ensures.value ∙ c.power.ensures.square.height in
    let row = live.row_within in
    let col = live.col_within in
    live.nonzero (image_at c.args.field.now c.args.space.now c.args.r V is live.row live.col ∙ c.in-None.ensures live.row live.col (omega (arith, row, tall)) (omega (arith, col, tall)))

pub returns : goal.returns
returns c =
    let f = c.args.field.now in
    let g = f.given in
    let M = c.args.m.now in
    let V = c.in_ok-vectors.vectors in
    let row = c.in-Some.row in
    let col = c.in-Some.col in
    let is = c.in_ok-vectors.ensures.value ∙ ap (image (of_int g)) c.power.ensures.value in
    let tall : V.height ≡ dimension c.args.space.now = ap (λ M. M.height) c.in_ok-vectors.ensures.value ∙ c.power.ensures.square.height in
    let wide : V.width ≡ dimension c.args.space.now = ap (λ M. M.width) c.in_ok-vectors.ensures.value ∙ c.power.ensures.square.width in
    let high = c.dim.ensures.rows in
    let broad = c.dim.ensures.cols in
    let same = c.requires.dimension in
    let found = c.in-Some.ensures in
    let r = found.0 in
    let k = found.1 in
    let at_row : row < dimension c.args.space.now = omega (arith, r, tall) in
    let at_col : col < dimension c.args.space.now = omega (arith, k, tall) in
    let here = c.get.ensures in
    coefficient-found f c.args.space.now c.args.r V is M row col c.inv.result c.mul.result at_row at_col found.2
    (ltb-true (entry 0 V row col) (order g) (c.in_ok-vectors.ensures.elem row col r (omega (arith, at_col, wide))))
    c.inv.ensures.below
    (ltb-true (entry 0 M row col) (order g) (c.requires.elem row col (omega (arith, at_row, same)) (omega (arith, at_col, same, high, broad))))
    (ap (λ e. mul g e c.inv.result) (sym c.get-in-Some.ensures) ∙ c.inv.ensures.inverts)
    (c.mul.ensures.value ∙ ap (λ e. mul g e c.inv.result) here)
    c.mul.ensures.below
