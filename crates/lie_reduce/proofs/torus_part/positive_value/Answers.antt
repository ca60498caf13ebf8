use Rattle.std.proofs.Common.{◌≡◌, ◌∙◌, ◌<◌, ap, sym, arith, subst}
use Rattle.lie_ring.specs.Matrices.{image, entry}
use Rattle.lie_field.specs.Quotient.{of_int, mul, inv}
use Rattle.lie_const.specs.Modules.{dimension}
use Rattle.lie_reduce.specs.TorusReading.{IsRootValue}
use Rattle.lie_reduce.proofs.CoefficientLemmas.{live_top, image_at}
use Rattle.lie_reduce.proofs.TorusSteps.{root-value}
use Rattle.lie_reduce.proofs.torus_part.positive_value.Goals as goal

pub power-requires-clause-within : goal.power-requires-clause-within
power-requires-clause-within c = live_top c.args.field.now c.args.space.now c.args.r c.requires.live

pub unreachable-requires : goal.unreachable-requires
unreachable-requires c =
    let live = c.requires.live in
    let g = c.args.field.now.given in
    let V = c.in_ok-vectors.vectors in
    let is = c.in_ok-vectors.ensures.value ∙ ap (image (of_int g)) c.power.ensures.value in
    let tall : V.height ≡ dimension c.args.space.now = ap (λ M. M.height) c.in_ok-vectors.ensures.value ∙ c.power.ensures.square.height in
    let row = live.row_within in
    let col = live.col_within in
    live.nonzero (image_at c.args.field.now c.args.space.now c.args.r V is live.row live.col ∙ c.in-None.ensures live.row live.col (omega (arith, row, tall)) (omega (arith, col, tall)))

pub returns : goal.returns
returns c =
    let f = c.args.field.now in
    let g = f.given in
    let D = c.args.d.now in
    let V = c.in_ok-vectors.vectors in
    let row = c.in-Some.row in
    let col = c.in-Some.col in
    let is = c.in_ok-vectors.ensures.value ∙ ap (image (of_int g)) c.power.ensures.value in
    let tall : V.height ≡ dimension c.args.space.now = ap (λ M. M.height) c.in_ok-vectors.ensures.value ∙ c.power.ensures.square.height in
    let found = c.in-Some.ensures in
    let r = found.0 in
    let k = found.1 in
    let at_row : row < dimension c.args.space.now = omega (arith, r, tall) in
    let at_col : col < dimension c.args.space.now = omega (arith, k, tall) in
    let value = root-value f c.args.datum.now c.args.space.now D c.requires.diagonal c.requires.graded c.args.r c.requires.number row col at_row at_col
    (λ none. found.2 (sym (image_at f c.args.space.now c.args.r V is row col) ∙ none)) in
    subst (IsRootValue f c.args.datum.now c.args.space.now D c.args.r)
    (sym (c.mul.ensures.value ∙ ap (mul g c.get.result) c.inv.ensures.value ∙ ap (λ e. mul g e (inv g c.get-in-Some.result)) c.get.ensures ∙ ap (λ e. mul g (entry 0 D row row) (inv g e)) c.get-in-Some.ensures)) value
