use Rattle.std.proofs.Common.{◌≡◌, ◌∙◌, ◌<◌, ap, ap₂, sym, arith, subst}
use Rattle.std.specs.Prelude.{slice_index_or}
use Rattle.lie_datum.specs.Vectors.{Vector}
use Rattle.lie_audit.specs.WeylWeights.{weight_at}
use Rattle.lie_ring.specs.Matrices.{image, entry}
use Rattle.lie_ring.specs.MatrixLemmas.{entry-table}
use Rattle.lie_field.specs.Quotient.{of_int}
use Rattle.lie_const.specs.Modules.{dimension}
use Rattle.lie_reduce.specs.Pivots.{sorted_entry, HoldsAtPivots, HasNoRootBetween, IsRootBetween, HasNoImage, IsImage}
use Rattle.lie_reduce.proofs.CoefficientLemmas.{live_top, image_at}
use Rattle.lie_reduce.proofs.PivotImages.{match_both}
use Rattle.lie_reduce.proofs.reading.image_of.Goals as goal

pub power-requires-clause-within : goal.power-requires-clause-within
power-requires-clause-within c = live_top c.args.field.now c.args.space.now c.args.r c.requires.live

pub unreachable-requires : goal.unreachable-requires
unreachable-requires c =
    let f = c.args.field.now in
    let v = c.args.space.now in
    let live = c.requires.live in
    let V = c.in_ok-vectors.vectors in
    let n = V.height in
    let ps = c.args.places.now in
    let is = c.in_ok-vectors.ensures.value ∙ ap (image (of_int f.given)) c.power.ensures.value in
    let tall : n ≡ dimension v = ap (λ M. M.height) c.in_ok-vectors.ensures.value ∙ c.power.ensures.square.height in
    let a = c.requires.onto live.row live.row_within in
    let b = c.requires.onto live.col live.col_within in
    let a_low = a.1 in
    let b_low = b.1 in
    let i : a.0 < n = omega (arith, a_low, tall) in
    let j : b.0 < n = omega (arith, b_low, tall) in
    let high : c.in_ok-sorted.field-0.height ≡ n = ap (λ M. M.height) c.in_ok-sorted.ensures in
    live.nonzero (
    image_at f v c.args.r V is live.row live.col ∙ ap₂ (entry 0 V) (sym a.2) (sym b.2)
    ∙ sym (ap (λ M. entry 0 M a.0 b.0) c.in_ok-sorted.ensures ∙ entry-table 0 n n (sorted_entry V ps) a.0 b.0 i j)
    ∙ c.in-None.ensures a.0 b.0 (omega (arith, i, high)) (omega (arith, j, high)))

pub returns : goal.returns
returns c =
    let f = c.args.field.now in
    let d = c.args.datum.now in
    let v = c.args.space.now in
    let V = c.in_ok-vectors.vectors in
    let n = V.height in
    let ps = c.args.places.now in
    let at = c.args.pivots.now in
    let row = c.in-Some.row in
    let col = c.in-Some.col in
    let is = c.in_ok-vectors.ensures.value ∙ ap (image (of_int f.given)) c.power.ensures.value in
    let tall : n ≡ dimension v = ap (λ M. M.height) c.in_ok-vectors.ensures.value ∙ c.power.ensures.square.height in
    let high : c.in_ok-sorted.field-0.height ≡ n = ap (λ M. M.height) c.in_ok-sorted.ensures in
    let found = c.in-Some.ensures in
    let first = found.0 in
    let second = found.1 in
    let i : row < n = omega (arith, first, high) in
    let j : col < n = omega (arith, second, high) in
    let holds = λ (Q : Vector → Vector → Type 0) (q : Q (weight_at v (slice_index_or ps (slice_index_or at row 0) 0)) (weight_at v (slice_index_or ps (slice_index_or at col 0) 0))). (
    let made : HoldsAtPivots f v ps at c.args.r Q = record {
      row = row;
      col = col;
      row_within = omega (arith, i, tall);
      col_within = omega (arith, j, tall);
      nonzero = λ none. found.2 (ap (λ M. entry 0 M row col) c.in_ok-sorted.ensures ∙ entry-table 0 n n (sorted_entry V ps) row col i j
          ∙ sym (image_at f v c.args.r V is (slice_index_or ps row 0) (slice_index_or ps col 0)) ∙ none);
      holds = q;
    } in made) in
    match_both c.root_between.result (HasNoRootBetween d c.weight-x.result.now c.weight-y.result.now) (HasNoImage f d v ps at c.args.r) (IsRootBetween d c.weight-x.result.now c.weight-y.result.now) (IsImage f d v ps at c.args.r)
    (λ h. holds (HasNoRootBetween d) (subst (λ y. HasNoRootBetween d (weight_at v (slice_index_or ps (slice_index_or at row 0) 0)) y) c.weight-y.ensures.value (subst (λ x. HasNoRootBetween d x c.weight-y.result.now) c.weight-x.ensures.value h)))
    (λ s h. holds (λ x y. IsRootBetween d x y s) (subst (λ y. IsRootBetween d (weight_at v (slice_index_or ps (slice_index_or at row 0) 0)) y s) c.weight-y.ensures.value (subst (λ x. IsRootBetween d x c.weight-y.result.now s) c.weight-x.ensures.value h)))
    c.root_between.ensures
