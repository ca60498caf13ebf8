-- One weight more is that of the next basis vector.
use Rattle.std.proofs.Common.{◌≡◌, ℕ, suc, ◌+◌, map, ◌++◌, ◌∷◌, [], sym, ap, ap₂, ◌∙◌, arith}
use Rattle.std.specs.List.{range_with_len}
use Rattle.lie_ring.specs.MatrixLemmas.{map-range-last}
use Rattle.lie_const.specs.Adjoint.{basis_vector, basis_weight}
use Rattle.lie_weight.proofs.adjoint.weights.Goals as goal

pub loop-place-preserved : goal.loop-place-preserved
loop-place-preserved c =
    let d = c.args.datum.now in
    let f = λ (a : ℕ). basis_weight d (basis_vector d a) in
    let a = c.loop-place.place in
    let one : suc a ≡ a + 1 = omega arith in
    let none : a ≡ 0 + a = omega arith in
    c.in_ok-push.ensures.items ∙ ap₂ (λ xs y. xs ++ y ∷ []) c.loop-place.invariant (c.weight_at.ensures ∙ ap f none) ∙ sym (map-range-last f 0 a) ∙ ap (λ k. map f (range_with_len 0 k)) one
