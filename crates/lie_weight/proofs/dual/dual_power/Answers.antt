use Rattle.std.proofs.Common.{◌≡◌, ℤ, pos, negsuc, IfOk, subst, ◌∙◌, lit<}
use mir.Val.{to_z, of_z}
use mir.Syntax.{w128}
use Rattle.lie_ring.specs.Integers.{integers}
use Rattle.lie_ring.specs.Powers.{power}
use Rattle.lie_ring.specs.Matrices.{Matrix, scaled, transposed, AllFit}
use Rattle.lie_datum.proofs.VectorLemmas.{plain}
use Rattle.lie_const.specs.Modules.{dimension}
use Rattle.lie_weight.specs.Kept.{IsSquare}
use Rattle.lie_weight.proofs.StepLemmas.{ok_both}
use Rattle.lie_weight.proofs.DualLemmas.{turned_square}
use Rattle.lie_weight.proofs.dual.dual_power.Goals as goal
use Rattle.lie_weight.proofs.dual.dual_power.Goals.{After-scaled}

-- the sign is that of the power
sign_is : (c : After-scaled) → to_z w128 (of_z w128 c.sign.result) ≡ power integers (negsuc 0) c.args.k
sign_is c = plain c.sign.result 1 c.sign.ensures.unit (lit< tt) ∙ c.sign.ensures.value

pub returns-in-Ok-clause-value : goal.returns-in-Ok-clause-value
returns-in-Ok-clause-value c =
    let s = power integers (negsuc 0) c.args.k in
    let r = c.scaled.result in
    subst (λ (M : Matrix ℤ). IfOk r (λ m. m ≡ scaled integers s (transposed (pos 0) M))) c.power.ensures.value
    (subst (λ (N : Matrix ℤ). IfOk r (λ m. m ≡ scaled integers s N)) c.in-Ok.ensures.value
    (subst (λ (t : ℤ). IfOk r (λ m. m ≡ scaled integers t c.in-Ok.matrix)) (sign_is (goal.at.returns-in-Ok-clause-value c).After-scaled) c.scaled.ensures.value))

pub returns-in-Ok-clause-square : goal.returns-in-Ok-clause-square
returns-in-Ok-clause-square c =
    let n = dimension c.args.space.now in
    let s = to_z w128 (of_z w128 c.sign.result) in
    ok_both (λ m. m ≡ scaled integers s c.in-Ok.matrix) (AllFit integers) (IsSquare n)
    (λ m e f. turned_square n s c.power.result.now c.in-Ok.matrix m c.power.ensures.square c.in-Ok.ensures.value e f) c.scaled.result c.scaled.ensures.value c.scaled.ensures.fit
