-- Nothing is filled at the beginning.
use Rattle.std.proofs.Common.{◌≡◌, pos, sym, ap₂, subst, ◌∙◌}
use Rattle.lie_ring.specs.Integers.{integers}
use Rattle.lie_ring.specs.Matrices.{zero_matrix, AllFit}
use Rattle.lie_const.specs.ConstantTables.{value_of}
use Rattle.lie_const.specs.Adjoint.{adjoint_dimension}
use Rattle.lie_weight.specs.AdjointParts.{IsPartial}
use Rattle.lie_weight.proofs.Partials.{nothing_filled}
use Rattle.lie_weight.proofs.adjoint.divided.Goals as goal

pub loop-col-init : goal.loop-col-init
loop-col-init c =
    let d = c.args.datum.now in
    let n = value_of c.args.consts.now in
    let none = zero_matrix (pos 0) (adjoint_dimension d) (adjoint_dimension d) in
    let is : c.in_ok-matrix.matrix ≡ none = c.in_ok-matrix.ensures.value ∙ ap₂ (zero_matrix (pos 0)) c.dimension-n.ensures.value c.dimension-n.ensures.value in
    subst (λ M. IsPartial d n c.args.r c.args.k M 0 0) (sym is) (nothing_filled d n c.args.r c.args.k (subst (AllFit integers) is (c.in_ok-matrix.ensures.fit (record {}))))
