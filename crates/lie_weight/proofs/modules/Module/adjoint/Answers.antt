-- The weights and the matrices of all roots make the adjoint module.
use Rattle.std.proofs.Common.{arith}
use Rattle.lie_const.specs.ConstantTables.{value_of}
use Rattle.lie_weight.specs.Kept.{kept_module}
use Rattle.lie_weight.proofs.Assembled.{adjoint_is, kept_is}
use Rattle.lie_weight.proofs.modules.Module.adjoint.Goals as goal

pub invariant_of-result : goal.invariant_of-result
invariant_of-result c =
    let d = c.args.datum.now in
    let v = kept_module (record { positive = c.m.result; weights = c.in_ok-weights.weights; powers = c.in_ok-powers.powers }) in
    kept_is d c.loaded.ensures (value_of c.args.consts.now) v c.m.ensures.value c.in_ok-weights.ensures c.in_ok-powers.ensures
    (let e = c.m.ensures in omega (arith, e))

pub returns : goal.returns
returns c =
    let d = c.args.datum.now in
    let v = kept_module (record { positive = c.m.result; weights = c.in_ok-weights.weights; powers = c.in_ok-powers.powers }) in
    adjoint_is d c.loaded.ensures (value_of c.args.consts.now) v c.m.ensures.value c.in_ok-weights.ensures c.in_ok-powers.ensures
