use Rattle.std.proofs.Common.{Ok, subst}
use Rattle.lie_const.specs.Adjoint.{IsAdjoint}
use Rattle.lie_const.specs.ConstantTables.{value_of}
use Rattle.lie_const.specs.Signs.{eta_of}
use Rattle.lie_letters.specs.SignedFrames.{SignedFrame}
use Rattle.lie_weight.specs.Carriers.{LoadsCarrier}
use Rattle.lie_group.proofs.carriers.carrier.Goals as goal

pub returns-in-Ok : goal.returns-in-Ok
returns-in-Ok c =
    let f = c.args.frame.now in
    let a = c.in_ok-adjoint.adjoint in
    let is_adjoint = subst (λ (z : SignedFrame). IsAdjoint z.datum (value_of z.constants) a) c.frame.view_is c.in_ok-adjoint.ensures in
    let loads = subst (λ (z : SignedFrame). LoadsCarrier z.datum (eta_of z.signs) a (Ok c.in-Ok.carrier)) c.frame.view_is c.in-Ok.ensures in
    (a, (value_of f.constants, c.lawful.ensures.lawful.constants.1, is_adjoint), loads)
