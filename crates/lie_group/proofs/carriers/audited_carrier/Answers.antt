use Rattle.std.proofs.Common.{subst}
use Rattle.std.proofs.lemmas.Result.{err_from_is_err_and}
use Rattle.lie_const.specs.Signs.{eta_of}
use Rattle.lie_letters.specs.SignedFrames.{SignedFrame}
use Rattle.lie_identities.specs.Audit.{IsAuditFault}
use Rattle.lie_group.proofs.GroupLemmas.{audit_failed}
use Rattle.lie_group.proofs.carriers.audited_carrier.Goals as goal

pub audit-requires-clause-light : goal.audit-requires-clause-light
audit-requires-clause-light c =
    let f = c.args.frame.now in
    let h = c.in_ok-carrier.ensures in
    (c.carrier_is_light.ensures f.datum (eta_of f.signs) h.0 c.in_ok-carrier.carrier h.2).1

pub returns-in_err-audited : goal.returns-in_err-audited
returns-in_err-audited c =
    let v = c.in_ok-carrier.carrier in
    let why = c.in_err-audited.field-0.0 in
    let fault = subst (λ (z : SignedFrame). IsAuditFault z.datum z.constants (eta_of z.signs) v why) c.frame.view_is c.in_err-audited.ensures.audits in
    let p = err_from_is_err_and c.from_residual-in_err-audited.result c.from_residual-in_err-audited.ensures.1 in
    rw (p.1, p.2) (audit_failed c.args.frame.now v why c.in_ok-carrier.ensures fault)
