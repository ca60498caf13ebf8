-- What a group has, and what `Group::load` answers from what the calls that it makes answer.
use Rattle.std.proofs.Common.{subst}
use Rattle.lie_datum.specs.RootList.{RootDatum}
use Rattle.lie_const.specs.ConstantTables.{ConstantTable}
use Rattle.lie_const.specs.Modules.{Module}
use Rattle.lie_const.specs.Signs.{SignTable, eta_of}
use Rattle.lie_letters.specs.SignedFrames.{SignedFrame}
use Rattle.lie_identities.specs.declared.faults.AuditFault.{AuditFault}
use Rattle.lie_identities.specs.declared.faults.AuditFault.TheVariants as audit_fault
use Rattle.lie_identities.specs.Audit.{MeetsIdentities, IsAuditFault}
use Rattle.lie_identities.specs.Audited.{AuditedModule}
use Rattle.lie_group.specs.Groups.{GroupData, IsCarrierOf, IsAuditedFor, IsGroup, MeetsFrame, IsGroupFault, audits_fault}

-- ---- what a module is audited for
-- an audited module meets the identities of a frame that it is audited for
pub meets_frame : (f : SignedFrame) (a : AuditedModule) → IsAuditedFor f a → MeetsIdentities a.datum a.constants (eta_of a.signs) a.module → MeetsFrame f a.module
meets_frame f a h m =
    subst (λ (t : SignTable). MeetsIdentities f.datum f.constants (eta_of t) a.module) h.signs
    (subst (λ (c : ConstantTable). MeetsIdentities f.datum c (eta_of a.signs) a.module) h.constants
    (subst (λ (d : RootDatum). MeetsIdentities d a.constants (eta_of a.signs) a.module) h.datum m))

-- the carrier of a group meets the identities of its frame
pub carrier_meets : (g : GroupData) → IsGroup g → MeetsFrame g.frame g.carrier.module
carrier_meets g h = meets_frame g.frame g.carrier h.carrier.audited_for h.carrier.audited.meets

-- ---- faults
-- a fault of the audit of the carrier is one of the frame
pub audit_failed : (f : SignedFrame) (v : Module) (why : AuditFault) → IsCarrierOf f v → IsAuditFault f.datum f.constants (eta_of f.signs) v why → IsGroupFault f (audits_fault why)
audit_failed f v audit_fault.NoMemory p h = tt
audit_failed f v (audit_fault.Graded r k row col) p h = (v, p, h)
audit_failed f v (audit_fault.Large q) p h = (v, p, h)
audit_failed f v (audit_fault.Relation q row col et eu left right) p h = (v, p, h)
