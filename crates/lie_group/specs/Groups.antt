-- A group that is loaded: a frame with its carrier, audited and covering; and what fails first where there is none.
-- Source: Steinberg, Lectures on Chevalley Groups, 6 (a group in which the relations hold is an image of the presented one).
-- Own: which module stands for the group, and the order in which a fault is named. That no fault but those of the size of the
-- carrier comes is Chevalley's theorem, on which nothing here rests.
--
--   a frame and its carrier                  GroupData, IsGroup g
--   v is the carrier of the frame f          IsCarrierOf f v          that of the datum, by the signs of the frame
--   a is audited for the frame f             IsAuditedFor f a         for the datum, the constants and the signs of f
use Rattle.std.specs.Prelude.{◌≡◌, ◌≢◌, Result, Ok, Err, ⊤}
use Rattle.lie_field.specs.FiniteField.{FiniteField}
use Rattle.lie_datum.specs.RootList.{RootDatum}
use Rattle.lie_const.specs.Modules.{Module}
use Rattle.lie_const.specs.Adjoint.{IsAdjointOf}
use Rattle.lie_const.specs.Signs.{eta_of}
use Rattle.lie_letters.specs.SignedFrames.{SignedFrame}
use Rattle.lie_weight.specs.Carriers.{LoadsCarrier}
use Rattle.lie_weight.specs.declared.faults.ModuleFault.{ModuleFault}
use Rattle.lie_weight.specs.declared.faults.ModuleFault.TheVariants as module_fault
use Rattle.lie_identities.specs.Audit.{MeetsIdentities, IsAuditFault}
use Rattle.lie_identities.specs.Audited.{AuditedModule, IsAudited}
use Rattle.lie_identities.specs.CoverLines.{no_lines}
use Rattle.lie_identities.specs.Covers.{IsCovering, IsFirstDead}
use Rattle.lie_identities.specs.declared.faults.AuditFault.{AuditFault}
use Rattle.lie_identities.specs.declared.faults.AuditFault.TheVariants as audit_fault
use Rattle.lie_group.specs.declared.faults.LoadFault.{LoadFault}
use Rattle.lie_group.specs.declared.faults.LoadFault.TheVariants.{NoMemory, CarrierWide, Heavy, Huge, Graded, Large, Relation, Dead}
use Rattle.lie_group.specs.Loading.{IsFrameOf, IsSameFrame}

-- a frame, and a module with what it is audited for
pub record GroupData : Type 0 where
  pub frame : SignedFrame
  pub carrier : AuditedModule

-- ---- a group
-- what `Module::carrier` answers for the datum and the signs of a frame
abbrev pub HasCarrierAnswer : SignedFrame → Result Module ModuleFault → Type 0
HasCarrierAnswer f x = (adjoint : Module) × IsAdjointOf f.datum adjoint × LoadsCarrier f.datum (eta_of f.signs) adjoint x

-- v is the carrier of the frame
abbrev pub IsCarrierOf : SignedFrame → Module → Type 0
IsCarrierOf f v = HasCarrierAnswer f (Ok v)

-- the module meets the identities, for the datum, the constants and the signs of the frame
abbrev pub MeetsFrame : SignedFrame → Module → Type 0
MeetsFrame f v = MeetsIdentities f.datum f.constants (eta_of f.signs) v

-- the module is audited for the datum, the constants and the signs of the frame
pub record IsAuditedFor (f : SignedFrame) (a : AuditedModule) : Type 0 where
  pub datum : a.datum ≡ f.datum
  pub constants : a.constants ≡ f.constants
  pub signs : a.signs ≡ f.signs

-- it is the carrier of the frame, audited for it, without cover lines
pub record IsAuditedCarrier (f : SignedFrame) (a : AuditedModule) : Type 0 where
  pub is_carrier : IsCarrierOf f a.module
  pub audited : IsAudited a
  pub audited_for : IsAuditedFor f a
  pub no_cover : a.lines ≡ no_lines

-- the frame is that of its field and datum; the module is its carrier, audited for it and covering over its field
pub record IsGroup (g : GroupData) : Type 0 where
  pub frame : IsFrameOf g.frame.field g.frame.datum g.frame
  pub carrier : IsAuditedCarrier g.frame g.carrier
  pub covering : IsCovering g.frame.field g.frame.datum g.carrier.module g.carrier.lines

-- ---- why there is none
-- the fault is that of the audit of the carrier
abbrev pub HasAuditFault : SignedFrame → AuditFault → Type 0
HasAuditFault f why = (v : Module) × IsCarrierOf f v × IsAuditFault f.datum f.constants (eta_of f.signs) v why

-- the cause of each fault: there is no carrier; or there is one, and it fails in the audit; or it passes, and is not live over the field.
-- Want of memory has none, and the faults of a frame do not come
abbrev pub IsGroupFault : SignedFrame → LoadFault → Type 0
IsGroupFault f NoMemory = ⊤
IsGroupFault f (CarrierWide n) = HasCarrierAnswer f (Err (module_fault.Wide n))
IsGroupFault f (Heavy a) = HasCarrierAnswer f (Err (module_fault.Heavy a))
IsGroupFault f (Huge r k) = HasCarrierAnswer f (Err (module_fault.Huge r k))
IsGroupFault f (Graded r k row col) = HasAuditFault f (audit_fault.Graded r k row col)
IsGroupFault f (Large q) = HasAuditFault f (audit_fault.Large q)
IsGroupFault f (Relation q row col et eu left right) = HasAuditFault f (audit_fault.Relation q row col et eu left right)
IsGroupFault f (Dead r) = (v : Module) × IsCarrierOf f v × MeetsFrame f v × IsFirstDead f.field f.datum v r
IsGroupFault f _ = ⊥

-- ---- the answers
-- what `Group::load` answers for a frame: the group of this frame, or the first fault
abbrev pub LoadsGroup : SignedFrame → Result GroupData LoadFault → Type 0
LoadsGroup f (Ok g) = (g.frame ≡ f) × IsGroup g
LoadsGroup f (Err why) = IsGroupFault f why

-- two groups have frames that say the same, and one carrier
pub record IsSameGroup (g h : GroupData) : Type 0 where
  pub frame : IsSameFrame g.frame h.frame
  pub carrier : g.carrier.module ≡ h.carrier.module

-- two answers are the same fault, or groups that say the same
abbrev pub IsSameGroupAnswer : Result GroupData LoadFault → Result GroupData LoadFault → Type 0
IsSameGroupAnswer (Ok g) (Ok h) = IsSameGroup g h
IsSameGroupAnswer (Ok g) (Err why) = ⊥
IsSameGroupAnswer (Err why) (Ok g) = ⊥
IsSameGroupAnswer (Err why) (Err other) = why ≡ other

-- the cases of `LoadsGroup` exclude one another: want of memory aside, the frames of a field and a datum have one answer
abbrev pub LoadsOneGroup : Type 0
LoadsOneGroup = (f : FiniteField) (d : RootDatum) (g h : SignedFrame) (x y : Result GroupData LoadFault) → IsFrameOf f d g → IsFrameOf f d h
    → LoadsGroup g x → LoadsGroup h y → x ≢ Err NoMemory → y ≢ Err NoMemory → IsSameGroupAnswer x y

-- ---- faults of the crates below
-- a fault of the audit
abbrev pub audits_fault : AuditFault → LoadFault
audits_fault audit_fault.NoMemory = NoMemory
audits_fault (audit_fault.Graded r k row col) = Graded r k row col
audits_fault (audit_fault.Large q) = Large q
audits_fault (audit_fault.Relation q row col et eu left right) = Relation q row col et eu left right
