-- The frame of a field and a root datum: what is demanded of the datum, and which demand fails first where there is no frame.
-- Source: Carter, Simple Groups of Lie Type, chapters 4 and 6. That a root datum meets the demands is Chevalley's theorem, on which
-- nothing here rests.
-- Own: the order of the demands, in which a fault is named.
--
--   each constant has its value, and each term is whole       HasAdjoint d v      v is the adjoint module
--   the signs are as they should be                           AreSigns d v (sign_entry d v)
--   each braid value of these signs is 1                      HasBraids d (sign_entry d v)
use Rattle.std.specs.Prelude.{◌≡◌, ◌≢◌, Result, Ok, Err, ⊤}
use Rattle.lie_field.specs.FiniteField.{FiniteField}
use Rattle.lie_datum.specs.RootList.{RootDatum, IsLoaded}
use Rattle.lie_const.specs.declared.faults.ConstFault.{ConstFault}
use Rattle.lie_const.specs.declared.faults.ConstFault.TheVariants as const_fault
use Rattle.lie_const.specs.ConstantTables.{ConstantTable, LoadsConstants, IsSameTable}
use Rattle.lie_const.specs.Modules.{Module}
use Rattle.lie_const.specs.Adjoint.{IsAdjointOf}
use Rattle.lie_const.specs.Signs.{AreSigns, IsFirstBadSign, sign_entry, HasSignCount}
use Rattle.lie_letters.specs.Braids.{IsFirstBadBraid}
use Rattle.lie_letters.specs.SignedFrames.{SignedFrame, IsLawfulSigned}
use Rattle.lie_audit.specs.declared.faults.SignFault.{SignFault}
use Rattle.lie_audit.specs.declared.faults.SignFault.TheVariants as sign_fault
use Rattle.lie_audit.specs.declared.faults.BraidFault.{BraidFault}
use Rattle.lie_group.specs.declared.faults.LoadFault.{LoadFault}
use Rattle.lie_group.specs.declared.faults.LoadFault.TheVariants.{NoMemory, Constant, Fraction, Sign, Braid}

-- g is the frame of the field f and the datum d: its constants stand for d, its signs are those of the adjoint module, one for each
-- simple index and each root, and each braid value is 1
pub record IsFrameOf (f : FiniteField) (d : RootDatum) (g : SignedFrame) : Type 0 where
  pub field : g.field ≡ f
  pub datum : g.datum ≡ d
  pub lawful : IsLawfulSigned g
  pub count : HasSignCount g.signs

-- each constant has its value, and each term is whole; v is the adjoint module that they make
pub record HasAdjoint (d : RootDatum) (v : Module) : Type 0 where
  pub table : ConstantTable
  pub constants : LoadsConstants d (Ok table)
  pub adjoint : IsAdjointOf d v

-- the cause of each fault: the demands before it are met, and it is the first place where its own fails. Want of memory has none, and
-- the faults of a carrier do not come
abbrev pub IsFrameFault : RootDatum → LoadFault → Type 0
IsFrameFault d NoMemory = ⊤
IsFrameFault d (Constant r s a e) = LoadsConstants d (Err (const_fault.Constant r s a e))
IsFrameFault d (Fraction r s i j) = LoadsConstants d (Err (const_fault.Fraction r s i j))
IsFrameFault d (Sign i s c) = (v : Module) × HasAdjoint d v × IsFirstBadSign d v i s c
IsFrameFault d (Braid i j c) = (v : Module) × HasAdjoint d v × AreSigns d v (sign_entry d v) × IsFirstBadBraid d (sign_entry d v) i j c
IsFrameFault d _ = ⊥

-- what `make_frame` answers for a field and a datum: their frame, or the first demand that the datum doesn't meet
abbrev pub MakesFrame : FiniteField → RootDatum → Result SignedFrame LoadFault → Type 0
MakesFrame f d (Ok g) = IsFrameOf f d g
MakesFrame f d (Err why) = IsFrameFault d why

-- two frames have one field, one datum and the same signs, and their constants say the same of each two roots
pub record IsSameFrame (g h : SignedFrame) : Type 0 where
  pub field : g.field ≡ h.field
  pub datum : g.datum ≡ h.datum
  pub constants : IsSameTable g.datum g.constants h.constants
  pub signs : g.signs ≡ h.signs

-- two answers are the same fault, or frames that say the same
abbrev pub IsSameAnswer : Result SignedFrame LoadFault → Result SignedFrame LoadFault → Type 0
IsSameAnswer (Ok g) (Ok h) = IsSameFrame g h
IsSameAnswer (Ok g) (Err why) = ⊥
IsSameAnswer (Err why) (Ok g) = ⊥
IsSameAnswer (Err why) (Err other) = why ≡ other

-- the cases of `MakesFrame` exclude one another: want of memory aside, a field and a loaded datum have one answer
abbrev pub MakesOneFrame : Type 0
MakesOneFrame = (f : FiniteField) (d : RootDatum) (x y : Result SignedFrame LoadFault) → IsLoaded d → MakesFrame f d x → MakesFrame f d y → x ≢ Err NoMemory → y ≢ Err NoMemory → IsSameAnswer x y

-- ---- faults of the crates below

-- a fault of the constants
abbrev pub constants_fault : ConstFault → LoadFault
constants_fault const_fault.NoMemory = NoMemory
constants_fault (const_fault.Constant r s a e) = Constant r s a e
constants_fault (const_fault.Fraction r s i j) = Fraction r s i j

-- a fault of the signs
abbrev pub signs_fault : SignFault → LoadFault
signs_fault sign_fault.NoMemory = NoMemory
signs_fault (sign_fault.Sign i s c) = Sign i s c

-- a fault of the braid values
abbrev pub braid_fault : BraidFault → LoadFault
braid_fault why = Braid why.i why.j why.value
