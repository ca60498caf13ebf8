-- An audited module, with what it is audited for, and the fault of a relation.
-- Own: an audited module keeps the datum, the constants and the signs, as clauses see them, and the cover lines that were added.
--
--   a module, and what it is audited for     AuditedModule
--   it is audited for that                   IsAudited a
--   the answer, as one of a module           audited_module result
use Rattle.std.specs.Prelude.{◌≡◌, Result, Ok, Err, ⊤}
use Rattle.lie_datum.specs.RootList.{RootDatum, IsLoaded}
use Rattle.lie_const.specs.ConstantTables.{ConstantTable}
use Rattle.lie_const.specs.Modules.{Module, IsModule}
use Rattle.lie_const.specs.Signs.{Signs, SignTable, eta_of}
use Rattle.lie_identities.specs.CoverLines.{CoverLines, AreCoverLines}
use Rattle.lie_identities.specs.declared.relations.Rel.{Rel}
use Rattle.lie_identities.specs.declared.faults.AuditFault.{AuditFault}
use Rattle.lie_identities.specs.declared.faults.AuditFault.TheVariants.{NoMemory, Graded, Large, Relation}
use Rattle.lie_identities.specs.Audit.{IsLarge, IsFirstDifferentEntry, left_matrix, right_matrix, MeetsIdentities, HasLightWeights}

-- a module with a datum, its constants and its signs, and lines that cover axes
pub record AuditedModule : Type 0 where
  pub «module» : Module
  pub datum : RootDatum
  pub constants : ConstantTable
  pub signs : SignTable
  pub lines : CoverLines

-- it is a module of the datum with small weights, and audited for the datum, the constants and the signs; its lines are cover lines
pub record IsAudited (a : AuditedModule) : Type 0 where
  pub loaded : IsLoaded a.datum
  pub shape : IsModule a.datum a.module
  pub light : HasLightWeights a.module
  pub meets : MeetsIdentities a.datum a.constants (eta_of a.signs) a.module
  pub cover : AreCoverLines a.datum a.module a.lines

-- the answer with the module alone
abbrev pub audited_module : Result AuditedModule AuditFault → Result Module AuditFault
audited_module (Ok a) = Ok a.module
audited_module (Err f) = Err f

-- the fault of a relation: it is large, or is not and has a first difference
abbrev pub IsRelationFault : RootDatum → ConstantTable → Signs → Module → Rel → AuditFault → Type 0
IsRelationFault d c eta v q NoMemory = ⊤
IsRelationFault d c eta v q (Graded r k row col) = ⊥
IsRelationFault d c eta v q (Large p) = (p ≡ q) × IsLarge d c eta v q
IsRelationFault d c eta v q (Relation p row col et eu left right) =
    (p ≡ q) × (¬ IsLarge d c eta v q) × IsFirstDifferentEntry (left_matrix d v q) (right_matrix d c eta v q) row col et eu left right
