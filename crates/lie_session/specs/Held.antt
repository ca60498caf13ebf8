-- What a session holds of a group: before `load` its field and its datum, and after it the group itself.
-- Own.
--
--   a block       the rows of a matrix, or the lines of a table, that were read
use Rattle.std.specs.Prelude.{◌≡◌, ◌<◌, ◌≤◌, ℕ, List, [], false, length, Option, Some, None}
use Rattle.std.specs.List.{All, AllByRecursion}
use Rattle.std.specs.Option.{IfSome}
use Rattle.lie_const.specs.Modules.{Module, dimension}
use Rattle.lie_datum.specs.RootDatum.{IsWithin}
use Rattle.lie_datum.specs.RootList.{RootDatum}
use Rattle.lie_field.specs.FiniteField.{FiniteField}
use Rattle.lie_field.specs.Quotient.{order}
use Rattle.lie_group.specs.Groups.{IsAuditedFor}
use Rattle.lie_identities.specs.Covers.{IsCovering}
use Rattle.lie_letters.specs.SignedFrames.{SignedFrame}
use Rattle.lie_weight.specs.Tables.{IsEntry}
use Rattle.lie_session.specs.Blocks.{Rows, TableLines, is_whole_table}
use Rattle.lie_session.specs.Named.{NamedModule, Named, Audits, named_of, named_at, module_of}
use Rattle.lie_session.specs.declared.block.Block.{Block}
use Rattle.lie_session.specs.declared.block.Block.TheVariants as block

-- the field and the datum of a group that may be loaded
pub record Setting : Type 0 where
  pub field : FiniteField
  pub datum : RootDatum

-- a loaded group: its frame, its carrier, its named modules, and the block that is being read, where one is
pub record LoadedGroup : Type 0 where
  pub frame : SignedFrame
  pub carrier : Module
  pub modules : Named
  pub block : Option Block

-- the group without its block
abbrev pub without_block : LoadedGroup → LoadedGroup
without_block g = record g { block = None }

-- the rows that are read, where a matrix is
abbrev pub rows_in : Option Block → Option Rows
rows_in None = None
rows_in (Some (block.Rows b)) = Some b
rows_in (Some (block.Table t)) = None

-- the table that is read, where one is
abbrev pub table_in : Option Block → Option TableLines
table_in None = None
table_in (Some (block.Rows b)) = None
table_in (Some (block.Table t)) = Some t

-- n elements of the field
abbrev pub IsRow : FiniteField → ℕ → List ℕ → Type 0
IsRow F n row = (length row ≡ n) × AllByRecursion (λ a. a < order F.given) row

-- the rows are on a named module that covers over the field, with its cover lines; each has an element for each basis vector, and a row is
-- missing
pub record AreRowsOf (f : SignedFrame) (modules : Named) (b : Rows) : Type 0 where
  pub acted_on : NamedModule
  pub named : named_at modules b.name ≡ Some acted_on
  pub covering : IsCovering f.field f.datum acted_on.module acted_on.lines
  pub rows : AllByRecursion (IsRow f.field (dimension acted_on.module)) b.rows
  pub few : length b.rows < dimension acted_on.module

-- the lines are of a table with a new name: 1 to 300 weights within 1,000, and behind them at most 20,000 entries, as they may be
pub record AreTableLines (f : SignedFrame) (modules : Named) (t : TableLines) : Type 0 where
  pub free : module_of modules t.name ≡ None
  pub some : 1 ≤ t.width
  pub narrow : t.width ≤ 300
  pub limit : t.count ≤ 20000
  pub weights : All (IsWithin 1000) t.weights
  pub entries : All (IsEntry f.datum t.width) t.entries
  pub few_weights : length t.weights ≤ t.width
  pub few_entries : length t.entries ≤ t.count
  pub in_order : length t.weights < t.width → t.entries ≡ []

-- and a line is missing
pub record IsTableOf (f : SignedFrame) (modules : Named) (t : TableLines) : Type 0 where
  pub lines : AreTableLines f modules t
  pub missing : is_whole_table t ≡ false

-- a block is one of these
abbrev pub IsBlockOf : SignedFrame → Named → Block → Type 0
IsBlockOf f modules (block.Rows b) = AreRowsOf f modules b
IsBlockOf f modules (block.Table t) = IsTableOf f modules t

-- what the code keeps of named modules and a block: the modules are audited for the frame, and the block is one of theirs
pub record IsKept (f : SignedFrame) (entries : Audits) (o : Option Block) : Type 0 where
  pub audited : AllByRecursion (λ e. IsAuditedFor f e.1) entries
  pub block : IfSome o (IsBlockOf f (named_of entries))
