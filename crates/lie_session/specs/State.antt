-- What a session holds between lines.
-- Own.
--
--   a stage         what was accepted so far, and with it the kind of line that is awaited
--   field_of        the field, once it was accepted
--   datum_of        the datum, once all its lines were accepted
--   group_of        the group, once it is loaded
--   dropped         without the block that was being read
use Rattle.std.specs.Prelude.{ℕ, Bool, true, false, if◌then◌else◌, nat_eq, [], length, is_none, Option, Some, None}
use Rattle.lie_const.specs.Modules.{Module, dimension}
use Rattle.lie_datum.specs.RootDatum.{rank}
use Rattle.lie_datum.specs.RootList.{RootDatum}
use Rattle.lie_field.specs.FiniteField.{FiniteField}
use Rattle.lie_field.specs.Quotient.{order}
use Rattle.lie_script.specs.declared.sizes.Sizes.{Sizes}
use Rattle.lie_script.specs.declared.sizes.Wants.{Wants}
use Rattle.lie_script.specs.declared.sizes.Wants.TheVariants as wants
use Rattle.lie_session.specs.DatumLines.{datum_wants}
use Rattle.lie_session.specs.Blocks.{table_wants}
use Rattle.lie_session.specs.Held.{LoadedGroup, without_block}
use Rattle.lie_session.specs.Named.{Named, module_of}
use Rattle.lie_session.specs.declared.block.Block.{Block}
use Rattle.lie_session.specs.declared.block.Block.TheVariants as block
use Rattle.lie_session.specs.declared.stage.Stage.{Stage}
use Rattle.lie_session.specs.declared.stage.Stage.TheVariants as stage
use Rattle.lie_session.specs.declared.status.Status.{Status}
use Rattle.lie_session.specs.declared.status.Status.TheVariants.{Done, Refused, LoadRefused}

-- a session between two lines
pub record State : Type 0 where
  -- what was accepted so far
  pub stage : Stage
  -- the replies of kind `Refused`, at most the last value of u64
  pub refusals : ℕ
  -- whether no line is replied to any more
  pub ended : Bool

-- a session that has read nothing
abbrev pub fresh : State
fresh = record { stage = stage.Field; refusals = 0; ended = false }

-- the field, once it was accepted
abbrev pub field_of : Stage → Option FiniteField
field_of stage.Field = None
field_of (stage.Datum F) = Some F
field_of (stage.Lines F lines) = Some F
field_of (stage.Load setting) = Some setting.field
field_of (stage.Loaded g) = Some g.frame.field

-- the datum, once all its lines were accepted
abbrev pub datum_of : Stage → Option RootDatum
datum_of (stage.Load setting) = Some setting.datum
datum_of (stage.Loaded g) = Some g.frame.datum
datum_of _ = None

-- the group, once it is loaded
abbrev pub group_of : Stage → Option LoadedGroup
group_of (stage.Loaded g) = Some g
group_of _ = None

-- whether a group is loaded
abbrev pub is_loaded : Stage → Bool
is_loaded (stage.Loaded g) = true
is_loaded _ = false

-- the named modules: before `load` no module has a name
abbrev pub modules_of : Stage → Named
modules_of (stage.Loaded g) = g.modules
modules_of _ = []

-- a row is awaited behind `reduce`, a weight or an entry in a table, and a command outside of a block
abbrev pub block_wants : Option Block → Wants
block_wants None = wants.Command
block_wants (Some (block.Rows b)) = wants.Row
block_wants (Some (block.Table t)) = table_wants t

-- what is awaited: the field, the line `datum`, the simple roots and coroots, `load`, and then commands, or the lines of a block
abbrev pub wants_of : Stage → Wants
wants_of stage.Field = wants.Field
wants_of (stage.Datum F) = wants.Datum
wants_of (stage.Lines F lines) = datum_wants lines
wants_of (stage.Load setting) = wants.Load
wants_of (stage.Loaded g) = block_wants g.block

-- the number of coordinates, 0 where there is none
abbrev pub dim_of : Stage → ℕ
dim_of (stage.Lines F lines) = lines.dim
dim_of (stage.Load setting) = setting.datum.base.dim
dim_of (stage.Loaded g) = g.frame.datum.base.dim
dim_of _ = 0

-- the number of simple roots, 0 where there is none
abbrev pub rank_of : Stage → ℕ
rank_of (stage.Lines F lines) = lines.rank
rank_of (stage.Load setting) = rank setting.datum.base
rank_of (stage.Loaded g) = rank g.frame.datum.base
rank_of _ = 0

-- the number of positive roots, 0 where they aren't known
abbrev pub count_of : Option RootDatum → ℕ
count_of None = 0
count_of (Some D) = length D.positive

-- the number of elements, 0 where there is no field
abbrev pub order_of : Option FiniteField → ℕ
order_of None = 0
order_of (Some F) = order F.given

-- the dimension of a module, 0 where there is none
abbrev pub dimension_of : Option Module → ℕ
dimension_of None = 0
dimension_of (Some v) = dimension v

-- the dimension of the module of a block, which a table will have, 0 outside
abbrev pub block_dim : Named → Option Block → ℕ
block_dim modules None = 0
block_dim modules (Some (block.Rows b)) = dimension_of (module_of modules b.name)
block_dim modules (Some (block.Table t)) = t.width

-- the dimension of the block, 0 where none is read
abbrev pub width_of : Stage → ℕ
width_of (stage.Loaded g) = block_dim g.modules g.block
width_of _ = 0

-- the sizes that a line is read with
abbrev pub sizes_of : Stage → Sizes
sizes_of at = record {
  d = dim_of at;
  l = rank_of at;
  m = count_of (datum_of at);
  q = order_of (field_of at);
  dim = width_of at;
  loaded = is_loaded at;
}

-- whether the input may end: a group is loaded, and no block is being read
abbrev pub may_end : Stage → Bool
may_end (stage.Loaded g) = is_none g.block
may_end _ = false

-- the stage without the block that was being read
abbrev pub dropped : Stage → Stage
dropped (stage.Loaded g) = stage.Loaded (without_block g)
dropped at = at

-- the status that a state tells after the last reply
abbrev pub ended_status : State → Status
ended_status s = if is_loaded s.stage then (if nat_eq s.refusals 0 then Done else Refused) else LoadRefused
