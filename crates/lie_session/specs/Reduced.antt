-- What the replies to `reduce` and to the rows behind it are: the form of each word that has the matrix, or the refusal that no word has it.
-- Source: Carter, Simple Groups of Lie Type, 8.4.4 (each element has one canonical form); Steinberg, Lectures on Chevalley Groups, 3 (a module whose weights span
-- the lattice is faithful).
-- Own: the statements; the matrix is given row by row.
use Rattle.std.specs.Prelude.{◌≡◌, ◌⊎◌, ◌↔◌, ◌<◌, ℕ, ℤ, true, false, List, [], length, Option, Some, None, codes}
use Rattle.std.specs.List.{AllByRecursion}
use Rattle.lie_audit.specs.WordMatrix.{word_matrix}
use Rattle.lie_const.specs.Modules.{Module, dimension}
use Rattle.lie_field.specs.FiniteField.{FiniteField}
use Rattle.lie_field.specs.Quotient.{order}
use Rattle.lie_group.specs.Groups.{MeetsFrame}
use Rattle.lie_identities.specs.Covers.{IsCovering, IsCoverFault}
use Rattle.lie_identities.specs.declared.covering.CoverFault.{CoverFault}
use Rattle.lie_letters.specs.SignedFrames.{SignedFrame, unsigned}
use Rattle.lie_letters.specs.Spelled.{IsWordOver}
use Rattle.lie_letters.specs.declared.letter.Letter.{Letter}
use Rattle.lie_reduce.specs.Reduction.{HasFormMatrix, IsNoWordMatrix}
use Rattle.lie_reply.specs.Commands.{TellsForm}
use Rattle.lie_ring.specs.Matrices.{Matrix}
use Rattle.lie_script.specs.Texts.{refusal, name_of}
use Rattle.lie_script.specs.declared.faults.FaultName.TheVariants as fault
use Rattle.lie_script.specs.declared.line.Line.TheVariants as line
use Rattle.lie_unip.specs.Forms.{FormData}
use Rattle.lie_session.specs.Faults.{cover_words}
use Rattle.lie_session.specs.Blocks.{Rows, begun, with_row}
use Rattle.lie_session.specs.Held.{LoadedGroup, without_block}
use Rattle.lie_session.specs.Loaded.{IsBuilt, HasGroup}
use Rattle.lie_session.specs.Named.{NamedModule, named_at}
use Rattle.lie_session.specs.Outcomes.{is_full, matrix_of}
use Rattle.lie_session.specs.Output.{RepliesTo}
use Rattle.lie_session.specs.Printed.{Prints}
use Rattle.lie_session.specs.Replies.{Accepts, Refuses, Replies, SaysLine}
use Rattle.lie_session.specs.State.{State, fresh}
use Rattle.lie_session.specs.declared.block.Block.TheVariants as block
use Rattle.lie_session.specs.declared.mode.Mode.{Mode}
use Rattle.lie_session.specs.declared.reply.Reply.{Reply}
use Rattle.lie_session.specs.declared.stage.Stage.TheVariants as stage

-- the state in which this group is loaded
abbrev pub at_group : State → LoadedGroup → State
at_group s g = record s { stage = stage.Loaded g }

-- ---- the line `reduce`

-- the module covers over the field, with its cover lines, the reply is silent, and a block on it is begun; or it does not cover, and the reply is the refusal for
-- the first root, else the first axis, at which this fails
abbrev pub BeginsOrRefuses : State → ℕ → LoadedGroup → List ℕ → NamedModule → Reply → State → Type 0
BeginsOrRefuses s n g name v reply next =
    (IsCovering g.frame.field g.frame.datum v.module v.lines × Accepts (at_group s (record g { block = Some (block.Rows (begun name)) })) None reply next)
    ⊎ ((why : CoverFault) × IsCoverFault g.frame.field g.frame.datum v.module v.lines why × Refuses s (refusal n (cover_words why).0 (cover_words why).1) reply next)

-- the name is that of a built module of a loaded group in which no block is read, and the replies to the line are these
pub record AnswersReduce (s : State) (n : ℕ) (bytes name : List ℕ) : Type 0 where
  pub group : LoadedGroup
  pub stage_is : s.stage ≡ stage.Loaded group
  pub loaded : HasGroup group
  pub outside : group.block ≡ None
  pub acted_on : NamedModule
  pub named : named_at group.modules name ≡ Some acted_on
  pub built : IsBuilt group.frame acted_on.module
  pub met : MeetsFrame group.frame acted_on.module
  pub answers : (reply : Reply) (next : State) → Replies s n bytes reply next ↔ BeginsOrRefuses s n group name acted_on reply next

-- in each state that a script leads to, each line `reduce` is answered so
abbrev pub BlocksAreCovering : Type 0
BlocksAreCovering =
    (mode : Mode) (lines : List (List ℕ)) (replies : List Reply) (s : State) (n : ℕ) (bytes name : List ℕ) →
    RepliesTo mode fresh 0 lines replies s → SaysLine s bytes (line.Reduce name) → AnswersReduce s n bytes name

-- ---- the rows

-- The reply is the text of a form whose word has the matrix M on the module v; or no word has this matrix, and the reply is the refusal `outside`.
-- Either way no block is left.
abbrev pub PrintsOrIsOutside : State → ℕ → LoadedGroup → Module → Matrix ℕ → Reply → State → Type 0
PrintsOrIsOutside s n g v M reply next =
    ((x : FormData) × HasFormMatrix g.frame v x M × (text : List ℕ) × TellsForm g.frame.datum x text × Accepts (at_group s (without_block g)) (Some text) reply next)
    ⊎ (IsNoWordMatrix g.frame v M × Refuses s (refusal n (name_of fault.Outside) []) reply next)

-- M is reduced: its replies are the text of a form whose word has it, or the refusal that no word has it; there is no other such form; and for
-- each word that has it, the reply is the text of a form of this word.
pub record Reduces (s : State) (n : ℕ) (bytes : List ℕ) (g : LoadedGroup) (v : Module) (M : Matrix ℕ) : Type 0 where
  pub answers : (reply : Reply) (next : State) → Replies s n bytes reply next ↔ PrintsOrIsOutside s n g v M reply next
  pub unique : (x y : FormData) → HasFormMatrix g.frame v x M → HasFormMatrix g.frame v y M → x ≡ y
  pub words : (w : List Letter) → IsWordOver (unsigned g.frame) w → word_matrix g.frame.field v w ≡ M
      → (reply : Reply) (next : State) → Replies s n bytes reply next ↔ Prints (at_group s (without_block g)) g.frame w reply next

-- Rows are read in a loaded group. Their module is a built one that covers, and the row that the line gives joins the rows before it: until they are
-- as many as the module has basis vectors the reply is silent, and then the matrix of the rows is reduced.
pub record AnswersRow (s : State) (n : ℕ) (bytes : List ℕ) (row : List ℤ) : Type 0 where
  pub group : LoadedGroup
  pub stage_is : s.stage ≡ stage.Loaded group
  pub loaded : HasGroup group
  pub before : Rows
  pub inside : group.block ≡ Some (block.Rows before)
  pub acted_on : NamedModule
  pub named : named_at group.modules before.name ≡ Some acted_on
  pub built : IsBuilt group.frame acted_on.module
  pub met : MeetsFrame group.frame acted_on.module
  pub covering : IsCovering group.frame.field group.frame.datum acted_on.module acted_on.lines
  pub more : is_full acted_on.module (with_row before row) ≡ false
      → (reply : Reply) (next : State) → Replies s n bytes reply next ↔ Accepts (at_group s (record group { block = Some (block.Rows (with_row before row)) })) None reply next
  pub last : is_full acted_on.module (with_row before row) ≡ true
      → Reduces s n bytes group acted_on.module (matrix_of (dimension acted_on.module) (with_row before row).rows)

-- in each state that a script leads to, each row is answered so
abbrev pub MatricesAreReduced : Type 0
MatricesAreReduced =
    (mode : Mode) (lines : List (List ℕ)) (replies : List Reply) (s : State) (n : ℕ) (bytes : List ℕ) (row : List ℤ) →
    RepliesTo mode fresh 0 lines replies s → SaysLine s bytes (line.Row row) → AnswersRow s n bytes row
