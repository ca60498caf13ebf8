-- What a script has brought where a group is loaded, and what the replies to `matrix` are.
-- Source: Steinberg, Lectures on Chevalley Groups, 2 (lattices with divided powers); Carter, Simple Groups of Lie Type, 4.2 (structure constants) and chapter 6 (n_i).
-- Own: the statements.
--
--   the frame of the group   IsFrameOf             the datum meets the axioms, its constants load, its signs are those of the adjoint module,
--                                                  all as they should be, and each braid value is 1
--   a built module           IsBuilt               the adjoint module, that of the orbit of a minuscule weight or of a table, or the sum, the tensor
--                                                  product or the dual of built modules
use Rattle.std.specs.Prelude.{◌≡◌, ◌≤◌, ◌↔◌, ℕ, ℤ, List, length, Some, Ok}
use Rattle.std.specs.List.{All, AllByRecursion}
use Rattle.std.specs.Option.{IfSome}
use Rattle.lie_audit.specs.WordMatrix.{word_matrix, IsWordFor}
use Rattle.lie_const.specs.Adjoint.{IsAdjointOf}
use Rattle.lie_const.specs.Modules.{Module}
use Rattle.lie_const.specs.Signs.{eta_of}
use Rattle.lie_datum.specs.RootDatum.{IsWithin}
use Rattle.lie_datum.specs.RootList.{RootDatum}
use Rattle.lie_datum.specs.Vectors.{Vector}
use Rattle.lie_field.specs.Faults.{IsWithinLimit}
use Rattle.lie_group.specs.Groups.{IsCarrierOf, MeetsFrame}
use Rattle.lie_group.specs.Loading.{IsFrameOf}
use Rattle.lie_identities.specs.CoverLines.{no_lines, AreCoverLines}
use Rattle.lie_identities.specs.Covers.{IsCovering}
use Rattle.lie_letters.specs.GroupSpelled.{JoinedInGroup}
use Rattle.lie_letters.specs.SignedFrames.{SignedFrame}
use Rattle.lie_letters.specs.declared.letter.Letter.{Letter}
use Rattle.lie_reply.specs.Modules.{matrix_text}
use Rattle.lie_script.specs.Reading.{reads}
use Rattle.lie_script.specs.declared.line.Line.TheVariants as line
use Rattle.lie_weight.specs.Duals.{IsDual}
use Rattle.lie_weight.specs.OrbitFaults.{LoadsOrbit}
use Rattle.lie_weight.specs.Sums.{LoadsSum}
use Rattle.lie_weight.specs.Tables.{IsEntry, LoadsTable}
use Rattle.lie_weight.specs.Tensors.{LoadsTensor}
use Rattle.lie_weight.specs.declared.entry.Entry.{Entry}
use Rattle.lie_session.specs.DatumLines.{padded}
use Rattle.lie_session.specs.Held.{LoadedGroup, IsBlockOf}
use Rattle.lie_session.specs.Named.{named_at, module_of, listed_of, HasDistinctNames}
use Rattle.lie_session.specs.Output.{RepliesTo}
use Rattle.lie_session.specs.Replies.{Accepts, Replies, SaysLine}
use Rattle.lie_session.specs.State.{State, fresh, group_of, modules_of, wants_of, sizes_of}
use Rattle.lie_session.specs.declared.mode.Mode.{Mode}
use Rattle.lie_session.specs.declared.reply.Reply.{Reply}
use Rattle.lie_session.specs.declared.stage.Stage.TheVariants as stage

-- weights and entries that a table may have: 1 to 300 weights within 1,000, and at most 20,000 entries
pub record IsTable (d : RootDatum) (ws : List Vector) (es : List Entry) : Type 0 where
  pub some : 1 ≤ length ws
  pub few : length ws ≤ 300
  pub weights : All (IsWithin 1000) ws
  pub count : length es ≤ 20000
  pub entries : All (IsEntry d (length ws)) es

-- the module is the adjoint module of the datum of the frame, or that of the orbit of a weight or of a table by its signs; or it is the sum,
-- the tensor product or the dual of such modules
pub data IsBuilt (f : SignedFrame) : Module → Type 0 where
  adjoint_module : (v : Module) → IsAdjointOf f.datum v → IsBuilt f v
  orbit_module : (w : List ℤ) (v : Module) → length w ≡ f.datum.base.dim → LoadsOrbit f.datum (eta_of f.signs) (padded w) (Ok v) → IsBuilt f v
  table_module : (ws : List Vector) (es : List Entry) (v : Module) → IsTable f.datum ws es → LoadsTable f.datum (eta_of f.signs) ws es (Ok v) → IsBuilt f v
  sum_module : (a b v : Module) → IsBuilt f a → IsBuilt f b → LoadsSum f.datum a b (Ok v) → IsBuilt f v
  tensor_module : (a b v : Module) → IsBuilt f a → IsBuilt f b → LoadsTensor f.datum a b (Ok v) → IsBuilt f v
  dual_module : (a v : Module) → IsBuilt f a → IsDual f.datum a v → IsBuilt f v

-- A group is loaded: its frame is that of a field within the limits and a datum, its carrier meets the identities and covers over the
-- field. Each named module is built from the frame and meets the identities, each of its cover lines is a combination of its weights for the axis
-- of the line, its name finds it, and no two have one name.
-- Where a block is being read, it is one on a named module that covers.
pub record HasGroup (g : LoadedGroup) : Type 0 where
  pub sized : IsWithinLimit g.frame.field.given
  pub frame : IsFrameOf g.frame.field g.frame.datum g.frame
  pub carrier : IsCarrierOf g.frame g.carrier
  pub audited : MeetsFrame g.frame g.carrier
  pub covering : IsCovering g.frame.field g.frame.datum g.carrier no_lines
  pub built : AllByRecursion (λ e. IsBuilt g.frame e.1.module) g.modules
  pub met : AllByRecursion (λ e. MeetsFrame g.frame e.1.module) g.modules
  pub lines : AllByRecursion (λ e. AreCoverLines g.frame.datum e.1.module e.1.lines) g.modules
  pub found : AllByRecursion (λ e. named_at g.modules e.0 ≡ Some e.1) g.modules
  pub distinct : HasDistinctNames g.modules
  pub block : IfSome g.block (IsBlockOf g.frame g.modules)

-- in each state that a script leads to, a loaded group is one
abbrev pub GroupsAreLoaded : Type 0
GroupsAreLoaded =
    (mode : Mode) (lines : List (List ℕ)) (replies : List Reply) (s : State) → RepliesTo mode fresh 0 lines replies s → IfSome (group_of s.stage) HasGroup

-- the name is that of a built module of a loaded group, and w is a word of the group; the reply to the line is an answer with the rows of
-- the product of the matrices of the letters on the module, over the field, and leaves the state as it is
pub record AnswersProduct (s : State) (n : ℕ) (bytes name : List ℕ) (w : List Letter) : Type 0 where
  pub group : LoadedGroup
  pub stage_is : s.stage ≡ stage.Loaded group
  pub loaded : HasGroup group
  pub word : IsWordFor group.frame.field group.frame.datum w
  pub acted_on : Module
  pub named : module_of group.modules name ≡ Some acted_on
  pub built : IsBuilt group.frame acted_on
  pub met : MeetsFrame group.frame acted_on
  pub answers : (reply : Reply) (next : State) → Replies s n bytes reply next ↔ Accepts s (Some (matrix_text (word_matrix group.frame.field acted_on w))) reply next

-- in each state that a script leads to, each line that asks for the matrix of a word is answered so
abbrev pub MatricesAreProducts : Type 0
MatricesAreProducts =
    (mode : Mode) (lines : List (List ℕ)) (replies : List Reply) (s : State) (n : ℕ) (bytes name : List ℕ) (w : List Letter) → RepliesTo mode fresh 0 lines replies s
    → reads (wants_of s.stage) (sizes_of s.stage) (listed_of (modules_of s.stage)) bytes ≡ Ok (line.Matrix name w) → AnswersProduct s n bytes name w

-- in a state that a script leads to, two lines that ask for the matrices of joined words on one module have equal replies
abbrev pub JoinedWordsHaveOneMatrix : Type 0
JoinedWordsHaveOneMatrix =
    (mode : Mode) (lines : List (List ℕ)) (replies : List Reply) (s : State) (g : LoadedGroup) (n m : ℕ) (bytes other name : List ℕ) (w v : List Letter) (a b : Reply) (next after : State)
    → RepliesTo mode fresh 0 lines replies s → s.stage ≡ stage.Loaded g → SaysLine s bytes (line.Matrix name w) → SaysLine s other (line.Matrix name v)
    → JoinedInGroup g.frame w v → Replies s n bytes a next → Replies s m other b after → a ≡ b
