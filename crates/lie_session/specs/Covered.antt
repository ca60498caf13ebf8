-- What the replies to `cover` are: the line is kept where its combination of the weights is the unit vector of its axis, or it is refused for the
-- first coordinate that differs.
-- Own.
use Rattle.std.specs.Prelude.{◌≡◌, ◌⊎◌, ◌↔◌, ℕ, ◌≤◌, ℤ, List, length, Option, Some, None}
use Rattle.lie_const.specs.Modules.{dimension}
use Rattle.lie_datum.specs.RootDatum.{IsWithin}
use Rattle.lie_identities.specs.CoverLines.{with_line, IsCombination, IsFirstDifferentCoordinate}
use Rattle.lie_identities.specs.declared.cover_lines.CoverSum.{CoverSum}
use Rattle.lie_reply.specs.Modules.{covered_text}
use Rattle.lie_script.specs.Texts.{refusal}
use Rattle.lie_script.specs.declared.line.Line.TheVariants as line
use Rattle.lie_session.specs.Faults.{sum_words}
use Rattle.lie_session.specs.Held.{LoadedGroup}
use Rattle.lie_session.specs.Loaded.{IsBuilt, HasGroup}
use Rattle.lie_session.specs.Named.{NamedModule, named_at}
use Rattle.lie_session.specs.Outcomes.{with_lines}
use Rattle.lie_session.specs.Output.{RepliesTo}
use Rattle.lie_session.specs.Reduced.{at_group}
use Rattle.lie_session.specs.Replies.{Accepts, Refuses, Replies, SaysLine}
use Rattle.lie_session.specs.State.{State, fresh}
use Rattle.lie_session.specs.declared.mode.Mode.{Mode}
use Rattle.lie_session.specs.declared.reply.Reply.{Reply}
use Rattle.lie_session.specs.declared.stage.Stage.TheVariants as stage

-- the combination c of the weights of v is e_j, the reply tells the name and the axis, and c is the line of the axis from then on, in place of an earlier
-- one; or the reply is the refusal for the first coordinate at which the combination is not e_j, with what it has there
abbrev pub KeepsOrRefuses : State → ℕ → LoadedGroup → List ℕ → NamedModule → ℕ → List ℤ → Reply → State → Type 0
KeepsOrRefuses s n g name v j c reply next =
    (IsCombination v.module j c × Accepts (at_group s (with_lines g name v (with_line v.lines j c))) (Some (covered_text name j)) reply next)
    ⊎ ((why : CoverSum) × IsFirstDifferentCoordinate v.module j c why.axis why.value × Refuses s (refusal n (sum_words why).0 (sum_words why).1) reply next)

-- the name is that of a built module of a loaded group in which no block is read, j is an axis, c has a number for each weight, and the replies to
-- the line are these
pub record AnswersCover (s : State) (n : ℕ) (bytes name : List ℕ) (j : ℕ) (c : List ℤ) : Type 0 where
  pub group : LoadedGroup
  pub stage_is : s.stage ≡ stage.Loaded group
  pub loaded : HasGroup group
  pub outside : group.block ≡ None
  pub acted_on : NamedModule
  pub named : named_at group.modules name ≡ Some acted_on
  pub built : IsBuilt group.frame acted_on.module
  pub axis : (1 ≤ j) × (j ≤ group.frame.datum.base.dim)
  pub count : length c ≡ dimension acted_on.module
  pub small : IsWithin 1000000 c
  pub answers : (reply : Reply) (next : State) → Replies s n bytes reply next ↔ KeepsOrRefuses s n group name acted_on j c reply next

-- in each state that a script leads to, each line `cover` is answered so
abbrev pub CoverLinesAreKept : Type 0
CoverLinesAreKept =
    (mode : Mode) (lines : List (List ℕ)) (replies : List Reply) (s : State) (n : ℕ) (bytes name : List ℕ) (j : ℕ) (c : List ℤ) →
    RepliesTo mode fresh 0 lines replies s → SaysLine s bytes (line.Cover name j c) → AnswersCover s n bytes name j c
