-- What the replies to `form`, `mul`, `inv` and `collect` are, texts of forms that are joined to their words, and those to `same`.
-- Source: Carter, Simple Groups of Lie Type, 8.4 (the normal form); Steinberg, Lectures on Chevalley Groups, 6 (generators and relations).
-- Own: the statements. `collect` comes before `load`: its forms are joined to their words whatever `load` says later.
use Rattle.std.specs.Prelude.{◌≡◌, ◌⊎◌, ◌↔◌, ◌++◌, ℕ, List, Some}
use Rattle.std.specs.Option.{IsSomeAnd}
use Rattle.lie_audit.specs.WordMatrix.{IsWordFor}
use Rattle.lie_field.specs.FiniteField.{FiniteField}
use Rattle.lie_field.specs.Faults.{IsWithinLimit}
use Rattle.lie_group.specs.Loading.{IsFrameOf, IsFrameFault}
use Rattle.lie_group.specs.declared.faults.LoadFault.{LoadFault}
use Rattle.lie_letters.specs.GroupSpelled.{JoinedInGroup}
use Rattle.lie_letters.specs.SignedFrames.{SignedFrame, unsigned}
use Rattle.lie_letters.specs.Spelled.{IsWordOver, reversed}
use Rattle.lie_letters.specs.declared.letter.Letter.{Letter}
use Rattle.lie_reply.specs.Commands.{FormTextOf}
use Rattle.lie_script.specs.Texts.{refusal}
use Rattle.lie_script.specs.declared.line.Line.{Line}
use Rattle.lie_script.specs.declared.line.Line.TheVariants as line
use Rattle.lie_session.specs.Asked.{asked_word, TellsSame}
use Rattle.lie_session.specs.Faults.{load_words}
use Rattle.lie_session.specs.Held.{Setting, LoadedGroup}
use Rattle.lie_session.specs.Loaded.{HasGroup}
use Rattle.lie_session.specs.Output.{RepliesTo}
use Rattle.lie_session.specs.Replies.{Accepts, Refuses, Replies, SaysLine}
use Rattle.lie_session.specs.State.{State, fresh}
use Rattle.lie_session.specs.declared.mode.Mode.{Mode}
use Rattle.lie_session.specs.declared.reply.Reply.{Reply}
use Rattle.lie_session.specs.declared.stage.Stage.TheVariants as stage

-- the reply is an answer with the text of a form of the word for the frame, and the state stays
abbrev pub Prints : State → SignedFrame → List Letter → Reply → State → Type 0
Prints s g w reply next = (text : List ℕ) × FormTextOf g w text × Accepts s (Some text) reply next

-- w is a word of a loaded group, over its field, and the replies to the line are the texts of its forms for the frame of the group
pub record AnswersForm (s : State) (n : ℕ) (bytes : List ℕ) (w : FiniteField → List Letter) : Type 0 where
  pub group : LoadedGroup
  pub stage_is : s.stage ≡ stage.Loaded group
  pub loaded : HasGroup group
  pub word : IsWordOver (unsigned group.frame) (w group.frame.field)
  pub answers : (reply : Reply) (next : State) → Replies s n bytes reply next ↔ Prints s group.frame (w group.frame.field) reply next

-- the reply is printed by the frame of the field and the datum, or is the refusal for the first demand that the datum doesn't meet
abbrev pub PrintsOrRefuses : State → ℕ → Setting → List Letter → Reply → State → Type 0
PrintsOrRefuses s n setting w reply next =
    ((g : SignedFrame) × IsFrameOf setting.field setting.datum g × Prints s g w reply next)
    ⊎ ((why : LoadFault) × IsFrameFault setting.datum why × IsSomeAnd (load_words why) (λ words. Refuses s (refusal n words.0 words.1) reply next))

-- w is a word of the group to come, and the replies to the line are the texts of its forms for its frame, where it has one
pub record CollectsForm (s : State) (n : ℕ) (bytes : List ℕ) (w : List Letter) : Type 0 where
  pub setting : Setting
  pub stage_is : s.stage ≡ stage.Load setting
  pub sized : IsWithinLimit setting.field.given
  pub word : IsWordFor setting.field setting.datum w
  pub answers : (reply : Reply) (next : State) → Replies s n bytes reply next ↔ PrintsOrRefuses s n setting w reply next

-- in each state that a script leads to, each line `form`, `mul`, `inv` and `collect` is answered so: by a form of the word, of the product, of the reversed word
pub record FormsAreJoined : Type 0 where
  pub form : (mode : Mode) (lines : List (List ℕ)) (replies : List Reply) (s : State) (n : ℕ) (bytes : List ℕ) (w : List Letter) →
      RepliesTo mode fresh 0 lines replies s → SaysLine s bytes (line.Form w) → AnswersForm s n bytes (λ F. w)
  pub product : (mode : Mode) (lines : List (List ℕ)) (replies : List Reply) (s : State) (n : ℕ) (bytes : List ℕ) (w v : List Letter) →
      RepliesTo mode fresh 0 lines replies s → SaysLine s bytes (line.Mul w v) → AnswersForm s n bytes (λ F. w ++ v)
  pub inverse : (mode : Mode) (lines : List (List ℕ)) (replies : List Reply) (s : State) (n : ℕ) (bytes : List ℕ) (w : List Letter) →
      RepliesTo mode fresh 0 lines replies s → SaysLine s bytes (line.Inv w) → AnswersForm s n bytes (λ F. reversed F w)
  pub collect : (mode : Mode) (lines : List (List ℕ)) (replies : List Reply) (s : State) (n : ℕ) (bytes : List ℕ) (w : List Letter) →
      RepliesTo mode fresh 0 lines replies s → SaysLine s bytes (line.Collect w) → CollectsForm s n bytes w

-- s and t are states that scripts lead to, and the groups that are loaded there have one frame: two commands that ask for forms have the same
-- reply exactly if the words whose forms they ask for are joined
abbrev pub EqualRepliesDecideWords : Type 0
EqualRepliesDecideWords =
    (mode other_mode : Mode) (lines other_lines : List (List ℕ)) (replies other_replies : List Reply) (s t : State) (g h : LoadedGroup) (n m : ℕ) (bytes other : List ℕ) (said told : Line) (w v : List Letter)
    (a b : Reply) (next after : State)
    → RepliesTo mode fresh 0 lines replies s → RepliesTo other_mode fresh 0 other_lines other_replies t → s.stage ≡ stage.Loaded g → t.stage ≡ stage.Loaded h → g.frame ≡ h.frame
    → SaysLine s bytes said → SaysLine t other told → asked_word g.frame.field said ≡ Some w → asked_word h.frame.field told ≡ Some v
    → Replies s n bytes a next → Replies t m other b after → (a.bytes ≡ b.bytes) ↔ JoinedInGroup g.frame w v

-- w and v are words of a loaded group, and the reply to the line says whether they are joined
pub record AnswersSame (s : State) (n : ℕ) (bytes : List ℕ) (w v : List Letter) : Type 0 where
  pub group : LoadedGroup
  pub stage_is : s.stage ≡ stage.Loaded group
  pub loaded : HasGroup group
  pub left : IsWordOver (unsigned group.frame) w
  pub right : IsWordOver (unsigned group.frame) v
  pub answers : (reply : Reply) (next : State) → Replies s n bytes reply next ↔ ((text : List ℕ) × TellsSame group.frame w v text × Accepts s (Some text) reply next)

-- in each state that a script leads to, each line `same` is answered so
abbrev pub SameDecidesWords : Type 0
SameDecidesWords =
    (mode : Mode) (lines : List (List ℕ)) (replies : List Reply) (s : State) (n : ℕ) (bytes : List ℕ) (w v : List Letter) →
    RepliesTo mode fresh 0 lines replies s → SaysLine s bytes (line.Same w v) → AnswersSame s n bytes w v
