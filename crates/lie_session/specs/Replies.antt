-- The reply to a line in a state, and the state after it.
-- Own: all texts.
--
--   silent     an accepted line without a reply
--   answer     an accepted line with a reply
--   refused    a line that is refused after `load`
--   fatal      a refusal up to and with `load`, which ends the session
use Rattle.std.specs.Prelude.{◌≡◌, ℕ, ◌+◌, ◌-◌, ◌^◌, min, if◌then◌else◌, true, List, [], Option, Some, None, Result, Ok, Err, MatchResult}
use Rattle.std.specs.Bool.{MatchBool}
use Rattle.std.specs.Option.{IsSomeAnd}
use Rattle.lie_script.specs.Reading.{reads}
use Rattle.lie_script.specs.Texts.{line_fault, name_of, refusal}
use Rattle.lie_script.specs.declared.faults.FaultName.TheVariants as fault
use Rattle.lie_script.specs.declared.faults.Fault.{Fault}
use Rattle.lie_script.specs.declared.faults.LineFault.{LineFault}
use Rattle.lie_script.specs.declared.line.Line.{Line}
use Rattle.lie_session.specs.Faults.{words_of}
use Rattle.lie_session.specs.Named.{listed_of}
use Rattle.lie_session.specs.Outcomes.{Outcome, Leads}
use Rattle.lie_session.specs.State.{State, is_loaded, modules_of, wants_of, sizes_of, may_end, dropped}
use Rattle.lie_session.specs.declared.reply.Kind.TheVariants as kind
use Rattle.lie_session.specs.declared.reply.Reply.{Reply}
use Rattle.lie_session.specs.declared.stage.Stage.{Stage}
use Rattle.lie_session.specs.declared.stage.Stage.TheVariants as stage

-- one more, but at the last value of u64
abbrev pub next_count : ℕ → ℕ
next_count n = min (n + 1) (2 ^ 64 - 1)

-- the session before `load` is over, and holds nothing more
abbrev pub over : State → State
over s = record s { stage = stage.Field; ended = true }

-- a refusal up to and with `load` is fatal, and a later one is counted and drops the block that was being read; nothing else changes
abbrev pub Refuses : State → List ℕ → Reply → State → Type 0
Refuses s text reply next =
    (reply ≡ record { kind = if is_loaded s.stage then kind.Refused else kind.Fatal; bytes = text })
    × (next ≡ (if is_loaded s.stage then record s { stage = dropped s.stage; refusals = next_count s.refusals } else over s))

-- an accepted line: it is answered where there is a text, and has no reply else
abbrev pub Accepts : State → Option (List ℕ) → Reply → State → Type 0
Accepts after None reply next = (reply ≡ record { kind = kind.Silent; bytes = [] }) × (next ≡ after)
Accepts after (Some text) reply next = (reply ≡ record { kind = kind.Answer; bytes = text }) × (next ≡ after)

-- the reply to a line with this outcome; for want of memory there is none
abbrev pub Tells : State → ℕ → Outcome → Reply → State → Type 0
Tells s n (Ok led) reply next = Accepts (record s { stage = led.0 }) led.1 reply next
Tells s n (Err why) reply next = IsSomeAnd (words_of why) (λ words. Refuses s (refusal n words.0 words.1) reply next)

-- what is done with a line that was read
abbrev pub Does : State → ℕ → Line → Reply → State → Type 0
Does s n said reply next = (r : Outcome) × Leads s.stage said r × Tells s n r reply next

-- the refusal of a line
abbrev pub line_refusal : ℕ → LineFault → List ℕ
line_refusal n why = refusal n (name_of why.name) why.numbers

-- a line that was read is done, or refused for its first failing check
abbrev pub DoesRead : State → ℕ → Reply → State → Result Line Fault → Type 0
DoesRead s n reply next read = MatchResult read (λ said. Does s n said reply next) (λ why. Refuses s (line_refusal n (line_fault why)) reply next)

-- in the state, this is a reply to the line of the number, and this the state after it
pub record Replies (s : State) (n : ℕ) (bytes : List ℕ) (reply : Reply) (next : State) : Type 0 where
  pub told : DoesRead s n reply next (reads (wants_of s.stage) (sizes_of s.stage) (listed_of (modules_of s.stage)) bytes)

-- in the state, the line with these bytes says this
abbrev pub SaysLine : State → List ℕ → Line → Type 0
SaysLine s bytes said = reads (wants_of s.stage) (sizes_of s.stage) (listed_of (modules_of s.stage)) bytes ≡ Ok said

-- the reply of the end, after n lines, which ends the session: before `load` and in a block it is a refusal, and is counted like any
abbrev pub RepliesAtEnd : State → ℕ → Reply → State → Type 0
RepliesAtEnd s n reply next =
    MatchBool (may_end s.stage) (Accepts (record s { ended = true }) None reply next) (Refuses (record s { ended = true }) (refusal n (name_of fault.End) []) reply next)
