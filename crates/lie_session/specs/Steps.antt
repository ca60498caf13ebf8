-- What the steps of a run leave: reading, writing, and one reply.
-- For proofs: no public clause cites it.
-- Own.
use Rattle.std.specs.Prelude.{◌≡◌, ◌≢◌, ◌⊎◌, ℕ, ◌+◌, ◌≤◌, false, List, [], ◌∷◌, ◌++◌, length, take, Option, Result, Ok, Err}
use Rattle.lie_kit.specs.Streams.{Rose, with_bytes}
use Rattle.lie_session.specs.State.{State, fresh, ended_status}
use Rattle.lie_session.specs.Replies.{Replies, RepliesAtEnd}
use Rattle.lie_script.specs.Lines.{kept_limit}
use Rattle.lie_session.specs.Lines.{lines_of, IsCutAtLastLf}
use Rattle.lie_session.specs.Output.{rests, RepliesTo, AreReplies, bytes_of, status_of, IsOutput, BeginsOutput}
use Rattle.lie_session.specs.Runs.{Gave, GrewBy, BeginsWholeLines, Cause, DemoCause, ReadCounts, WriteCounts, input_limit}
use Rattle.lie_session.specs.declared.mode.Mode.{Mode}
use Rattle.lie_session.specs.declared.mode.Mode.TheVariants.{Run, Check}
use Rattle.lie_session.specs.declared.reply.Reply.{Reply}
use Rattle.lie_session.specs.declared.status.Status.{Status}
use Rattle.lie_session.specs.declared.status.Status.TheVariants.{Done, Refused, Usage, LoadRefused, ReadFault, WriteFault, NoMemory, TooLong}
use Rattle.lie_session.specs.declared.talk.Talk.{Talk}
use Rattle.lie_session.specs.declared.output.WriteStop.{WriteStop}
use Rattle.lie_session.specs.declared.output.WriteStop.TheVariants.{Fault as WriteFailed, NoMemory as WriteMemory}

-- the sink grew by a prefix of these bytes
abbrev pub GrewByPrefix : Option (List ℕ) → List ℕ → Option (List ℕ) → Type 0
GrewByPrefix old bytes new = (given : List ℕ) × (rest : List ℕ) × (bytes ≡ given ++ rest) × (new ≡ with_bytes old given)

-- all bytes were given, or a prefix before a fault or want of memory
abbrev pub PushOutcome : Option (List ℕ) → ℕ → List ℕ → Result (Unit {0}) WriteStop → Option (List ℕ) → ℕ → Type 0
PushOutcome old before bytes (Ok _) new now = (new ≡ with_bytes old bytes) × (now ≡ before)
PushOutcome old before bytes (Err WriteFailed) new now = GrewByPrefix old bytes new × Rose before now
PushOutcome old before bytes (Err WriteMemory) new now = GrewByPrefix old bytes new × (now ≡ before)

-- a reply was made and given, or a prefix of it before writing stopped
abbrev pub Answered : State → ℕ → List ℕ → State → Option (List ℕ) → ℕ → Result (Unit {0}) WriteStop → Option (List ℕ) → ℕ → Type 0
Answered s n line next old before (Ok _) new now =
    (reply : Reply) × Replies s n line reply next × (new ≡ with_bytes old reply.bytes) × (now ≡ before)
Answered s n line next old before (Err WriteFailed) new now =
    (reply : Reply) × Replies s n line reply next × GrewByPrefix old reply.bytes new × Rose before now
Answered s n line next old before (Err WriteMemory) new now =
    ((new ≡ old) ⊎ ((reply : Reply) × Replies s n line reply next × GrewByPrefix old reply.bytes new)) × (now ≡ before)

-- the same of the reply of the end
abbrev pub AnsweredAtEnd : State → ℕ → State → Option (List ℕ) → ℕ → Result (Unit {0}) WriteStop → Option (List ℕ) → ℕ → Type 0
AnsweredAtEnd s n next old before (Ok _) new now =
    (reply : Reply) × RepliesAtEnd s n reply next × (new ≡ with_bytes old reply.bytes) × (now ≡ before)
AnsweredAtEnd s n next old before (Err WriteFailed) new now =
    (reply : Reply) × RepliesAtEnd s n reply next × GrewByPrefix old reply.bytes new × Rose before now
AnsweredAtEnd s n next old before (Err WriteMemory) new now =
    ((new ≡ old) ⊎ ((reply : Reply) × RepliesAtEnd s n reply next × GrewByPrefix old reply.bytes new)) × (now ≡ before)

-- what was written of the replies to an input that was read to its end, by the status
abbrev pub Replied : Mode → Option (List ℕ) → List ℕ → Option (List ℕ) → Status → Type 0
Replied mode old input new Done = GrewBy old new (λ out. IsOutput mode input out Done)
Replied mode old input new Refused = GrewBy old new (λ out. IsOutput mode input out Refused)
Replied mode old input new LoadRefused = GrewBy old new (λ out. IsOutput mode input out LoadRefused)
Replied mode old input new WriteFault = GrewBy old new (BeginsOutput mode input)
Replied mode old input new NoMemory = GrewBy old new (BeginsOutput mode input)
Replied mode old input new Usage = ⊥
Replied mode old input new ReadFault = ⊥
Replied mode old input new TooLong = ⊥

-- the status after writing stopped
abbrev pub stop_status : WriteStop → Status
stop_status WriteFailed = WriteFault
stop_status WriteMemory = NoMemory

-- The bytes seen so far are replied to: their whole lines have their replies, as far as the session goes, and these are written. Of the bytes
-- behind them the front is kept. In `check` no reply was a refusal that the session counts.
pub record Progress (mode : Mode) (seen : List ℕ) (talk : Talk) (old now : Option (List ℕ)) : Type 0 where
  pub whole : List ℕ
  pub rest : List ℕ
  pub ends : IsCutAtLastLf seen whole rest
  pub replies : List Reply
  pub replied : RepliesTo mode fresh 0 (lines_of whole) replies talk.session
  pub written : now ≡ with_bytes old (bytes_of replies)
  pub waits : rests mode talk.session ≡ false → (talk.lines ≡ take kept_limit rest) × (talk.number ≡ length (lines_of whole))
  pub few : talk.number ≤ length seen
  pub unrefused : mode ≡ Check → talk.session.refusals ≡ 0

-- all lines of the input have their replies, as far as the session goes
pub record AllReplied (mode : Mode) (input : List ℕ) (talk : Talk) (old now : Option (List ℕ)) : Type 0 where
  pub replies : List Reply
  pub replied : RepliesTo mode fresh 0 (lines_of input) replies talk.session
  pub written : now ≡ with_bytes old (bytes_of replies)
  pub counted : rests mode talk.session ≡ false → talk.number ≡ length (lines_of input)
  pub unrefused : mode ≡ Check → talk.session.refusals ≡ 0

-- the sink's count of faults where writing stopped
abbrev pub StopCounts : ℕ → ℕ → WriteStop → Type 0
StopCounts before now WriteFailed = Rose before now
StopCounts before now WriteMemory = now ≡ before

-- a piece was replied to, or writing stopped in it
abbrev pub Heard : Mode → List ℕ → (talk talk' : Talk) → (now now' : Option (List ℕ)) → (before later : ℕ) → Result (Unit {0}) WriteStop → Type 0
Heard mode piece talk talk' now now' before later (Ok _) =
    ((seen : List ℕ) (old : Option (List ℕ)) → Progress mode seen talk old now → Progress mode (seen ++ piece) talk' old now') × (later ≡ before)
Heard mode piece talk talk' now now' before later (Err stop) =
    ((seen : List ℕ) (old : Option (List ℕ)) → Progress mode seen talk old now → GrewBy old now' (BeginsWholeLines mode (seen ++ piece))) × StopCounts before later stop

-- the last line was replied to where it has no LF, or writing stopped in its reply
abbrev pub HeardLast : Mode → (talk talk' : Talk) → (now now' : Option (List ℕ)) → (before later : ℕ) → Result (Unit {0}) WriteStop → Type 0
HeardLast mode talk talk' now now' before later (Ok _) =
    ((seen : List ℕ) (old : Option (List ℕ)) → Progress mode seen talk old now → AllReplied mode seen talk' old now') × (later ≡ before)
HeardLast mode talk talk' now now' before later (Err stop) =
    ((seen : List ℕ) (old : Option (List ℕ)) → Progress mode seen talk old now → GrewBy old now' (BeginsOutput mode seen)) × StopCounts before later stop

-- what waited and the end of the input were replied to, as far as the session goes, or writing stopped
abbrev pub Finished : Mode → Talk → (now now' : Option (List ℕ)) → (before later : ℕ) → Status → Type 0
Finished mode talk now now' before later status =
    ((seen : List ℕ) (old : Option (List ℕ)) → Progress mode seen talk old now → Replied mode old seen now' status × (mode ≡ Check → status ≢ Refused))
    × WriteCounts before later status

-- what a run leaves: the cause of its status, and the counts of faults; in `check` no status tells of a counted refusal
pub record Ran (mode : Mode) (left left' old new : Option (List ℕ)) (reads reads' writes writes' : ℕ) (status : Status) : Type 0 where
  pub asked : status ≢ Usage
  pub cause : Cause mode left left' old new status
  pub read : ReadCounts reads reads' status
  pub written : WriteCounts writes writes' status
  pub checked : mode ≡ Check → status ≢ Refused

-- a piece of n bytes was replied to; or the run is over
abbrev pub Turned : Mode → ℕ → (talk talk' : Talk) → (left left' now now' : Option (List ℕ)) → (read read' write write' : ℕ) → Result ℕ Status → Type 0
Turned mode taken talk talk' left left' now now' read read' write write' (Ok n) =
    (piece : List ℕ) × Gave left piece left' × (length piece ≡ n) × (1 ≤ n) × (taken + n ≤ input_limit)
    × ((seen : List ℕ) (old : Option (List ℕ)) → Progress mode seen talk old now → Progress mode (seen ++ piece) talk' old now')
    × (read' ≡ read) × (write' ≡ write)
Turned mode taken talk talk' left left' now now' read read' write write' (Err status) =
    (seen : List ℕ) (old : Option (List ℕ)) (first : Option (List ℕ)) → Progress mode seen talk old now → Gave first seen left → length seen ≡ taken
    → Ran mode first left' old now' read read' write write' status

-- ---- the demonstration

-- one more line has its reply, as far as the session goes
abbrev pub RepliedLine : ℕ → List ℕ → (s next : State) → (before after : List Reply) → Type 0
RepliedLine n line s next before after =
    (seen : List (List ℕ)) → n ≡ length seen + 1 → RepliesTo Run fresh 0 seen before s → RepliesTo Run fresh 0 (seen ++ line ∷ []) after next

-- all lines of the input have their replies, as far as the session goes, and after the last reply there is a status
abbrev pub RepliedEnd : ℕ → (s next : State) → (before after : List Reply) → Type 0
RepliedEnd n s next before after =
    (input : List ℕ) → n ≡ length (lines_of input) → RepliesTo Run fresh 0 (lines_of input) before s
    → AreReplies Run input after × (ended_status next ≡ status_of after)

-- what a demonstration leaves: the cause of its status, and the counts of faults
pub record Demonstrated (n : ℕ) (old new : Option (List ℕ)) (writes writes' : ℕ) (status : Status) : Type 0 where
  pub asked : status ≢ Usage
  pub cause : DemoCause n old new status
  pub unread : (reads : ℕ) → ReadCounts reads reads status
  pub written : WriteCounts writes writes' status
