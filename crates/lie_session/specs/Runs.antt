-- What the program may answer.
-- Own: the limit and the statuses.
--
--   left, left'    what the source told to come, at the call and at the return
--   old, new       what the sink told as written, at the call and at the return
use Rattle.std.specs.Prelude.{◌≡◌, ◌⊎◌, ℕ, ◌+◌, ◌<◌, ◌≤◌, List, [], ◌∷◌, ◌++◌, length, Option, Some, None, ⊤}
use Rattle.std.specs.Option.{IfSome}
use Rattle.lie_kit.specs.Streams.{Rose, after_bytes, with_bytes, IsSpent}
use Rattle.lie_session.specs.Lines.{lines_of, IsCutAtLastLf}
use Rattle.lie_session.specs.Output.{RepliesTo, bytes_of, IsOutput, AreFirstReplies, BeginsOutput}
use Rattle.lie_session.specs.State.{State, fresh}
use Rattle.lie_session.specs.Summary.{IsSummary, BeginsSummary}
use Rattle.lie_session.specs.declared.mode.Mode.{Mode}
use Rattle.lie_session.specs.declared.reply.Reply.{Reply}
use Rattle.lie_session.specs.declared.status.Status.{Status}
use Rattle.lie_session.specs.declared.status.Status.TheVariants.{Done, Refused, Usage, LoadRefused, ReadFault, WriteFault, NoMemory, TooLong}
use Rattle.lie_session.specs.declared.task.Task.{Task}
use Rattle.lie_session.specs.declared.task.Task.TheVariants.{Lines, Demo}

-- the most bytes that are read
abbrev pub input_limit : ℕ
input_limit = 16777216

-- the source has given these bytes and no more
abbrev pub Gave : Option (List ℕ) → List ℕ → Option (List ℕ) → Type 0
Gave left bytes left' = left ≡ after_bytes bytes left'

-- the sink grew by bytes that have P
abbrev pub GrewBy : Option (List ℕ) → Option (List ℕ) → (List ℕ → Type 0) → Type 0
GrewBy old new P = (out : List ℕ) × (new ≡ with_bytes old out) × P out

-- the source was read to its end, which is within the limit
pub record IsRead (left : Option (List ℕ)) (input : List ℕ) (left' : Option (List ℕ)) : Type 0 where
  pub gave : Gave left input left'
  pub spent : IsSpent left'
  pub within : length input ≤ input_limit

-- an input was read to its end, and what was written has P of it
abbrev pub ReadAndWrote : (left left' old new : Option (List ℕ)) → (List ℕ → List ℕ → Type 0) → Type 0
ReadAndWrote left left' old new P = (input : List ℕ) × IsRead left input left' × GrewBy old new (P input)

-- these bytes within the limit were taken, and what was written has P of them
abbrev pub TookAndWrote : (left left' old new : Option (List ℕ)) → (List ℕ → List ℕ → Type 0) → Type 0
TookAndWrote left left' old new P = (taken : List ℕ) × Gave left taken left' × (length taken ≤ input_limit) × GrewBy old new (P taken)

-- as many bytes as the limit were taken, and one more; what was written has P of the first of them
abbrev pub PassedAndWrote : (left left' old new : Option (List ℕ)) → (List ℕ → List ℕ → Type 0) → Type 0
PassedAndWrote left left' old new P = (taken : List ℕ) × (b : ℕ) × Gave left (taken ++ b ∷ []) left' × (length taken ≡ input_limit) × GrewBy old new (P taken)

-- exactly the replies to the whole lines among the bytes, in order, up to where the session rests: up to and with the first fatal one,
-- or that of `load` where no more are asked for
pub record WritesWholeLines (mode : Mode) (taken out : List ℕ) : Type 0 where
  pub whole : List ℕ
  pub rest : List ℕ
  pub ends : IsCutAtLastLf taken whole rest
  pub replies : List Reply
  pub last : State
  pub replied : RepliesTo mode fresh 0 (lines_of whole) replies last
  pub written : out ≡ bytes_of replies

-- a prefix of the replies to the first of the whole lines among the bytes
pub record BeginsWholeLines (mode : Mode) (taken out : List ℕ) : Type 0 where
  pub whole : List ℕ
  pub rest : List ℕ
  pub ends : IsCutAtLastLf taken whole rest
  pub replies : List Reply
  pub first : AreFirstReplies mode whole replies
  pub missing : List ℕ
  pub written : bytes_of replies ≡ out ++ missing

-- writing stopped with a prefix of the replies written: before the end of the input, or when it was read to its end
abbrev pub StoppedWriting : Mode → (left left' old new : Option (List ℕ)) → Type 0
StoppedWriting mode left left' old new = TookAndWrote left left' old new (BeginsWholeLines mode) ⊎ ReadAndWrote left left' old new (BeginsOutput mode)

-- The cause of a status, by what was read and written.
abbrev pub Cause : Mode → (left left' old new : Option (List ℕ)) → Status → Type 0
Cause mode left left' old new Done = ReadAndWrote left left' old new (λ input out. IsOutput mode input out Done)
Cause mode left left' old new Refused = ReadAndWrote left left' old new (λ input out. IsOutput mode input out Refused)
Cause mode left left' old new LoadRefused = ReadAndWrote left left' old new (λ input out. IsOutput mode input out LoadRefused)
Cause mode left left' old new Usage = ⊥
Cause mode left left' old new ReadFault = TookAndWrote left left' old new (WritesWholeLines mode)
Cause mode left left' old new TooLong = PassedAndWrote left left' old new (WritesWholeLines mode)
Cause mode left left' old new WriteFault = StoppedWriting mode left left' old new
Cause mode left left' old new NoMemory = StoppedWriting mode left left' old new

-- The cause of a status of a demonstration, by what was written: a summary, or a prefix of one where the sink fails; where memory runs out, nothing
-- may be written, since there are no replies to sum up.
abbrev pub DemoCause : ℕ → (old new : Option (List ℕ)) → Status → Type 0
DemoCause n old new Done = GrewBy old new (λ out. IsSummary n out Done)
DemoCause n old new Refused = GrewBy old new (λ out. IsSummary n out Refused)
DemoCause n old new LoadRefused = GrewBy old new (λ out. IsSummary n out LoadRefused)
DemoCause n old new Usage = ⊥
DemoCause n old new ReadFault = ⊥
DemoCause n old new TooLong = ⊥
DemoCause n old new WriteFault = GrewBy old new (BeginsSummary n)
DemoCause n old new NoMemory = (new ≡ old) ⊎ GrewBy old new (BeginsSummary n)

-- The cause, by what the words ask for. Where they ask for nothing, nothing is read or written; for a demonstration nothing is read.
abbrev pub CauseOf : Option Task → (left left' old new : Option (List ℕ)) → Status → Type 0
CauseOf None left left' old new status = (status ≡ Usage) × (left' ≡ left) × (new ≡ old)
CauseOf (Some (Lines mode)) left left' old new status = Cause mode left left' old new status
CauseOf (Some (Demo n)) left left' old new status = (left' ≡ left) × DemoCause n old new status

-- the source's count of faults: it rose at a fault of reading, and stands at every other status
abbrev pub ReadCounts : ℕ → ℕ → Status → Type 0
ReadCounts before now ReadFault = Rose before now
ReadCounts before now _ = now ≡ before

-- the sink's count of faults: it rose at a fault of writing, and stands at every other status
abbrev pub WriteCounts : ℕ → ℕ → Status → Type 0
WriteCounts before now WriteFault = Rose before now
WriteCounts before now _ = now ≡ before

-- an output with this status was written whole, or memory ran out with a prefix written
abbrev pub Completes : Mode → List ℕ → Option (List ℕ) → Option (List ℕ) → Status → Type 0
Completes mode input old new status =
    GrewBy old new (λ out. IsOutput mode input out status) ⊎ ((status ≡ NoMemory) × GrewBy old new (BeginsOutput mode input))

-- where the source tells no more than the limit and neither count rises, the run completes
abbrev pub Complete : Mode → (left old new : Option (List ℕ)) (read read' write write' : ℕ) → Status → Type 0
Complete mode left old new read read' write write' status =
    IfSome left (λ input. length input ≤ input_limit → ¬ Rose read read' → ¬ Rose write write' → Completes mode input old new status)

-- the summary of a demonstration was written whole, or memory ran out with nothing or a prefix of it written
abbrev pub DemoCompletes : ℕ → (old new : Option (List ℕ)) → Status → Type 0
DemoCompletes n old new status =
    GrewBy old new (λ out. IsSummary n out status) ⊎ ((status ≡ NoMemory) × ((new ≡ old) ⊎ GrewBy old new (BeginsSummary n)))

-- what the words ask for completes where nothing fails: a run where the source tells no more than the limit, a demonstration whatever the source tells
abbrev pub CompleteOf : Option Task → (left old new : Option (List ℕ)) (read read' write write' : ℕ) → Status → Type 0
CompleteOf None left old new read read' write write' status = ⊤
CompleteOf (Some (Lines mode)) left old new read read' write write' status = Complete mode left old new read read' write write' status
CompleteOf (Some (Demo n)) left old new read read' write write' status = ¬ Rose write write' → DemoCompletes n old new status

-- where the source tells more than the limit and its count doesn't rise, the input is too long, unless writing or memory fails first
abbrev pub Exceeds : Option (List ℕ) → (read read' : ℕ) → Status → Type 0
Exceeds left read read' status =
    IfSome left (λ input. input_limit < length input → ¬ Rose read read' → (status ≡ TooLong) ⊎ (status ≡ NoMemory) ⊎ (status ≡ WriteFault))

-- an input above the limit is too long for a run; of the input of a demonstration nothing is asked
abbrev pub ExceedsOf : Option Task → (left : Option (List ℕ)) (read read' : ℕ) → Status → Type 0
ExceedsOf (Some (Lines mode)) left read read' status = Exceeds left read read' status
ExceedsOf _ left read read' status = ⊤
