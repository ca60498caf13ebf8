-- The demonstration: the reply to one line more and to the end, and what is written of the summary.
use Rattle.std.proofs.Common.{◌≡◌, ◌≢◌, ℕ, ◌+◌, Bool, true, false, cond, List, [], ◌∷◌, ◌++◌, length, Option, Ok, Err, refl, ap, sym, ◌∙◌, subst, inl, inr, append_assoc}
use Rattle.std.specs.Bool.{MatchBool}
use Rattle.lie_kit.specs.Streams.{with_bytes}
use Rattle.lie_session.specs.Lines.{lines_of}
use Rattle.lie_session.specs.State.{State, fresh, ended_status}
use Rattle.lie_session.specs.Replies.{Replies, RepliesAtEnd}
use Rattle.lie_session.specs.Output.{rests, RepliesTo, has, is_fatal, is_refused, status_of}
use Rattle.lie_session.specs.Runs.{GrewBy, DemoCause, ReadCounts, WriteCounts}
use Rattle.lie_session.specs.Steps.{GrewByPrefix, PushOutcome, RepliedLine, RepliedEnd, Demonstrated, stop_status}
use Rattle.lie_session.specs.Summary.{IsSummary, BeginsSummary}
use Rattle.lie_session.specs.declared.mode.Mode.TheVariants.{Run}
use Rattle.lie_session.specs.declared.output.WriteStop.{WriteStop}
use Rattle.lie_session.specs.declared.output.WriteStop.TheVariants.{Fault as WriteFailed, NoMemory as WriteMemory}
use Rattle.lie_session.specs.declared.reply.Reply.{Reply}
use Rattle.lie_session.specs.declared.status.Status.{Status}
use Rattle.lie_session.specs.declared.status.Status.TheVariants.{Done, Refused, Usage, LoadRefused, ReadFault, WriteFault, NoMemory, TooLong}
use Rattle.lie_session.proofs.ProgressLemmas.{rested-append, line-append}
use Rattle.lie_session.proofs.StatusLemmas.{live_from, status-ended, status-end}

-- ---- replies

pub rested_line : (n : ℕ) (line : List ℕ) (s : State) (before : List Reply) → rests Run s ≡ true → RepliedLine n line s s before before
rested_line n line s before over = λ seen number h. rested-append Run seen (line ∷ []) before s h over

pub replied_line : (n : ℕ) (line : List ℕ) (s next : State) (before : List Reply) (reply : Reply) → rests Run s ≡ false → Replies s n line reply next → RepliedLine n line s next before (before ++ reply ∷ [])
replied_line n line s next before reply live r = λ seen number h.
    line-append Run seen line before reply s next (length seen) h refl live (subst (λ (k : ℕ). Replies s k line reply next) number r)

pub rested_end : (n : ℕ) (s : State) (before : List Reply) → rests Run s ≡ true → RepliedEnd n s s before before
rested_end n s before over = λ input count h. (
  (
    before,
    s,
    h,
    subst (λ b. MatchBool b (before ≡ before)
        ((reply : Reply) × (next : State) × RepliesAtEnd s (length (lines_of input)) reply next × (before ≡ before ++ reply ∷ []))) (sym over) refl,
  ),
  sym (status-ended Run (lines_of input) before s h over),
)

pub replied_end : (n : ℕ) (s next : State) (before : List Reply) (reply : Reply) → rests Run s ≡ false → RepliesAtEnd s n reply next → RepliedEnd n s next before (before ++ reply ∷ [])
replied_end n s next before reply live r = λ input count h. (
  (
    before,
    s,
    h,
    subst (λ b. MatchBool b (before ++ reply ∷ [] ≡ before)
        ((z : Reply) × (t : State) × RepliesAtEnd s (length (lines_of input)) z t × (before ++ reply ∷ [] ≡ before ++ z ∷ []))) (sym live)
        (reply, next, subst (λ (k : ℕ). RepliesAtEnd s k reply next) count r, refl),
  ),
  sym (status-end Run (lines_of input) before s n reply next h (live_from Run s live) r),
)

-- ---- the summary

-- the status of replies is one of three
ended : (P : Status → Type 0) → P Done → P Refused → P LoadRefused → (replies : List Reply) → P (status_of replies)
ended P done refused load replies = chosen (has is_fatal replies) (has is_refused replies) where
  chosen : (a b : Bool) → P (cond a LoadRefused (cond b Refused Done))
  chosen true b = load
  chosen false true = refused
  chosen false false = done

-- the summary was written whole
pub demo_whole : (n : ℕ) (old new : Option (List ℕ)) (before later : ℕ) (text : List ℕ) (status : Status) → IsSummary n text status → PushOutcome old before text (Ok tt) new later
    → Demonstrated n old new before later status
demo_whole n old new before later text status told p =
    subst (λ (z : Status). Demonstrated n old new before later z) (sym told.3)
    (record {
      asked = ended (λ z. z ≢ Usage) (λ e. absurd cc) (λ e. absurd cc) (λ e. absurd cc) told.0;
      cause = ended (λ z. GrewBy old new (λ out. IsSummary n out z) → DemoCause n old new z) (λ h. h) (λ h. h) (λ h. h) told.0 (text, p.0, (told.0, told.1, told.2, refl));
      unread = ended (λ z. (reads : ℕ) → ReadCounts reads reads z) (λ reads. refl) (λ reads. refl) (λ reads. refl) told.0;
      written = ended (λ z. WriteCounts before later z) p.1 p.1 p.1 told.0;
    })

-- a prefix of it was written
begun : (n : ℕ) (old new : Option (List ℕ)) (text : List ℕ) (status : Status) → IsSummary n text status → GrewByPrefix old text new → GrewBy old new (BeginsSummary n)
begun n old new text status told g = (g.0, g.3, (text, g.1, status, told, g.2))

-- writing stopped in it
pub demo_stopped : (n : ℕ) (old new : Option (List ℕ)) (before later : ℕ) (text : List ℕ) (status : Status) (stop : WriteStop) → IsSummary n text status
    → PushOutcome old before text (Err stop) new later → Demonstrated n old new before later (stop_status stop)
demo_stopped n old new before later text status WriteFailed told p =
    record { asked = λ e. absurd cc; cause = begun n old new text status told p.0; unread = λ reads. refl; written = p.1 }
demo_stopped n old new before later text status WriteMemory told p =
    record { asked = λ e. absurd cc; cause = inr (begun n old new text status told p.0); unread = λ reads. refl; written = p.1 }

-- there was no memory for the replies
pub demo_none : (n : ℕ) (old : Option (List ℕ)) (before : ℕ) → Demonstrated n old old before before NoMemory
demo_none n old before = record { asked = λ e. absurd cc; cause = inl refl; unread = λ reads. refl; written = refl }
