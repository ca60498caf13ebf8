-- The cause of a status, from what was read and written.
use Rattle.std.proofs.Common.{◌≡◌, ◌≢◌, ℕ, Bool, true, false, cond, take, Ok, Err, ◌+◌, ◌<◌, ◌≤◌, List, [], ◌∷◌, ◌++◌, Option, Some, None, length, refl, sym, ◌∙◌, ap, subst, ◌⊎◌, inl, inr, arith, append_assoc, append-nil, length-append}
use Rattle.lie_kit.specs.Streams.{Rose, after_bytes, IsSpent}
use Rattle.std.specs.Prelude.{nat_eq}
use Rattle.lie_session.specs.State.{State, fresh, is_loaded, ended_status}
use Rattle.lie_session.specs.Lines.{lines_of}
use Rattle.lie_session.specs.Output.{rests, bytes_of, IsOutput, BeginsOutput}
use Rattle.lie_session.specs.Runs.{Gave, GrewBy, IsRead, ReadAndWrote, TookAndWrote, WritesWholeLines, BeginsWholeLines, Cause, DemoCause, CauseOf, ReadCounts, WriteCounts, Completes, Complete, DemoCompletes, CompleteOf, Exceeds, ExceedsOf, input_limit}
use Rattle.lie_session.specs.Steps.{Replied, Progress, StopCounts, AnsweredAtEnd, Heard, HeardLast, Finished, Ran, stop_status}
use Rattle.lie_session.specs.declared.mode.Mode.{Mode}
use Rattle.lie_session.specs.declared.output.WriteStop.{WriteStop}
use Rattle.lie_session.specs.declared.output.WriteStop.TheVariants.{Fault as WriteFailed, NoMemory as WriteMemory}
use Rattle.lie_session.specs.declared.status.Status.{Status}
use Rattle.lie_session.specs.declared.talk.Talk.{Talk}
use Rattle.lie_session.specs.declared.task.Task.{Task}
use Rattle.lie_session.specs.declared.task.Task.TheVariants.{Lines, Demo}
use Rattle.lie_session.specs.declared.status.Status.TheVariants.{Done, Refused, Usage, LoadRefused, ReadFault, WriteFault, NoMemory, TooLong}
use Rattle.lie_session.proofs.InputLemmas.{gave-more, one-byte, read-end}
use Rattle.lie_session.proofs.LineLemmas.{lines-append}
use Rattle.lie_session.proofs.ProgressLemmas.{replied_rested, replied_end, replied_stop, stop_end}
use Rattle.lie_session.proofs.StatusLemmas.{not_refused, check_unloaded, end_uncounted}
use Rattle.lie_session.proofs.ToldLemmas.{with_none}

-- the input was read to its end and replied to
pub cause_read : (mode : Mode) (left left' old new : Option (List ℕ)) (input : List ℕ) (status : Status) → IsRead left input left' → Replied mode old input new status → Cause mode left left' old new status
cause_read mode left left' old new input Done read h = (input, read, h)
cause_read mode left left' old new input Refused read h = (input, read, h)
cause_read mode left left' old new input Usage read h = absurd h
cause_read mode left left' old new input LoadRefused read h = (input, read, h)
cause_read mode left left' old new input ReadFault read h = absurd h
cause_read mode left left' old new input WriteFault read h = inr (input, read, h)
cause_read mode left left' old new input NoMemory read h = inr (input, read, h)
cause_read mode left left' old new input TooLong read h = absurd h

writes_whole : (mode : Mode) (taken : List ℕ) (talk : Talk) (old new : Option (List ℕ)) (p : Progress mode taken talk old new) → WritesWholeLines mode taken (bytes_of p.replies)
writes_whole mode taken talk old new p =
    record { whole = p.whole; rest = p.rest; ends = p.ends; replies = p.replies; last = talk.session; replied = p.replied; written = refl }

pub after-none : (left left' : Option (List ℕ)) → left' ≡ left → Gave left [] left'
after-none None left' same = rw same refl
after-none (Some told) left' same = rw same refl

-- the source failed, and the replies to the whole lines were written
pub cause_fault : (mode : Mode) (left left' old new : Option (List ℕ)) (taken : List ℕ) (talk : Talk) → Progress mode taken talk old new → Gave left taken left' → length taken ≤ input_limit
    → Cause mode left left' old new ReadFault
cause_fault mode left left' old new taken talk p gave within = (taken, gave, within, (bytes_of p.replies, p.written, writes_whole mode taken talk old new p))

-- one byte more than the limit was taken
pub cause_passed : (mode : Mode) (left left' old new : Option (List ℕ)) (taken : List ℕ) (b : ℕ) (talk : Talk) → Progress mode taken talk old new → Gave left (taken ++ b ∷ []) left' → length taken ≡ input_limit
    → Cause mode left left' old new TooLong
cause_passed mode left left' old new taken b talk p gave long = (taken, b, gave, long, (bytes_of p.replies, p.written, writes_whole mode taken talk old new p))

-- writing stopped before the end of the input
pub cause_stopped : (mode : Mode) (left left' old new : Option (List ℕ)) (taken : List ℕ) (stop : WriteStop) → GrewBy old new (BeginsWholeLines mode taken) → Gave left taken left' → length taken ≤ input_limit
    → Cause mode left left' old new (stop_status stop)
cause_stopped mode left left' old new taken WriteFailed h gave within = inl (taken, gave, within, h)
cause_stopped mode left left' old new taken WriteMemory h gave within = inl (taken, gave, within, h)

-- no memory was there for the first line
pub cause_none : (mode : Mode) (left left' old new : Option (List ℕ)) → left' ≡ left → new ≡ old → Cause mode left left' old new NoMemory
cause_none mode left left' old new same same_sink =
    inl (
      [],
      after-none left left' same,
      omega arith,
      ([], same_sink ∙ sym (with_none old), record { whole = []; rest = []; ends = record { parts = refl; ended = inl refl; unended = tt }; replies = []; first = ([], [], fresh, refl, (refl, refl)); missing = []; written = refl }),
    )

-- the source's count stands where the input was read to its end
pub counts_read : (mode : Mode) (old new : Option (List ℕ)) (input : List ℕ) (before now : ℕ) (status : Status) → Replied mode old input new status → now ≡ before → ReadCounts before now status
counts_read mode old new input before now Done h same = same
counts_read mode old new input before now Refused h same = same
counts_read mode old new input before now Usage h same = absurd h
counts_read mode old new input before now LoadRefused h same = same
counts_read mode old new input before now ReadFault h same = absurd h
counts_read mode old new input before now WriteFault h same = same
counts_read mode old new input before now NoMemory h same = same
counts_read mode old new input before now TooLong h same = absurd h

some_is : (a b : List ℕ) → ◌≡◌ {A = Option (List ℕ)} (Some a) (Some b) → a ≡ b
some_is a b e = cc

-- what was read to its end is what was told
told_is : (told input : List ℕ) (left' : Option (List ℕ)) → IsRead (Some told) input left' → input ≡ told
told_is told input None read = absurd cc where
  no : Some told ≡ after_bytes input None
  no = read.gave
told_is told input (Some rest) read = sym (some_is told (input ++ rest) read.gave ∙ ap (λ z. input ++ z) read.spent ∙ append-nil input)

-- more was taken than is within the limit
longer : (told taken : List ℕ) (left' : Option (List ℕ)) → Gave (Some told) taken left' → length taken ≤ length told
longer told taken None gave = absurd cc where
  no : Some told ≡ after_bytes taken None
  no = gave
longer told taken (Some rest) gave = let e : length told ≡ length taken + length rest = ap length (some_is told (taken ++ rest) gave) ∙ length-append taken rest in omega (arith, e)

whole : (mode : Mode) (told : List ℕ) (left' old new : Option (List ℕ)) (status : Status) → ReadAndWrote (Some told) left' old new (λ input out. IsOutput mode input out status) → GrewBy old new (λ out. IsOutput mode told out status)
whole mode told left' old new status h = subst (λ (z : List ℕ). GrewBy old new (λ out. IsOutput mode z out status)) (told_is told h.0 left' h.1) h.2

part : (mode : Mode) (told : List ℕ) (left' old new : Option (List ℕ)) → ReadAndWrote (Some told) left' old new (BeginsOutput mode) → GrewBy old new (BeginsOutput mode told)
part mode told left' old new h = subst (λ (z : List ℕ). GrewBy old new (BeginsOutput mode z)) (told_is told h.0 left' h.1) h.2

-- replies to the first whole lines among the bytes taken are replies to the first lines of what was told
first_part : (mode : Mode) (told : List ℕ) (left' old new : Option (List ℕ)) → TookAndWrote (Some told) left' old new (BeginsWholeLines mode) → GrewBy old new (BeginsOutput mode told)
first_part mode told None old new h = absurd cc where
  no : Some told ≡ after_bytes h.0 None
  no = h.1
first_part mode told (Some rest) old new (taken, gave, within, grew) =
    let begins = grew.2 in
    let first = begins.first in
    let behind = begins.rest ++ rest in
    let is : told ≡ begins.whole ++ behind = some_is told (taken ++ rest) gave ∙ ap (λ z. z ++ rest) begins.ends.parts ∙ append_assoc begins.whole begins.rest rest in
    let lines : lines_of told ≡ first.0 ++ (first.1 ++ lines_of behind) =
    ap lines_of is ∙ lines-append begins.whole behind begins.ends.ended ∙ ap (λ z. z ++ lines_of behind) first.3 ∙ append_assoc first.0 first.1 (lines_of behind) in
    (grew.0, grew.1, (begins.replies, begins.missing, inl (first.0, first.1 ++ lines_of behind, first.2, lines, first.4), begins.written))

completes : (mode : Mode) (told : List ℕ) (left' old new : Option (List ℕ)) (read read' write write' : ℕ) (status : Status) → length told ≤ input_limit → ¬ Rose read read' → ¬ Rose write write'
    → ReadCounts read read' status → WriteCounts write write' status → Cause mode (Some told) left' old new status → Completes mode told old new status
completes mode told left' old new read read' write write' Done fits r w rc wc h = inl (whole mode told left' old new Done h)
completes mode told left' old new read read' write write' Refused fits r w rc wc h = inl (whole mode told left' old new Refused h)
completes mode told left' old new read read' write write' Usage fits r w rc wc h = absurd h
completes mode told left' old new read read' write write' LoadRefused fits r w rc wc h = inl (whole mode told left' old new LoadRefused h)
completes mode told left' old new read read' write write' ReadFault fits r w rc wc h = absurd (r rc)
completes mode told left' old new read read' write write' WriteFault fits r w rc wc h = absurd (w wc)
completes mode told left' old new read read' write write' NoMemory fits r w rc wc (inl h) = inr (refl, first_part mode told left' old new h)
completes mode told left' old new read read' write write' NoMemory fits r w rc wc (inr h) = inr (refl, part mode told left' old new h)
completes mode told left' old new read read' write write' TooLong fits r w rc wc h =
    let no : ⊥ = omega (arith, fits, h.3, length-append h.0 (h.1 ∷ []), longer told (h.0 ++ h.1 ∷ []) left' h.2) in absurd no

complete_from : (mode : Mode) (left left' old new : Option (List ℕ)) (read read' write write' : ℕ) (status : Status) → ReadCounts read read' status → WriteCounts write write' status → Cause mode left left' old new status → Complete mode left old new read read' write write' status
complete_from mode None left' old new read read' write write' status rc wc cause = tt
complete_from mode (Some told) left' old new read read' write write' status rc wc cause = λ fits r w. completes mode told left' old new read read' write write' status fits r w rc wc cause

too_long : (told input : List ℕ) (left' : Option (List ℕ)) → input_limit < length told → IsRead (Some told) input left' → ⊥
too_long told input left' long read = let same : length input ≡ length told = ap length (told_is told input left' read) in omega (arith, long, same, read.within)

exceeds : (mode : Mode) (told : List ℕ) (left' old new : Option (List ℕ)) (read read' : ℕ) (status : Status) → input_limit < length told → ¬ Rose read read'
    → ReadCounts read read' status → Cause mode (Some told) left' old new status → (status ≡ TooLong) ⊎ (status ≡ NoMemory) ⊎ (status ≡ WriteFault)
exceeds mode told left' old new read read' Done long r rc h = absurd (too_long told h.0 left' long h.1)
exceeds mode told left' old new read read' Refused long r rc h = absurd (too_long told h.0 left' long h.1)
exceeds mode told left' old new read read' Usage long r rc h = absurd h
exceeds mode told left' old new read read' LoadRefused long r rc h = absurd (too_long told h.0 left' long h.1)
exceeds mode told left' old new read read' ReadFault long r rc h = absurd (r rc)
exceeds mode told left' old new read read' WriteFault long r rc h = inr (inr refl)
exceeds mode told left' old new read read' NoMemory long r rc h = inr (inl refl)
exceeds mode told left' old new read read' TooLong long r rc h = inl refl

exceeds_from : (mode : Mode) (left left' old new : Option (List ℕ)) (read read' : ℕ) (status : Status) → ReadCounts read read' status → Cause mode left left' old new status → Exceeds left read read' status
exceeds_from mode None left' old new read read' status rc cause = tt
exceeds_from mode (Some told) left' old new read read' status rc cause = λ long r. exceeds mode told left' old new read read' status long r rc cause

-- ---- the same of what the words ask for

demo_completes : (n : ℕ) (old new : Option (List ℕ)) (write write' : ℕ) (status : Status) → ¬ Rose write write' → WriteCounts write write' status → DemoCause n old new status → DemoCompletes n old new status
demo_completes n old new write write' Done w wc h = inl h
demo_completes n old new write write' Refused w wc h = inl h
demo_completes n old new write write' Usage w wc h = absurd h
demo_completes n old new write write' LoadRefused w wc h = inl h
demo_completes n old new write write' ReadFault w wc h = absurd h
demo_completes n old new write write' WriteFault w wc h = absurd (w wc)
demo_completes n old new write write' NoMemory w wc h = inr (refl, h)
demo_completes n old new write write' TooLong w wc h = absurd h

pub complete_of : (task : Option Task) (left left' old new : Option (List ℕ)) (read read' write write' : ℕ) (status : Status) → ReadCounts read read' status → WriteCounts write write' status
    → CauseOf task left left' old new status → CompleteOf task left old new read read' write write' status
complete_of None left left' old new read read' write write' status rc wc cause = tt
complete_of (Some (Lines mode)) left left' old new read read' write write' status rc wc cause = complete_from mode left left' old new read read' write write' status rc wc cause
complete_of (Some (Demo n)) left left' old new read read' write write' status rc wc cause = λ w. demo_completes n old new write write' status w wc cause.1

pub exceeds_of : (task : Option Task) (left left' old new : Option (List ℕ)) (read read' : ℕ) (status : Status) → ReadCounts read read' status
    → CauseOf task left left' old new status → ExceedsOf task left read read' status
exceeds_of None left left' old new read read' status rc cause = tt
exceeds_of (Some (Lines mode)) left left' old new read read' status rc cause = exceeds_from mode left left' old new read read' status rc cause
exceeds_of (Some (Demo n)) left left' old new read read' status rc cause = tt

-- ---- the end of a run, by what ended it

unasked : (mode : Mode) (old new : Option (List ℕ)) (input : List ℕ) (status : Status) → Replied mode old input new status → status ≢ Usage
unasked mode old new input Done h = λ e. absurd cc
unasked mode old new input Refused h = λ e. absurd cc
unasked mode old new input Usage h = absurd h
unasked mode old new input LoadRefused h = λ e. absurd cc
unasked mode old new input ReadFault h = λ e. absurd cc
unasked mode old new input WriteFault h = λ e. absurd cc
unasked mode old new input NoMemory h = λ e. absurd cc
unasked mode old new input TooLong h = λ e. absurd cc

-- the input was read to its end
pub ran_end : (mode : Mode) (talk : Talk) (taken : ℕ) (mid left' now new : Option (List ℕ)) (read read' write write' : ℕ) (status : Status) → Finished mode talk now new write write' status
    → (left' ≡ mid) × IsSpent mid → read' ≡ read → taken ≤ input_limit → (seen : List ℕ) (old first : Option (List ℕ)) → Progress mode seen talk old now → Gave first seen mid → length seen ≡ taken
    → Ran mode first left' old new read read' write write' status
ran_end mode talk taken mid left' now new read read' write write' status f ended same within seen old first p gave long =
    let r = f.0 seen old p in
    record {
      asked = unasked mode old new seen status r.0;
      cause = cause_read mode first left' old new seen status (read-end first mid left' seen gave ended (omega (arith, long, within))) r.0;
      read = counts_read mode old new seen read read' status r.0 same;
      written = f.1;
      checked = r.1;
    }

-- the source failed
pub ran_fault : (mode : Mode) (talk : Talk) (taken : ℕ) (mid left' now new : Option (List ℕ)) (read read' write write' : ℕ) → left' ≡ mid → new ≡ now → Rose read read' → write' ≡ write → taken ≤ input_limit
    → (seen : List ℕ) (old first : Option (List ℕ)) → Progress mode seen talk old now → Gave first seen mid → length seen ≡ taken → Ran mode first left' old new read read' write write' ReadFault
ran_fault mode talk taken mid left' now new read read' write write' still quiet rose same within seen old first p gave long =
    record {
      asked = λ e. absurd cc;
      cause = cause_fault mode first left' old new seen talk (subst (λ (z : Option (List ℕ)). Progress mode seen talk old z) (sym quiet) p) (subst (Gave first seen) (sym still) gave) (omega (arith, long, within));
      read = rose;
      written = same;
      checked = λ check e. absurd cc;
    }

-- one byte more than the limit came
pub ran_passed : (mode : Mode) (talk : Talk) (taken n : ℕ) (mid left' now new : Option (List ℕ)) (into : List ℕ) (read read' write write' : ℕ) → mid ≡ after_bytes (take n into) left' → 1 ≤ n → n ≤ length into
    → length into ≡ 1 → new ≡ now → read' ≡ read → write' ≡ write → taken ≡ input_limit
    → (seen : List ℕ) (old first : Option (List ℕ)) → Progress mode seen talk old now → Gave first seen mid → length seen ≡ taken → Ran mode first left' old new read read' write write' TooLong
ran_passed mode talk taken n mid left' now new into read read' write write' took some fits one quiet same same_sink limit seen old first p gave long =
    let byte = one-byte n into some fits one in
    record {
      asked = λ e. absurd cc;
      cause = cause_passed mode first left' old new seen byte.0 talk (subst (λ (z : Option (List ℕ)). Progress mode seen talk old z) (sym quiet) p)
          (gave-more first mid left' seen (byte.0 ∷ []) gave (took ∙ ap (λ z. after_bytes z left') byte.1)) (long ∙ limit);
      read = same;
      written = same_sink;
      checked = λ check e. absurd cc;
    }

stop_unasked : (stop : WriteStop) → stop_status stop ≢ Usage
stop_unasked WriteFailed e = absurd cc
stop_unasked WriteMemory e = absurd cc

stop_read : (before now : ℕ) (stop : WriteStop) → now ≡ before → ReadCounts before now (stop_status stop)
stop_read before now WriteFailed same = same
stop_read before now WriteMemory same = same

pub stop_written : (before now : ℕ) (stop : WriteStop) → StopCounts before now stop → WriteCounts before now (stop_status stop)
stop_written before now WriteFailed rose = rose
stop_written before now WriteMemory same = same

pub stop_unrefused : (stop : WriteStop) → stop_status stop ≢ Refused
stop_unrefused WriteFailed e = absurd cc
stop_unrefused WriteMemory e = absurd cc

-- writing stopped in a piece
pub ran_stopped : (mode : Mode) (talk talk' : Talk) (taken : ℕ) (mid left' now new : Option (List ℕ)) (piece : List ℕ) (read read' write write' : ℕ) (stop : WriteStop) → Heard mode piece talk talk' now new write write' (Err stop)
    → mid ≡ after_bytes piece left' → read' ≡ read → taken + length piece ≤ input_limit
    → (seen : List ℕ) (old first : Option (List ℕ)) → Progress mode seen talk old now → Gave first seen mid → length seen ≡ taken → Ran mode first left' old new read read' write write' (stop_status stop)
ran_stopped mode talk talk' taken mid left' now new piece read read' write write' stop h took same within seen old first p gave long =
    record {
      asked = stop_unasked stop;
      cause = cause_stopped mode first left' old new (seen ++ piece) stop (h.0 seen old p) (gave-more first mid left' seen piece gave took) (omega (arith, long, within, length-append seen piece));
      read = stop_read read read' stop same;
      written = stop_written write write' stop h.1;
      checked = λ check. stop_unrefused stop;
    }

-- no memory was there for the first line
pub ran_none : (mode : Mode) (left old : Option (List ℕ)) (read write : ℕ) → Ran mode left left old old read read write write NoMemory
ran_none mode left old read write =
    record { asked = λ e. absurd cc; cause = cause_none mode left left old old refl refl; read = refl; written = refl; checked = λ check e. absurd cc }

-- ---- the end of the input

end_counts : (s : State) (n : ℕ) (next : State) (now new : Option (List ℕ)) (before later : ℕ) (stop : WriteStop) → AnsweredAtEnd s n next now before (Err stop) new later → StopCounts before later stop
end_counts s n next now new before later WriteFailed a = a.3
end_counts s n next now new before later WriteMemory a = a.1

ended_counts : (before later : ℕ) (s : State) → later ≡ before → WriteCounts before later (ended_status s)
ended_counts before later s same = by_kind (is_loaded s.stage) (nat_eq s.refusals 0) where
  by_kind : (a b : Bool) → WriteCounts before later (cond a (cond b Done Refused) LoadRefused)
  by_kind true true = same
  by_kind true false = same
  by_kind false b = same

-- writing stopped in the last line's reply
pub finished_stop : (mode : Mode) (talk talk' : Talk) (now new : Option (List ℕ)) (before later : ℕ) (stop : WriteStop) → HeardLast mode talk talk' now new before later (Err stop)
    → Finished mode talk now new before later (stop_status stop)
finished_stop mode talk talk' now new before later stop h =
    (λ seen old p. (replied_stop mode seen old new stop (h.0 seen old p), λ check. stop_unrefused stop), stop_written before later stop h.1)

-- the session rests
pub finished_rested : (mode : Mode) (talk talk' : Talk) (now new : Option (List ℕ)) (before later : ℕ) → HeardLast mode talk talk' now new before later (Ok tt) → rests mode talk'.session ≡ true
    → Finished mode talk now new before later (ended_status talk'.session)
finished_rested mode talk talk' now new before later h over =
    (λ seen old p. let all = h.0 seen old p in (replied_rested mode seen talk' old new all over, λ check. not_refused talk'.session (all.unrefused check)), ended_counts before later talk'.session h.1)

-- writing stopped in the reply of the end
pub finished_cut : (mode : Mode) (talk talk' : Talk) (now mid new : Option (List ℕ)) (before between later : ℕ) (next : State) (stop : WriteStop) → HeardLast mode talk talk' now mid before between (Ok tt)
    → rests mode talk'.session ≡ false → AnsweredAtEnd talk'.session talk'.number next mid between (Err stop) new later → Finished mode talk now new before later (stop_status stop)
finished_cut mode talk talk' now mid new before between later next stop h live a = (
  λ seen old p. (stop_end mode seen talk' old mid (h.0 seen old p) live next new between later stop a, λ check. stop_unrefused stop),
  stop_written before later stop (subst (λ (k : ℕ). StopCounts k later stop) h.1 (end_counts talk'.session talk'.number next mid new between later stop a)),
)

-- the end was replied to
pub finished_end : (mode : Mode) (talk talk' : Talk) (now mid new : Option (List ℕ)) (before between later : ℕ) (next : State) → HeardLast mode talk talk' now mid before between (Ok tt)
    → rests mode talk'.session ≡ false → AnsweredAtEnd talk'.session talk'.number next mid between (Ok tt) new later → Finished mode talk now new before later (ended_status next)
finished_end mode talk talk' now mid new before between later next h live a = (
  λ seen old p.
      let all = h.0 seen old p in
      (replied_end mode seen talk' old mid all live a.0 next new a.1 a.2, λ check. not_refused next (end_uncounted talk'.session talk'.number a.0 next (check_unloaded talk'.session (subst (λ (m : Mode). rests m talk'.session ≡ false) check live)) a.1 ∙ all.unrefused check)),
  ended_counts before later next (a.3 ∙ h.1),
)
