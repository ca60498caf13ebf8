-- What a reply changes in a session.
use Rattle.std.proofs.Common.{◌≡◌, ◌≢◌, ℕ, Bool, true, false, cond, List, Option, Some, None, sym, ap, ◌∙◌, refl, subst, Result, Ok, Err}
use Rattle.std.specs.Prelude.{IfOk}
use Rattle.std.specs.Option.{IsSomeAnd}
use Rattle.std.proofs.lemmas.Bool.{false≢true}
use Rattle.lie_script.specs.Reading.{reads}
use Rattle.lie_script.specs.Texts.{line_fault, refusal}
use Rattle.lie_script.specs.declared.faults.Fault.{Fault}
use Rattle.lie_script.specs.declared.line.Line.{Line}
use Rattle.lie_session.specs.Changes.{Changes}
use Rattle.lie_session.specs.Faults.{Words, words_of}
use Rattle.lie_session.specs.Named.{listed_of}
use Rattle.lie_session.specs.Obeyed.{left_of}
use Rattle.lie_session.specs.Outcomes.{Outcome, Leads}
use Rattle.lie_session.specs.Replies.{next_count, over, Refuses, Accepts, Tells, Does, DoesRead, Replies, line_refusal}
use Rattle.lie_session.specs.State.{State, is_loaded, dropped, modules_of, wants_of, sizes_of}
use Rattle.lie_session.specs.declared.faults.CallFault.{CallFault}
use Rattle.lie_session.specs.declared.faults.CallFault.TheVariants as call
use Rattle.lie_session.specs.declared.reply.Kind.TheVariants as kind
use Rattle.lie_session.specs.declared.reply.Reply.{Reply}
use Rattle.lie_session.specs.declared.stage.Stage.{Stage}
use Rattle.lie_session.specs.declared.stage.Stage.TheVariants as stage

refused_so : (loaded : Bool) (s : State) (bytes : List ℕ) (reply : Reply) (next : State) → is_loaded s.stage ≡ loaded
    → reply ≡ record { kind = cond loaded kind.Refused kind.Fatal; bytes = bytes }
    → next ≡ cond loaded (record s { stage = dropped s.stage; refusals = next_count s.refusals }) (over s) → Changes s reply.kind next
refused_so true s bytes reply next is reply_is next_is = subst (λ (r : Reply). Changes s r.kind next) (sym reply_is) (is, next_is)
refused_so false s bytes reply next is reply_is next_is = subst (λ (r : Reply). Changes s r.kind next) (sym reply_is) (is, next_is)

refuses_change : (s : State) (text : List ℕ) (reply : Reply) (next : State) → Refuses s text reply next → Changes s reply.kind next
refuses_change s text reply next h = refused_so (is_loaded s.stage) s text reply next refl h.0 h.1

accepts_change : (s after : State) (text : Option (List ℕ)) (reply : Reply) (next : State) → after.ended ≡ s.ended → after.refusals ≡ s.refusals → Accepts after text reply next → Changes s reply.kind next
accepts_change s after None reply next ended refusals h =
    subst (λ (r : Reply). Changes s r.kind next) (sym h.0) (ap (λ (t : State). t.ended) h.1 ∙ ended, ap (λ (t : State). t.refusals) h.1 ∙ refusals)
accepts_change s after (Some text) reply next ended refusals h =
    subst (λ (r : Reply). Changes s r.kind next) (sym h.0) (ap (λ (t : State). t.ended) h.1 ∙ ended, ap (λ (t : State). t.refusals) h.1 ∙ refusals)

worded_change : (s : State) (n : ℕ) (words : Option Words) (reply : Reply) (next : State) → IsSomeAnd words (λ w. Refuses s (refusal n w.0 w.1) reply next) → Changes s reply.kind next
worded_change s n None reply next h = absurd h
worded_change s n (Some w) reply next h = refuses_change s (refusal n w.0 w.1) reply next h

tells_change : (s : State) (n : ℕ) (r : Outcome) (reply : Reply) (next : State) → Tells s n r reply next → Changes s reply.kind next
tells_change s n (Ok led) reply next h = accepts_change s (record s { stage = led.0 }) led.1 reply next refl refl h
tells_change s n (Err why) reply next h = worded_change s n (words_of why) reply next h

replied_change : (s : State) (n : ℕ) (read : Result Line Fault) (reply : Reply) (next : State)
    → DoesRead s n reply next read → Changes s reply.kind next
replied_change s n (Ok said) reply next h = tells_change s n h.0 reply next h.2
replied_change s n (Err why) reply next h = refuses_change s (line_refusal n (line_fault why)) reply next h

-- a reply changes what its kind says
pub changes_from : (s : State) (n : ℕ) (bytes : List ℕ) (reply : Reply) (next : State) → Replies s n bytes reply next → Changes s reply.kind next
changes_from s n bytes reply next h = replied_change s n (reads (wants_of s.stage) (sizes_of s.stage) (listed_of (modules_of s.stage)) bytes) reply next h.told

-- a line that was done as it was read is replied to
pub replies_if : {E : Type 0} (s : State) (n : ℕ) (bytes : List ℕ) (next : State) (result : Result Reply E)
    → IfOk result (λ reply. DoesRead s n reply next (reads (wants_of s.stage) (sizes_of s.stage) (listed_of (modules_of s.stage)) bytes)) → IfOk result (λ reply. Replies s n bytes reply next)
replies_if s n bytes next (Ok reply) h = record { told = h }
replies_if s n bytes next (Err e) h = tt

-- the same of an answer
pub changes_if : {E : Type 0} (s : State) (n : ℕ) (bytes : List ℕ) (next : State) (result : Result Reply E) → IfOk result (λ reply. Replies s n bytes reply next) → IfOk result (λ reply. Changes s reply.kind next)
changes_if s n bytes next (Ok reply) h = changes_from s n bytes reply next h
changes_if s n bytes next (Err e) h = tt

-- ---- a fault of a call

-- what a refusal leaves of a loaded stage is the stage without its block
left_dropped : (at : Stage) → is_loaded at ≡ true → left_of at ≡ dropped at
left_dropped stage.Field h = absurd (false≢true h)
left_dropped (stage.Datum F) h = absurd (false≢true h)
left_dropped (stage.Lines F lines) h = absurd (false≢true h)
left_dropped (stage.Load setting) h = absurd (false≢true h)
left_dropped (stage.Loaded g) h = refl

-- neither loses a group
loaded_dropped : (at : Stage) → is_loaded (dropped at) ≡ is_loaded at
loaded_dropped stage.Field = refl
loaded_dropped (stage.Datum F) = refl
loaded_dropped (stage.Lines F lines) = refl
loaded_dropped (stage.Load setting) = refl
loaded_dropped (stage.Loaded g) = refl

loaded_left : (at : Stage) → is_loaded (left_of at) ≡ is_loaded at
loaded_left stage.Field = refl
loaded_left (stage.Datum F) = refl
loaded_left (stage.Lines F lines) = refl
loaded_left (stage.Load setting) = refl
loaded_left (stage.Loaded g) = refl

-- a refusal, where it is known whether a group is loaded
abbrev RefusesSo : Bool → State → Stage → List ℕ → Reply → State → Type 0
RefusesSo loaded s left text reply next =
    (reply ≡ record { kind = cond loaded kind.Refused kind.Fatal; bytes = text }) × (next ≡ cond loaded (record s { stage = left; refusals = next_count s.refusals }) (over s))

refuses_so : (loaded : Bool) (s : State) (left : Stage) (text : List ℕ) (reply : Reply) (next : State) → (loaded ≡ true → left ≡ dropped s.stage) → RefusesSo loaded s left text reply next
    → RefusesSo loaded s (dropped s.stage) text reply next
refuses_so true s left text reply next is h = (h.0, h.1 ∙ ap (λ (at : Stage). record s { stage = at; refusals = next_count s.refusals }) (is refl))
refuses_so false s left text reply next is h = h

-- what a fault leaves of a stage is refused alike
refuses_left : (s : State) (to : Stage) (text : List ℕ) (reply : Reply) (next : State) → dropped to ≡ left_of s.stage → Refuses (record s { stage = to }) text reply next → Refuses s text reply next
refuses_left s to text reply next is h =
    let loaded : is_loaded to ≡ is_loaded s.stage = sym (loaded_dropped to) ∙ ap is_loaded is ∙ loaded_left s.stage in
    refuses_so (is_loaded s.stage) s (dropped to) text reply next (λ there. is ∙ left_dropped s.stage there)
    (subst (λ z. RefusesSo z s (dropped to) text reply next) loaded h)

worded_left : (s : State) (to : Stage) (n : ℕ) (words : Option Words) (reply : Reply) (next : State) → dropped to ≡ left_of s.stage
    → IsSomeAnd words (λ w. Refuses (record s { stage = to }) (refusal n w.0 w.1) reply next) → IsSomeAnd words (λ w. Refuses s (refusal n w.0 w.1) reply next)
worded_left s to n None reply next is h = h
worded_left s to n (Some w) reply next is h = refuses_left s to (refusal n w.0 w.1) reply next is h

-- want of memory has no words
named : (why : CallFault) (P : Words → Type 0) → IsSomeAnd (words_of why) P → why ≢ call.NoMemory
named why P h e = subst (λ z. IsSomeAnd (words_of z) P) e h

-- a line that led to the fault of a call is refused for it
pub refused_for : {E : Type 0} (s : State) (to : Stage) (n : ℕ) (said : Line) (why : CallFault) (result : Result Reply E) (next : State)
    → (why ≢ call.NoMemory → Leads s.stage said (Err why) × (dropped to ≡ left_of s.stage))
    → IfOk result (λ reply. Tells (record s { stage = to }) n (Err why) reply next) → IfOk result (λ reply. Does s n said reply next)
refused_for s to n said why (Err e) next led h = tt
refused_for s to n said why (Ok reply) next led h =
    let is = led (named why (λ w. Refuses (record s { stage = to }) (refusal n w.0 w.1) reply next) h) in
    (Err why, is.0, worded_left s to n (words_of why) reply next is.1 h)
