-- The status by the kinds of the replies, and the state after them.
use Rattle.std.proofs.Common.{◌≡◌, ◌≢◌, ℕ, ◌+◌, Bool, true, false, cond, ◌||◌, List, [], ◌∷◌, ◌++◌, None, refl, sym, ap, ◌∙◌, subst, arith}
use Rattle.std.specs.Prelude.{not, nat_eq}
use Rattle.std.specs.Bool.{MatchBool}
use Rattle.std.proofs.lemmas.Bool.{false≢true}
use Rattle.lie_script.specs.Texts.{name_of, refusal}
use Rattle.lie_script.specs.declared.faults.FaultName.TheVariants as fault
use Rattle.lie_session.specs.State.{State, fresh, is_loaded, may_end, dropped, ended_status}
use Rattle.lie_session.specs.Replies.{next_count, over, Refuses, Accepts, Replies, RepliesAtEnd}
use Rattle.lie_session.specs.Changes.{Changes}
use Rattle.lie_session.specs.Output.{rests, RepliesTo, has, is_fatal, is_refused, status_of}
use Rattle.lie_session.specs.declared.mode.Mode.{Mode}
use Rattle.lie_session.specs.declared.mode.Mode.TheVariants.{Run, Check}
use Rattle.lie_session.specs.declared.reply.Kind.{Kind}
use Rattle.lie_session.specs.declared.reply.Kind.TheVariants as kind
use Rattle.lie_session.specs.declared.reply.Reply.{Reply}
use Rattle.lie_session.specs.declared.stage.Stage.{Stage}
use Rattle.lie_session.specs.declared.stage.Stage.TheVariants as stage
use Rattle.lie_session.specs.declared.status.Status.TheVariants.{Done, Refused, LoadRefused}
use Rattle.lie_session.proofs.ChangeLemmas.{changes_from}

-- a session that goes on is not ended
pub live_from : (mode : Mode) (s : State) → rests mode s ≡ false → s.ended ≡ false
live_from Run s on = on
live_from Check s on = neither s.ended (is_loaded s.stage) on where
  neither : (a b : Bool) → (a || b) ≡ false → a ≡ false
  neither true b h = absurd (false≢true (sym h))
  neither false b h = refl

-- an ended session rests
pub rests_ended : (mode : Mode) (s : State) → s.ended ≡ true → rests mode s ≡ true
rests_ended Run s over = over
rests_ended Check s over = ap (λ b. b || is_loaded s.stage) over

-- the next line of a session that goes on
pub record Begun (mode : Mode) (s : State) (n : ℕ) (line : List ℕ) (lines : List (List ℕ)) (replies : List Reply) (last : State) : Type 0 where
  pub reply : Reply
  pub next : State
  pub others : List Reply
  pub replied : Replies s (n + 1) line reply next
  pub are : replies ≡ reply ∷ others
  pub on : RepliesTo mode next (n + 1) lines others last

begun_so : (mode : Mode) (ended : Bool) (s : State) (n : ℕ) (line : List ℕ) (lines : List (List ℕ)) (replies : List Reply) (last : State) → ended ≡ false
    → MatchBool ended ((replies ≡ []) × (last ≡ s))
    ((reply : Reply) × (next : State) × (others : List Reply) × Replies s (n + 1) line reply next × (replies ≡ reply ∷ others) × RepliesTo mode next (n + 1) lines others last)
    → Begun mode s n line lines replies last
begun_so mode true s n line lines replies last is h = absurd (false≢true (sym is))
begun_so mode false s n line lines replies last is h = record { reply = h.0; next = h.1; others = h.2; replied = h.3; are = h.4; on = h.5 }

pub begun : (mode : Mode) (s : State) (n : ℕ) (line : List ℕ) (lines : List (List ℕ)) (replies : List Reply) (last : State) → rests mode s ≡ false → RepliesTo mode s n (line ∷ lines) replies last → Begun mode s n line lines replies last
begun mode s n line lines replies last live h = begun_so mode (rests mode s) s n line lines replies last live h

over_so : (ended : Bool) (P Q : Type 0) → ended ≡ true → MatchBool ended P Q → P
over_so true P Q is h = h
over_so false P Q is h = absurd (false≢true is)

-- a session that rests replies to no more
pub ended_none : (mode : Mode) (s : State) (n : ℕ) (lines : List (List ℕ)) (replies : List Reply) (last : State) → rests mode s ≡ true → RepliesTo mode s n lines replies last → (replies ≡ []) × (last ≡ s)
ended_none mode s n [] replies last over h = h
ended_none mode s n (line ∷ lines) replies last over h = over_so (rests mode s) ((replies ≡ []) × (last ≡ s)) _ over h

-- what the kinds of the replies tell of the last state
pub record Tells (s : State) (replies : List Reply) (last : State) : Type 0 where
  pub fatal : has is_fatal replies ≡ last.ended
  pub unloaded : last.ended ≡ true → is_loaded last.stage ≡ false
  pub refused : (has is_refused replies || not (nat_eq s.refusals 0)) ≡ not (nat_eq last.refusals 0)

counted : (n : ℕ) → true ≡ not (nat_eq (next_count n) 0)
counted n = grind arith

tells_none : (s : State) → s.ended ≡ false → Tells s [] s
tells_none s live = record { fatal = sym live; unloaded = λ over. absurd (false≢true (sym live ∙ over)); refused = refl }

-- a reply that goes on leaves the rest to tell
tells_on : (k : Kind) (s : State) (reply : Reply) (next : State) (others : List Reply) (last : State) → reply.kind ≡ k → is_fatal k ≡ false
    → (is_refused k || not (nat_eq s.refusals 0)) ≡ not (nat_eq next.refusals 0) → Tells next others last → Tells s (reply ∷ others) last
tells_on k s reply next others last is none counts t = record {
  fatal = ap (λ b. b || has is_fatal others) (ap is_fatal is ∙ none) ∙ t.fatal;
  unloaded = t.unloaded;
  refused =
      moved (is_refused reply.kind) (has is_refused others) (not (nat_eq s.refusals 0))
      ∙ ap (λ b. has is_refused others || b) (ap (λ z. is_refused z || not (nat_eq s.refusals 0)) is ∙ counts) ∙ t.refused;
} where
  moved : (a b c : Bool) → ((a || b) || c) ≡ (b || (a || c))
  moved true true c = refl
  moved true false c = refl
  moved false b c = refl

tells_fatal : (s : State) (reply : Reply) (next : State) (others : List Reply) (last : State) → reply.kind ≡ kind.Fatal → next ≡ over s
    → (others ≡ []) × (last ≡ next) → Tells s (reply ∷ others) last
tells_fatal s reply next others last is next_is done =
    let end : last ≡ over s = done.1 ∙ next_is in
    record {
      fatal = ap (λ k. is_fatal k || has is_fatal others) is ∙ sym (ap (λ (t : State). t.ended) end);
      unloaded = λ _. ap (λ (t : State). is_loaded t.stage) end;
      refused =
          ap (λ k. (is_refused k || has is_refused others) || not (nat_eq s.refusals 0)) is
          ∙ ap (λ (z : List Reply). has is_refused z || not (nat_eq s.refusals 0)) done.0 ∙ sym (ap (λ (t : State). not (nat_eq t.refusals 0)) end);
    }

tells_rest : (s : State) (replies : List Reply) (last : State) → s.ended ≡ false → (replies ≡ []) × (last ≡ s) → Tells s replies last
tells_rest s replies last live h =
    subst (λ (t : State). Tells s replies t) (sym h.1) (subst (λ (z : List Reply). Tells s z s) (sym h.0) (tells_none s live))

tells : (mode : Mode) (s : State) (n : ℕ) (lines : List (List ℕ)) (replies : List Reply) (last : State) → s.ended ≡ false → RepliesTo mode s n lines replies last → Tells s replies last
tells mode s n [] replies last live h = tells_rest s replies last live h
tells mode s n (line ∷ lines) replies last live h =
    by_rest (rests mode s) refl (λ next others goes on. tells mode next (n + 1) lines others last goes on) where
      by_kind : (k : Kind) (reply : Reply) (next : State) (others : List Reply) → reply.kind ≡ k → Changes s k next → (next.ended ≡ false → Tells next others last)
          → (next.ended ≡ true → (others ≡ []) × (last ≡ next)) → Tells s (reply ∷ others) last
      by_kind kind.Silent reply next others is c on over =
          tells_on kind.Silent s reply next others last is refl (ap (λ z. not (nat_eq z 0)) (sym c.1)) (on (c.0 ∙ live))
      by_kind kind.Answer reply next others is c on over =
          tells_on kind.Answer s reply next others last is refl (ap (λ z. not (nat_eq z 0)) (sym c.1)) (on (c.0 ∙ live))
      by_kind kind.Refused reply next others is c on over =
          tells_on kind.Refused s reply next others last is refl (counted s.refusals ∙ ap (λ (t : State). not (nat_eq t.refusals 0)) (sym c.1))
          (on (ap (λ (t : State). t.ended) c.1 ∙ live))
      by_kind kind.Fatal reply next others is c on over =
          tells_fatal s reply next others last is c.1 (over (ap (λ (t : State). t.ended) c.1))

      by_rest : (rest : Bool) → rests mode s ≡ rest → ((next : State) (others : List Reply) → next.ended ≡ false → RepliesTo mode next (n + 1) lines others last → Tells next others last) → Tells s replies last
      by_rest true is on = tells_rest s replies last live (ended_none mode s n (line ∷ lines) replies last is h)
      by_rest false is on =
          let b = begun mode s n line lines replies last is h in
          subst (λ (z : List Reply). Tells s z last) (sym b.are)
          (by_kind b.reply.kind b.reply b.next b.others refl (changes_from s (n + 1) line b.reply b.next b.replied)
          (λ goes. on b.next b.others goes b.on) (λ over. ended_none mode b.next (n + 1) lines b.others last (rests_ended mode b.next over) b.on))

pub has-append : (test : Kind → Bool) (a b : List Reply) → has test (a ++ b) ≡ (has test a || has test b)
has-append test [] b = refl
has-append test (reply ∷ a) b = ap (λ z. test reply.kind || z) (has-append test a b) ∙ regroup (test reply.kind) (has test a) (has test b) where
  regroup : (x y z : Bool) → (x || (y || z)) ≡ ((x || y) || z)
  regroup true y z = refl
  regroup false y z = refl

other : (b : Bool) (k : ℕ) → b ≡ not (nat_eq k 0) → cond b Refused Done ≡ cond (nat_eq k 0) Done Refused
other b k is = ap (λ z. cond z Refused Done) is ∙ swapped (nat_eq k 0) where
  swapped : (z : Bool) → cond (not z) Refused Done ≡ cond z Done Refused
  swapped true = refl
  swapped false = refl

rested : (ended loaded : Bool) (replies : List Reply) (last : State) → last.ended ≡ ended → is_loaded last.stage ≡ loaded → (ended || loaded) ≡ true → Tells fresh replies last → status_of replies ≡ ended_status last
rested true loaded replies last over is rest t =
    ap (λ b. cond b LoadRefused (cond (has is_refused replies) Refused Done)) (t.fatal ∙ over)
    ∙ sym (ap (λ b. cond b (cond (nat_eq last.refusals 0) Done Refused) LoadRefused) (t.unloaded over))
rested false true replies last live is rest t =
    ap (λ b. cond b LoadRefused (cond (has is_refused replies) Refused Done)) (t.fatal ∙ live)
    ∙ other (has is_refused replies) last.refusals (or_false (has is_refused replies) ∙ t.refused)
    ∙ sym (ap (λ b. cond b (cond (nat_eq last.refusals 0) Done Refused) LoadRefused) is) where
      or_false : (b : Bool) → b ≡ (b || false)
      or_false true = refl
      or_false false = refl
rested false false replies last live is rest t = absurd (false≢true rest)

either : (mode : Mode) (s : State) → rests mode s ≡ true → (s.ended || is_loaded s.stage) ≡ true
either Run s rest = ap (λ b. b || is_loaded s.stage) rest
either Check s rest = rest

-- after the last reply of a session that rests
pub status-ended : (mode : Mode) (lines : List (List ℕ)) (replies : List Reply) (last : State) → RepliesTo mode fresh 0 lines replies last → rests mode last ≡ true → status_of replies ≡ ended_status last
status-ended mode lines replies last h rest =
    rested last.ended (is_loaded last.stage) replies last refl refl (either mode last rest) (tells mode fresh 0 lines replies last refl h)

-- ---- after the reply of the end

or_false : (b : Bool) → (b || false) ≡ b
or_false true = refl
or_false false = refl

or_true : (b : Bool) → (b || true) ≡ true
or_true true = refl
or_true false = refl

-- one reply more
has-push : (test : Kind → Bool) (k : Kind) (front : List Reply) (reply : Reply) → reply.kind ≡ k → has test (front ++ reply ∷ []) ≡ (has test front || test k)
has-push test k front reply is =
    has-append test front (reply ∷ []) ∙ ap (λ z. has test front || (test z || false)) is ∙ ap (λ b. has test front || b) (or_false (test k))

-- a silent one
silent_end : (front : List Reply) (last : State) (reply : Reply) → last.ended ≡ false → is_loaded last.stage ≡ true → Tells fresh front last → reply.kind ≡ kind.Silent
    → status_of (front ++ reply ∷ []) ≡ ended_status last
silent_end front last reply live loaded t is =
    let fatal : has is_fatal (front ++ reply ∷ []) ≡ false = has-push is_fatal kind.Silent front reply is ∙ or_false (has is_fatal front) ∙ t.fatal ∙ live in
    let refused : has is_refused (front ++ reply ∷ []) ≡ not (nat_eq last.refusals 0) = has-push is_refused kind.Silent front reply is ∙ t.refused in
    ap (λ b. cond b LoadRefused (cond (has is_refused (front ++ reply ∷ [])) Refused Done)) fatal
    ∙ other (has is_refused (front ++ reply ∷ [])) last.refusals refused
    ∙ sym (ap (λ b. cond b (cond (nat_eq last.refusals 0) Done Refused) LoadRefused) loaded)

-- one that is counted
refused_end : (front : List Reply) (last : State) (reply : Reply) → last.ended ≡ false → Tells fresh front last → reply.kind ≡ kind.Refused → status_of (front ++ reply ∷ []) ≡ Refused
refused_end front last reply live t is =
    let fatal : has is_fatal (front ++ reply ∷ []) ≡ false = has-push is_fatal kind.Refused front reply is ∙ or_false (has is_fatal front) ∙ t.fatal ∙ live in
    let refused : has is_refused (front ++ reply ∷ []) ≡ true = has-push is_refused kind.Refused front reply is ∙ or_true (has is_refused front) in
    ap (λ b. cond b LoadRefused (cond (has is_refused (front ++ reply ∷ [])) Refused Done)) fatal ∙ ap (λ b. cond b Refused Done) refused

-- one before `load`
fatal_end : (front : List Reply) (reply : Reply) → reply.kind ≡ kind.Fatal → status_of (front ++ reply ∷ []) ≡ LoadRefused
fatal_end front reply is =
    ap (λ b. cond b LoadRefused (cond (has is_refused (front ++ reply ∷ [])) Refused Done)) (has-push is_fatal kind.Fatal front reply is ∙ or_true (has is_fatal front))

-- a stage in which a block is dropped is loaded still
dropped_loaded : (at : Stage) → is_loaded at ≡ true → is_loaded (dropped at) ≡ true
dropped_loaded stage.Field h = h
dropped_loaded (stage.Datum F) h = h
dropped_loaded (stage.Lines F lines) h = h
dropped_loaded (stage.Load setting) h = h
dropped_loaded (stage.Loaded g) h = refl

-- where the input may end, a group is loaded
ends_loaded : (at : Stage) → may_end at ≡ true → is_loaded at ≡ true
ends_loaded stage.Field h = h
ends_loaded (stage.Datum F) h = h
ends_loaded (stage.Lines F lines) h = h
ends_loaded (stage.Load setting) h = h
ends_loaded (stage.Loaded g) h = refl

counted_zero : (n : ℕ) → nat_eq (next_count n) 0 ≡ false
counted_zero n = grind arith

-- after the reply of the end
pub status-end : (mode : Mode) (lines : List (List ℕ)) (front : List Reply) (last : State) (n : ℕ) (reply : Reply) (done : State) → RepliesTo mode fresh 0 lines front last → last.ended ≡ false
    → RepliesAtEnd last n reply done → status_of (front ++ reply ∷ []) ≡ ended_status done
status-end mode lines front last n reply done h live r = by_end (may_end last.stage) (ends_loaded last.stage) r where
  t : Tells fresh front last
  t = tells mode fresh 0 lines front last refl h

  text : List ℕ
  text = refusal n (name_of fault.End) []

  by_loaded : (loaded : Bool) → is_loaded last.stage ≡ loaded
      → (reply ≡ record { kind = cond loaded kind.Refused kind.Fatal; bytes = text })
      × (done ≡ cond loaded (record last { stage = dropped last.stage; refusals = next_count last.refusals; ended = true }) (over last))
      → status_of (front ++ reply ∷ []) ≡ ended_status done
  by_loaded true is r =
      refused_end front last reply live t (ap (λ (k : Reply). k.kind) r.0)
      ∙ sym (
      ap ended_status r.1
      ∙ ap (λ b. cond b (cond (nat_eq (next_count last.refusals) 0) Done Refused) LoadRefused) (dropped_loaded last.stage is)
      ∙ ap (λ b. cond b Done Refused) (counted_zero last.refusals)
      )
  by_loaded false is r = fatal_end front reply (ap (λ (k : Reply). k.kind) r.0) ∙ sym (ap ended_status r.1)

  by_end : (ends : Bool) → (ends ≡ true → is_loaded last.stage ≡ true)
      → MatchBool ends (Accepts (record last { ended = true }) None reply done) (Refuses (record last { ended = true }) text reply done) → status_of (front ++ reply ∷ []) ≡ ended_status done
  by_end true loaded r = silent_end front last reply live (loaded refl) t (ap (λ (k : Reply). k.kind) r.0) ∙ sym (ap ended_status r.1)
  by_end false loaded r = by_loaded (is_loaded last.stage) refl r

-- where nothing is loaded, the end counts nothing
pub end_uncounted : (s : State) (n : ℕ) (reply : Reply) (done : State) → is_loaded s.stage ≡ false → RepliesAtEnd s n reply done → done.refusals ≡ s.refusals
end_uncounted s n reply done early r = by_end (may_end s.stage) r where
  by_loaded : (loaded : Bool) → loaded ≡ false → done ≡ cond loaded (record s { stage = dropped s.stage; refusals = next_count s.refusals; ended = true }) (over s) → done.refusals ≡ s.refusals
  by_loaded true unloaded is = absurd (false≢true (sym unloaded))
  by_loaded false unloaded is = ap (λ (t : State). t.refusals) is

  by_end : (ends : Bool) → MatchBool ends (Accepts (record s { ended = true }) None reply done) (Refuses (record s { ended = true }) (refusal n (name_of fault.End) []) reply done) → done.refusals ≡ s.refusals
  by_end true r = ap (λ (t : State). t.refusals) r.1
  by_end false r = by_loaded (is_loaded s.stage) early r.1

-- what each reply keeps a script keeps
pub kept_to : (P : State → Type 0) → ((s : State) (n : ℕ) (bytes : List ℕ) (reply : Reply) (next : State) → P s → Replies s n bytes reply next → P next)
    → (mode : Mode) (s : State) (n : ℕ) (lines : List (List ℕ)) (replies : List Reply) (last : State) → P s → RepliesTo mode s n lines replies last → P last
kept_to P kept mode s n [] replies last there h = subst P (sym h.1) there
kept_to P kept mode s n (line ∷ lines) replies last there h = by_rest (rests mode s) h (λ next others there on. kept_to P kept mode next (n + 1) lines others last there on) where
  by_rest : (rest : Bool) → MatchBool rest ((replies ≡ []) × (last ≡ s))
      ((reply : Reply) × (next : State) × (others : List Reply) × Replies s (n + 1) line reply next × (replies ≡ reply ∷ others) × RepliesTo mode next (n + 1) lines others last)
      → ((next : State) (others : List Reply) → P next → RepliesTo mode next (n + 1) lines others last → P last) → P last
  by_rest true h on = subst P (sym h.1) there
  by_rest false h on = on h.1 h.2 (kept s (n + 1) line h.0 h.1 there h.3) h.5

-- ---- before `load` nothing is counted

-- a line before `load` is not counted
pub uncounted : (s : State) (n : ℕ) (bytes : List ℕ) (reply : Reply) (next : State) → is_loaded s.stage ≡ false → s.refusals ≡ 0 → Replies s n bytes reply next → next.refusals ≡ 0
uncounted s n bytes reply next early none h = by_kind reply.kind (changes_from s n bytes reply next h) where
  by_kind : (k : Kind) → Changes s k next → next.refusals ≡ 0
  by_kind kind.Silent c = c.1 ∙ none
  by_kind kind.Answer c = c.1 ∙ none
  by_kind kind.Refused c = absurd (false≢true (sym early ∙ c.0))
  by_kind kind.Fatal c = ap (λ (t : State). t.refusals) c.1 ∙ none

-- a check that goes on has no group
pub check_unloaded : (s : State) → rests Check s ≡ false → is_loaded s.stage ≡ false
check_unloaded s on = second s.ended (is_loaded s.stage) on where
  second : (a b : Bool) → (a || b) ≡ false → b ≡ false
  second true b h = absurd (false≢true (sym h))
  second false b h = h

-- where nothing is counted the status is not `Refused`
pub not_refused : (s : State) → s.refusals ≡ 0 → ended_status s ≢ Refused
not_refused s none = by_loaded (is_loaded s.stage) (nat_eq s.refusals 0) (ap (λ k. nat_eq k 0) none) where
  by_loaded : (a b : Bool) → b ≡ true → cond a (cond b Done Refused) LoadRefused ≢ Refused
  by_loaded true true is e = absurd cc
  by_loaded true false is e = absurd (false≢true is)
  by_loaded false b is e = absurd cc
