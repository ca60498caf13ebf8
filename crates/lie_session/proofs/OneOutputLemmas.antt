-- A script has one output, but for the forms that `collect` prints.
use Rattle.std.proofs.Common.{◌≡◌, ℕ, ◌+◌, Bool, true, false, cond, ◌||◌, List, [], ◌∷◌, ◌++◌, length, append-nil, Option, Some, None, refl, sym, ap, ap₂, ◌∙◌, subst, ◌⊎◌, inl, inr, Result, Ok, Err}
use Rattle.std.specs.Bool.{MatchBool}
use Rattle.std.specs.List.{AllByRecursion}
use Rattle.std.specs.Option.{IsSome, IsSomeAnd}
use Rattle.std.specs.Prelude.{IfOk}
use Rattle.lie_script.specs.Accepted.{Fits}
use Rattle.lie_script.specs.Reading.{reads}
use Rattle.lie_script.specs.Texts.{line_fault, refusal, name_of}
use Rattle.lie_script.specs.declared.faults.Fault.{Fault}
use Rattle.lie_script.specs.declared.faults.FaultName.TheVariants as fault
use Rattle.lie_script.specs.declared.line.Line.{Line}
use Rattle.lie_script.proofs.CallerLemmas.{accepted-fits}
use Rattle.lie_session.specs.Faults.{Words, words_of}
use Rattle.lie_session.specs.Held.{without_block}
use Rattle.lie_session.specs.Lines.{lines_of}
use Rattle.lie_session.specs.Named.{listed_of}
use Rattle.lie_session.specs.OneOutput.{AreForms, AreAlike, AreAlikeOutputs, CollectsNothing, OneOutputUpToCollect, OneOutput}
use Rattle.lie_session.specs.Outcomes.{Outcome, Leads}
use Rattle.lie_session.specs.Output.{rests, RepliesTo, AreReplies, bytes_of, has, is_fatal, is_refused, status_of, IsOutput}
use Rattle.lie_session.specs.Replies.{next_count, over, Refuses, Accepts, Tells, Does, DoesRead, Replies, RepliesAtEnd, SaysLine, line_refusal}
use Rattle.lie_session.specs.State.{State, fresh, is_loaded, modules_of, wants_of, sizes_of, may_end, dropped}
use Rattle.lie_session.specs.declared.mode.Mode.{Mode}
use Rattle.lie_session.specs.declared.mode.Mode.TheVariants.{Run, Check}
use Rattle.lie_session.specs.declared.reply.Kind.{Kind}
use Rattle.lie_session.specs.declared.reply.Kind.TheVariants as kind
use Rattle.lie_session.specs.declared.reply.Reply.{Reply}
use Rattle.lie_session.specs.declared.stage.Stage.{Stage}
use Rattle.lie_session.specs.declared.stage.Stage.TheVariants as stage
use Rattle.lie_session.specs.declared.status.Status.{Status}
use Rattle.lie_session.specs.declared.status.Status.TheVariants.{Done, Refused, LoadRefused}
use Rattle.lie_session.proofs.LoadedLemmas.{IsReached, reached_from}
use Rattle.lie_session.proofs.OneOutcome.{IsSameStage, equal, groups, AreFormTexts, AreAlikeTexts, IsSameOutcome, IsTold, leads_once}
use Rattle.lie_session.proofs.StatusLemmas.{has-append}

-- one state, up to constants that say the same
pub record IsSame (s t : State) : Type 0 where
  pub stages : IsSameStage s.stage t.stage
  pub refusals : s.refusals ≡ t.refusals
  pub ended : s.ended ≡ t.ended

-- one reply, and one state after it
abbrev IsOne : Reply → Reply → State → State → Type 0
IsOne a b next other = (a ≡ b) × IsSame next other

-- two replies and states by four equations
by_equations : (a b : Reply) (next other : State) (c : Reply) (t u : State) → a ≡ c → b ≡ c → next ≡ t → other ≡ u → IsSame t u → IsOne a b next other
by_equations a b next other c t u a_is b_is next_is other_is same =
    (a_is ∙ sym b_is, subst (λ (x : State). IsSame x other) (sym next_is) (subst (λ (x : State). IsSame t x) (sym other_is) same))

-- ---- what is the same of both

loaded_same : (at to : Stage) → IsSameStage at to → is_loaded at ≡ is_loaded to
loaded_same _ _ (equal at) = refl
loaded_same _ _ (groups g c table) = refl

read_same : (at to : Stage) → IsSameStage at to → (bytes : List ℕ) → reads (wants_of at) (sizes_of at) (listed_of (modules_of at)) bytes ≡ reads (wants_of to) (sizes_of to) (listed_of (modules_of to)) bytes
read_same _ _ (equal at) bytes = refl
read_same _ _ (groups g c table) bytes = refl

rests_same : (mode : Mode) (s t : State) → IsSame s t → rests mode s ≡ rests mode t
rests_same Run s t same = same.ended
rests_same Check s t same = ap₂ ◌||◌ same.ended (loaded_same s.stage t.stage same.stages)

dropped_same : (at to : Stage) → IsSameStage at to → IsSameStage (dropped at) (dropped to)
dropped_same _ _ (equal at) = equal (dropped at)
dropped_same _ _ (groups g c table) = groups (without_block g) c table

ends_same : (at to : Stage) → IsSameStage at to → may_end at ≡ may_end to
ends_same _ _ (equal at) = refl
ends_same _ _ (groups g c table) = refl

-- ---- one reply to a line

-- a refusal, where it is known whether a group is loaded
abbrev RefusesAs : Bool → State → List ℕ → Reply → State → Type 0
RefusesAs loaded s text reply next =
    (reply ≡ record { kind = cond loaded kind.Refused kind.Fatal; bytes = text }) × (next ≡ cond loaded (record s { stage = dropped s.stage; refusals = next_count s.refusals }) (over s))

refused_once : (loaded : Bool) (s t : State) (text : List ℕ) (a b : Reply) (next other : State) → IsSame s t → RefusesAs loaded s text a next → RefusesAs loaded t text b other → IsOne a b next other
refused_once true s t text a b next other same h k =
    by_equations a b next other (record { kind = kind.Refused; bytes = text }) (record s { stage = dropped s.stage; refusals = next_count s.refusals })
    (record t { stage = dropped t.stage; refusals = next_count t.refusals }) h.0 k.0 h.1 k.1
    (record { stages = dropped_same s.stage t.stage same.stages; refusals = ap next_count same.refusals; ended = same.ended })
refused_once false s t text a b next other same h k =
    by_equations a b next other (record { kind = kind.Fatal; bytes = text }) (over s) (over t) h.0 k.0 h.1 k.1 (record { stages = equal stage.Field; refusals = same.refusals; ended = refl })

refuses_once : (s t : State) (text : List ℕ) (a b : Reply) (next other : State) → IsSame s t → Refuses s text a next → Refuses t text b other → IsOne a b next other
refuses_once s t text a b next other same h k =
    refused_once (is_loaded s.stage) s t text a b next other same h
    (subst (λ z. RefusesAs z t text b other) (sym (loaded_same s.stage t.stage same.stages)) k)

-- two replies to the line: one, or answers with texts of forms
abbrev AreSameReplies : Stage → Line → Reply → Reply → Type 0
AreSameReplies at said a b = (a ≡ b) ⊎ ((a.kind ≡ kind.Answer) × (b.kind ≡ kind.Answer) × AreFormTexts at said a.bytes b.bytes)

-- with one state after them
abbrev AreAnswered : Stage → Line → Reply → Reply → State → State → Type 0
AreAnswered at said a b next other = AreSameReplies at said a b × IsSame next other

-- two states by two equations
by_states : (next other t u : State) → next ≡ t → other ≡ u → IsSame t u → IsSame next other
by_states next other t u next_is other_is same = subst (λ (x : State). IsSame x other) (sym next_is) (subst (λ (x : State). IsSame t x) (sym other_is) same)

one_answered : (at : Stage) (said : Line) (a b : Reply) (next other : State) → IsOne a b next other → AreAnswered at said a b next other
one_answered at said a b next other one = (inl one.0, one.1)

texts_once : (at : Stage) (said : Line) (s t : State) (x y : List ℕ) (a b : Reply) (next other : State) → IsSame s t → (x ≡ y) ⊎ AreFormTexts at said x y
    → (a ≡ record { kind = kind.Answer; bytes = x }) × (next ≡ s) → (b ≡ record { kind = kind.Answer; bytes = y }) × (other ≡ t) → AreAnswered at said a b next other
texts_once at said s t x y a b next other same (inl e) h k =
    (inl (h.0 ∙ ap (λ (z : List ℕ). answer z) e ∙ sym k.0), by_states next other s t h.1 k.1 same) where
      answer : List ℕ → Reply
      answer z = record { kind = kind.Answer; bytes = z }
texts_once at said s t x y a b next other same (inr forms) h k = (
  inr (
    ap (λ (r : Reply). r.kind) h.0,
    ap (λ (r : Reply). r.kind) k.0,
    subst (λ (z : List ℕ). AreFormTexts at said z b.bytes) (sym (ap (λ (r : Reply). r.bytes) h.0)) (subst (λ (z : List ℕ). AreFormTexts at said x z) (sym (ap (λ (r : Reply). r.bytes) k.0)) forms),
  ),
  by_states next other s t h.1 k.1 same,
)

accepts_once : (at : Stage) (said : Line) (s t : State) (x y : Option (List ℕ)) (a b : Reply) (next other : State) → IsSame s t → AreAlikeTexts at said x y → Accepts s x a next → Accepts t y b other
    → AreAnswered at said a b next other
accepts_once at said s t None None a b next other same alike h k =
    one_answered at said a b next other (by_equations a b next other (record { kind = kind.Silent; bytes = [] }) s t h.0 k.0 h.1 k.1 same)
accepts_once at said s t None (Some y) a b next other same alike h k = absurd alike
accepts_once at said s t (Some x) None a b next other same alike h k = absurd alike
accepts_once at said s t (Some x) (Some y) a b next other same alike h k = texts_once at said s t x y a b next other same alike h k

worded_once : (s t : State) (n : ℕ) (words : Option Words) (a b : Reply) (next other : State) → IsSame s t → IsSomeAnd words (λ w. Refuses s (refusal n w.0 w.1) a next)
    → IsSomeAnd words (λ w. Refuses t (refusal n w.0 w.1) b other) → IsOne a b next other
worded_once s t n None a b next other same h k = absurd h
worded_once s t n (Some w) a b next other same h k = refuses_once s t (refusal n w.0 w.1) a b next other same h k

tells_once : (at : Stage) (said : Line) (s t : State) (n : ℕ) (r q : Outcome) (a b : Reply) (next other : State) → IsSame s t → IsSameOutcome at said r q → Tells s n r a next → Tells t n q b other
    → AreAnswered at said a b next other
tells_once at said s t n (Ok x) (Ok y) a b next other same one h k =
    accepts_once at said (record s { stage = x.0 }) (record t { stage = y.0 }) x.1 y.1 a b next other (record { stages = one.0; refusals = same.refusals; ended = same.ended }) one.1 h k
tells_once at said s t n (Ok x) (Err why) a b next other same one h k = absurd one
tells_once at said s t n (Err why) (Ok y) a b next other same one h k = absurd one
tells_once at said s t n (Err why) (Err why') a b next other same one h k =
    one_answered at said a b next other
    (worded_once s t n (words_of why) a b next other same h (subst (λ z. IsSomeAnd (words_of z) (λ w. Refuses t (refusal n w.0 w.1) b other)) (sym one) k))

some_of : (o : Option Words) (P : Words → Type 0) → IsSomeAnd o P → IsSome o
some_of None P h = absurd h
some_of (Some w) P h = refl

told_from : (s : State) (n : ℕ) (r : Outcome) (reply : Reply) (next : State) → Tells s n r reply next → IsTold r
told_from s n (Ok x) reply next h = tt
told_from s n (Err why) reply next h = some_of (words_of why) (λ w. Refuses s (refusal n w.0 w.1) reply next) h

-- what two replies to a line that says this are
alike_from : (s : State) (bytes : List ℕ) (said : Line) (a b : Reply) → SaysLine s bytes said → AreSameReplies s.stage said a b → (a ≡ b) ⊎ AreForms s bytes a b
alike_from s bytes said a b says (inl same) = inl same
alike_from s bytes said a b says (inr forms) =
    let texts = forms.2 in
    inr (record {
      word = texts.word;
      says = says ∙ ap (λ z. read_as z) texts.says;
      frame = texts.frame;
      other = texts.other;
      field_is = texts.field_is;
      datum_is = texts.datum_is;
      same = texts.same;
      kinds = (forms.0, forms.1);
      left = texts.left;
      right = texts.right;
    }) where
      read_as : Line → Result Line Fault
      read_as z = Ok z

-- two replies, with one state after them
abbrev AreReplied : State → List ℕ → Reply → Reply → State → State → Type 0
AreReplied s bytes a b next other = ((a ≡ b) ⊎ AreForms s bytes a b) × IsSame next other

replied_once : (s t : State) (n : ℕ) (bytes : List ℕ) (read : Result Line Fault) (a b : Reply) (next other : State) → reads (wants_of s.stage) (sizes_of s.stage) (listed_of (modules_of s.stage)) bytes ≡ read
    → IsReached s.stage → IsReached t.stage → IsSame s t → IfOk read (Fits (wants_of s.stage) (sizes_of s.stage) (listed_of (modules_of s.stage)))
    → DoesRead s n a next read → DoesRead t n b other read → AreReplied s bytes a b next other
replied_once s t n bytes (Ok said) a b next other is there here same fits h k =
    let one = tells_once s.stage said s t n h.0 k.0 a b next other same
    (leads_once s.stage t.stage same.stages said h.0 k.0 there here fits (told_from s n h.0 a next h.2) (told_from t n k.0 b other k.2) h.1 k.1) h.2 k.2 in
    (alike_from s bytes said a b is one.0, one.1)
replied_once s t n bytes (Err why) a b next other is there here same fits h k =
    let one = refuses_once s t (line_refusal n (line_fault why)) a b next other same h k in
    (inl one.0, one.1)

-- two replies to one line are alike
replies_once : (s t : State) (n : ℕ) (bytes : List ℕ) (a b : Reply) (next other : State) → IsReached s.stage → IsReached t.stage → IsSame s t → Replies s n bytes a next → Replies t n bytes b other → AreReplied s bytes a b next other
replies_once s t n bytes a b next other there here same h k =
    replied_once s t n bytes (reads (wants_of s.stage) (sizes_of s.stage) (listed_of (modules_of s.stage)) bytes) a b next other refl there here same
    (accepted-fits (wants_of s.stage) (sizes_of s.stage) (listed_of (modules_of s.stage)) bytes) h.told
    (subst (DoesRead t n b other) (sym (read_same s.stage t.stage same.stages bytes)) k.told)

-- replies to lines are alike
one_run : (mode : Mode) (s t : State) (n : ℕ) (lines : List (List ℕ)) (a b : List Reply) (last end : State) → IsReached s.stage → IsReached t.stage → IsSame s t → RepliesTo mode s n lines a last → RepliesTo mode t n lines b end
    → AreAlike mode s n lines a b × IsSame last end
one_run mode s t n [] a b last end there here same h k = ((h.0, k.0), by_states last end s t h.1 k.1 same)
one_run mode s t n (bytes ∷ lines) a b last end there here same h k =
    by_rest (rests mode s) h
    (subst (λ z. MatchBool z ((b ≡ []) × (end ≡ t)) ((r : Reply) × (next : State) × (others : List Reply) × Replies t (n + 1) bytes r next × (b ≡ r ∷ others) × RepliesTo mode next (n + 1) lines others end))
    (sym (rests_same mode s t same)) k)
    (λ next other others others' reached other_reached alike on on'. one_run mode next other (n + 1) lines others others' last end reached other_reached alike on on') where
      by_rest : (rest : Bool)
          → MatchBool rest ((a ≡ []) × (last ≡ s)) ((r : Reply) × (next : State) × (others : List Reply) × Replies s (n + 1) bytes r next × (a ≡ r ∷ others) × RepliesTo mode next (n + 1) lines others last)
          → MatchBool rest ((b ≡ []) × (end ≡ t)) ((r : Reply) × (next : State) × (others : List Reply) × Replies t (n + 1) bytes r next × (b ≡ r ∷ others) × RepliesTo mode next (n + 1) lines others end)
          → ((next other : State) (others others' : List Reply) → IsReached next.stage → IsReached other.stage → IsSame next other → RepliesTo mode next (n + 1) lines others last → RepliesTo mode other (n + 1) lines others' end
          → AreAlike mode next (n + 1) lines others others' × IsSame last end)
          → MatchBool rest ((a ≡ []) × (b ≡ []))
          ((x : Reply) × (y : Reply) × (next : State) × (xs : List Reply) × (ys : List Reply) × Replies s (n + 1) bytes x next × ((x ≡ y) ⊎ AreForms s bytes x y)
          × (a ≡ x ∷ xs) × (b ≡ y ∷ ys) × AreAlike mode next (n + 1) lines xs ys)
          × IsSame last end
      by_rest true h k on = ((h.0, k.0), by_states last end s t h.1 k.1 same)
      by_rest false h k on =
          let one = replies_once s t (n + 1) bytes h.0 k.0 h.1 k.1 there here same h.3 k.3 in
          let more = on h.1 k.1 h.2 k.2 (reached_from s (n + 1) bytes h.0 h.1 there h.3) (reached_from t (n + 1) bytes k.0 k.1 here k.3) one.1 h.5 k.5 in
          ((h.0, k.0, h.1, h.2, k.2, h.3, one.0, h.4, k.4, more.0), more.1)

-- one reply of the end
end_once : (last end : State) (n : ℕ) (a b : Reply) (next other : State) → IsSame last end → RepliesAtEnd last n a next → RepliesAtEnd end n b other → a ≡ b
end_once last end n a b next other same h k = by_end (may_end last.stage) h (subst (λ z. AtEnd z end b other) (sym (ends_same last.stage end.stage same.stages)) k) where
  AtEnd : Bool → State → Reply → State → Type 0
  AtEnd ends s reply done =
      MatchBool ends (Accepts (record s { ended = true }) None reply done) (Refuses (record s { ended = true }) (refusal n (name_of fault.End) []) reply done)

  by_end : (ends : Bool) → AtEnd ends last a next → AtEnd ends end b other → a ≡ b
  by_end true h k = h.0 ∙ sym k.0
  by_end false h k =
      (refuses_once (record last { ended = true }) (record end { ended = true }) (refusal n (name_of fault.End) []) a b next other
      (record { stages = same.stages; refusals = same.refusals; ended = refl }) h k).0

-- behind replies there is nothing, or the reply of the end
one_end : (n : ℕ) (front back : List Reply) (last end : State) (a b : List Reply) (rest : Bool) → IsSame last end
    → MatchBool rest (a ≡ front) ((r : Reply) × (done : State) × RepliesAtEnd last n r done × (a ≡ front ++ r ∷ []))
    → MatchBool rest (b ≡ back) ((r : Reply) × (done : State) × RepliesAtEnd end n r done × (b ≡ back ++ r ∷ [])) → (tail : List Reply) × (a ≡ front ++ tail) × (b ≡ back ++ tail)
one_end n front back last end a b true same h k = ([], h ∙ sym (append-nil front), k ∙ sym (append-nil back))
one_end n front back last end a b false same h k =
    (h.0 ∷ [], h.3, k.3 ∙ ap (λ (r : Reply). back ++ r ∷ []) (sym (end_once last end n h.0 k.0 h.1 k.1 same h.2 k.2)))

-- what two runs of a script are
record AreSameRuns (mode : Mode) (input : List ℕ) (a b : List Reply) : Type 0 where
  pub front : List Reply
  pub back : List Reply
  pub tail : List Reply
  pub alike : AreAlike mode fresh 0 (lines_of input) front back
  pub left : a ≡ front ++ tail
  pub right : b ≡ back ++ tail

one_script : (mode : Mode) (input : List ℕ) (a b : List Reply) → AreReplies mode input a → AreReplies mode input b → AreSameRuns mode input a b
one_script mode input a b h k =
    let n = length (lines_of input) in
    let one = one_run mode fresh fresh 0 (lines_of input) h.0 k.0 h.1 k.1 tt tt (record { stages = equal stage.Field; refusals = refl; ended = refl }) h.2 k.2 in
    let again : MatchBool (rests mode h.1) (b ≡ k.0) ((r : Reply) × (done : State) × RepliesAtEnd k.1 n r done × (b ≡ k.0 ++ r ∷ [])) =
    subst (λ z. MatchBool z (b ≡ k.0) ((r : Reply) × (done : State) × RepliesAtEnd k.1 n r done × (b ≡ k.0 ++ r ∷ []))) (sym (rests_same mode h.1 k.1 one.1)) k.3 in
    let end = one_end n h.0 k.0 h.1 k.1 a b (rests mode h.1) one.1 h.3 again in
    record { front = h.0; back = k.0; tail = end.0; alike = one.0; left = end.1; right = end.2 }

-- ---- kinds, and so the status

kind_of_alike : (s : State) (bytes : List ℕ) (a b : Reply) → (a ≡ b) ⊎ AreForms s bytes a b → a.kind ≡ b.kind
kind_of_alike s bytes a b (inl same) = ap (λ (r : Reply). r.kind) same
kind_of_alike s bytes a b (inr forms) = forms.kinds.0 ∙ sym forms.kinds.1

has_alike : (test : Kind → Bool) (mode : Mode) (s : State) (n : ℕ) (lines : List (List ℕ)) (a b : List Reply) → AreAlike mode s n lines a b → has test a ≡ has test b
has_alike test mode s n [] a b h = ap (has test) (h.0 ∙ sym h.1)
has_alike test mode s n (bytes ∷ lines) a b h = by_rest (rests mode s) h (λ next xs ys on. has_alike test mode next (n + 1) lines xs ys on) where
  by_rest : (rest : Bool) → MatchBool rest ((a ≡ []) × (b ≡ []))
      ((x : Reply) × (y : Reply) × (next : State) × (xs : List Reply) × (ys : List Reply) × Replies s (n + 1) bytes x next × ((x ≡ y) ⊎ AreForms s bytes x y)
      × (a ≡ x ∷ xs) × (b ≡ y ∷ ys) × AreAlike mode next (n + 1) lines xs ys)
      → ((next : State) (xs ys : List Reply) → AreAlike mode next (n + 1) lines xs ys → has test xs ≡ has test ys) → has test a ≡ has test b
  by_rest true h on = ap (has test) (h.0 ∙ sym h.1)
  by_rest false h on =
      ap (has test) h.7 ∙ ap₂ (λ (k : Kind) (rest : Bool). test k || rest) (kind_of_alike s bytes h.0 h.1 h.6) (on h.2 h.3 h.4 h.9) ∙ sym (ap (has test) h.8)

has_same : (test : Kind → Bool) (mode : Mode) (input : List ℕ) (a b : List Reply) → AreSameRuns mode input a b → has test a ≡ has test b
has_same test mode input a b runs =
    ap (has test) runs.left ∙ has-append test runs.front runs.tail ∙ ap (λ z. z || has test runs.tail) (has_alike test mode fresh 0 (lines_of input) runs.front runs.back runs.alike)
    ∙ sym (has-append test runs.back runs.tail) ∙ sym (ap (has test) runs.right)

status_same : (mode : Mode) (input : List ℕ) (a b : List Reply) → AreSameRuns mode input a b → status_of a ≡ status_of b
status_same mode input a b runs =
    ap₂ (λ (fatal : Bool) (refused : Bool). cond fatal LoadRefused (cond refused Refused Done)) (has_same is_fatal mode input a b runs) (has_same is_refused mode input a b runs)

-- two outputs of a script are the same but for forms that `collect` prints, and have one status
pub one_output_up_to_collect : OneOutputUpToCollect
one_output_up_to_collect mode input out other status status' h k =
    let runs = one_script mode input h.0 k.0 h.1 k.1 in (
      (runs.front, runs.back, runs.tail, runs.alike, h.2 ∙ ap bytes_of runs.left, k.2 ∙ ap bytes_of runs.right),
      h.3 ∙ status_same mode input h.0 k.0 runs ∙ sym k.3,
    )

-- ---- without `collect`

no_collect : (s : State) (bytes : List ℕ) (a b : Reply) → CollectsNothing bytes → (a ≡ b) ⊎ AreForms s bytes a b → a ≡ b
no_collect s bytes a b none (inl same) = same
no_collect s bytes a b none (inr forms) = absurd (none s forms.word forms.says)

equal_alike : (mode : Mode) (s : State) (n : ℕ) (lines : List (List ℕ)) (a b : List Reply) → AllByRecursion CollectsNothing lines → AreAlike mode s n lines a b → a ≡ b
equal_alike mode s n [] a b none h = h.0 ∙ sym h.1
equal_alike mode s n (bytes ∷ lines) a b none h = by_rest (rests mode s) h (λ next xs ys on. equal_alike mode next (n + 1) lines xs ys none.1 on) where
  by_rest : (rest : Bool) → MatchBool rest ((a ≡ []) × (b ≡ []))
      ((x : Reply) × (y : Reply) × (next : State) × (xs : List Reply) × (ys : List Reply) × Replies s (n + 1) bytes x next × ((x ≡ y) ⊎ AreForms s bytes x y)
      × (a ≡ x ∷ xs) × (b ≡ y ∷ ys) × AreAlike mode next (n + 1) lines xs ys)
      → ((next : State) (xs ys : List Reply) → AreAlike mode next (n + 1) lines xs ys → xs ≡ ys) → a ≡ b
  by_rest true h on = h.0 ∙ sym h.1
  by_rest false h on = h.7 ∙ ap₂ (λ (r : Reply) (z : List Reply). r ∷ z) (no_collect s bytes h.0 h.1 none.0 h.6) (on h.2 h.3 h.4 h.9) ∙ sym h.8

-- a script without lines `collect` has one output
pub one_output : OneOutput
one_output mode input out other status status' none h k =
    let runs = one_script mode input h.0 k.0 h.1 k.1 in
    let same : h.0 ≡ k.0 = runs.left ∙ ap (λ (z : List Reply). z ++ runs.tail) (equal_alike mode fresh 0 (lines_of input) runs.front runs.back none runs.alike) ∙ sym runs.right in
    (h.2 ∙ ap bytes_of same ∙ sym k.2, h.3 ∙ ap status_of same ∙ sym k.3)
