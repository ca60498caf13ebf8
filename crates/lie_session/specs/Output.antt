-- The replies to a script, what they write, and the status.
-- Own.
use Rattle.std.specs.Prelude.{◌≡◌, ◌⊎◌, ℕ, ◌+◌, if◌then◌else◌, Bool, true, false, List, [], ◌∷◌, ◌++◌, length, ◌||◌, Some}
use Rattle.std.specs.Bool.{MatchBool}
use Rattle.std.specs.List.{list_any}
use Rattle.lie_datum.specs.RootList.{RootDatum, IsLoaded}
use Rattle.lie_field.specs.FiniteField.{FiniteField}
use Rattle.lie_field.specs.Faults.{IsWithinLimit}
use Rattle.lie_session.specs.Lines.{lines_of}
use Rattle.lie_session.specs.State.{State, fresh, field_of, datum_of, is_loaded}
use Rattle.lie_session.specs.Replies.{Replies, RepliesAtEnd}
use Rattle.lie_session.specs.declared.mode.Mode.{Mode}
use Rattle.lie_session.specs.declared.mode.Mode.TheVariants.{Run, Check}
use Rattle.lie_session.specs.declared.reply.Kind.{Kind}
use Rattle.lie_session.specs.declared.reply.Kind.TheVariants as kind
use Rattle.lie_session.specs.declared.reply.Reply.{Reply}
use Rattle.lie_session.specs.declared.status.Status.{Status}
use Rattle.lie_session.specs.declared.status.Status.TheVariants.{Done, Refused, LoadRefused}

-- the session replies to no more lines: it is ended, or only the lines up to and with `load` were asked for
abbrev pub rests : Mode → State → Bool
rests Run s = s.ended
rests Check s = s.ended || is_loaded s.stage

-- From a state in which n lines were read, these are replies to the lines, in order, and last is the state after them.
-- A session that rests replies to no more.
abbrev pub RepliesTo : Mode → State → ℕ → List (List ℕ) → List Reply → State → Type 0
RepliesTo mode s n [] replies last = (replies ≡ []) × (last ≡ s)
RepliesTo mode s n (line ∷ lines) replies last =
    MatchBool (rests mode s) ((replies ≡ []) × (last ≡ s))
    ((reply : Reply) × (next : State) × (others : List Reply)
    × Replies s (n + 1) line reply next × (replies ≡ reply ∷ others) × RepliesTo mode next (n + 1) lines others last)

-- the replies of a script: up to where the session rests, or else with the reply of the end
abbrev pub AreReplies : Mode → List ℕ → List Reply → Type 0
AreReplies mode input replies =
    (front : List Reply) × (last : State) × RepliesTo mode fresh 0 (lines_of input) front last
    × MatchBool (rests mode last) (replies ≡ front)
    ((reply : Reply) × (over : State) × RepliesAtEnd last (length (lines_of input)) reply over × (replies ≡ front ++ reply ∷ []))

-- the bytes of replies, in order
abbrev pub bytes_of : List Reply → List ℕ
bytes_of [] = []
bytes_of (reply ∷ replies) = reply.bytes ++ bytes_of replies

-- whether a reply of this kind ends the session
abbrev pub is_fatal : Kind → Bool
is_fatal kind.Silent = false
is_fatal kind.Answer = false
is_fatal kind.Refused = false
is_fatal kind.Fatal = true

-- whether it is counted as a refusal
abbrev pub is_refused : Kind → Bool
is_refused kind.Silent = false
is_refused kind.Answer = false
is_refused kind.Refused = true
is_refused kind.Fatal = false

-- whether some reply is of a kind
abbrev pub has : (Kind → Bool) → List Reply → Bool
has test replies = list_any (λ (reply : Reply). test reply.kind) replies

-- the status of an input that was read to its end and replied to
abbrev pub status_of : List Reply → Status
status_of replies = if has is_fatal replies then LoadRefused else if has is_refused replies then Refused else Done

-- an output of the input, with its status
abbrev pub IsOutput : Mode → List ℕ → List ℕ → Status → Type 0
IsOutput mode input out status =
    (replies : List Reply) × AreReplies mode input replies × (out ≡ bytes_of replies) × (status ≡ status_of replies)

-- replies to the first lines of the input
abbrev pub AreFirstReplies : Mode → List ℕ → List Reply → Type 0
AreFirstReplies mode input replies =
    (front : List (List ℕ)) × (back : List (List ℕ)) × (last : State)
    × (lines_of input ≡ front ++ back) × RepliesTo mode fresh 0 front replies last

-- a prefix of the replies to the first lines, or of the whole output
abbrev pub BeginsOutput : Mode → List ℕ → List ℕ → Type 0
BeginsOutput mode input out =
    (replies : List Reply) × (rest : List ℕ) × (AreFirstReplies mode input replies ⊎ AreReplies mode input replies) × (bytes_of replies ≡ out ++ rest)

-- each field that a script brings is within the limits
abbrev pub FieldsAreSized : Type 0
FieldsAreSized =
    (mode : Mode) (lines : List (List ℕ)) (replies : List Reply) (s : State) (F : FiniteField) → RepliesTo mode fresh 0 lines replies s → field_of s.stage ≡ Some F
    → IsWithinLimit F.given

-- each datum that a script brings meets the axioms
abbrev pub DataAreLoaded : Type 0
DataAreLoaded =
    (mode : Mode) (lines : List (List ℕ)) (replies : List Reply) (s : State) (D : RootDatum) → RepliesTo mode fresh 0 lines replies s
    → datum_of s.stage ≡ Some D → IsLoaded D
