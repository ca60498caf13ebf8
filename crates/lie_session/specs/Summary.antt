-- The summary of a demonstration.
-- Own: its words.
--
--   heard      the replies that say something
--   refused    the replies that are refusals, a fatal one too
--   yes        the replies that are `yes`
use Rattle.std.specs.Prelude.{◌≡◌, ℕ, Bool, true, false, ◌||◌, List, ◌++◌, length, codes, bytes_eq, decimal, filter}
use Rattle.lie_gen.specs.Demonstration.{demonstration}
use Rattle.lie_session.specs.Lines.{lines_of}
use Rattle.lie_session.specs.Output.{AreReplies, is_fatal, is_refused, status_of}
use Rattle.lie_session.specs.declared.mode.Mode.TheVariants.{Run}
use Rattle.lie_session.specs.declared.reply.Kind.{Kind}
use Rattle.lie_session.specs.declared.reply.Kind.TheVariants as kind
use Rattle.lie_session.specs.declared.reply.Reply.{Reply}
use Rattle.lie_session.specs.declared.status.Status.{Status}

-- whether a reply of this kind says something
abbrev pub is_heard : Kind → Bool
is_heard kind.Silent = false
is_heard kind.Answer = true
is_heard kind.Refused = true
is_heard kind.Fatal = true

-- whether it is a refusal
abbrev pub is_refusal : Kind → Bool
is_refusal k = is_refused k || is_fatal k

-- the replies that say something
abbrev pub heard : List Reply → List Reply
heard replies = filter (λ (reply : Reply). is_heard reply.kind) replies

-- those that are refusals
abbrev pub refused : List Reply → List Reply
refused replies = filter (λ (reply : Reply). is_refusal reply.kind) replies

-- those that are `yes`
abbrev pub yes : List Reply → List Reply
yes replies = filter (λ (reply : Reply). bytes_eq reply.bytes (codes "yes\n")) replies

-- a name and a number
abbrev pub entry : List ℕ → ℕ → List ℕ
entry name n = name ++ decimal n

-- the summary of replies to the demonstration of n, which has so many lines
abbrev pub summary : ℕ → ℕ → List Reply → List ℕ
summary n lines replies =
    entry (codes "demo ") n ++ entry (codes " lines ") lines ++ entry (codes " replies ") (length (heard replies))
    ++ entry (codes " refused ") (length (refused replies)) ++ entry (codes " yes ") (length (yes replies)) ++ codes "\n"

-- a summary of the replies to the demonstration of n, with the status of these replies
abbrev pub IsSummary : ℕ → List ℕ → Status → Type 0
IsSummary n out status =
    (replies : List Reply) × AreReplies Run (demonstration n) replies
    × (out ≡ summary n (length (lines_of (demonstration n))) replies) × (status ≡ status_of replies)

-- a prefix of a summary
abbrev pub BeginsSummary : ℕ → List ℕ → Type 0
BeginsSummary n out = (whole : List ℕ) × (rest : List ℕ) × (status : Status) × IsSummary n whole status × (whole ≡ out ++ rest)
