-- How far a run over the bytes of a script has come.
use Rattle.std.proofs.Common.{◌≡◌, ◌≢◌, ℕ, ◌+◌, ◌≤◌, Bool, true, false, List, [], ◌∷◌, ◌++◌, length, take, drop, ◌-◌, Option, Result, Ok, Err, refl, ap, sym, ◌∙◌, subst, append_assoc, append-nil, inl, inr, length-append, length-drop, cond, arith}
use Rattle.std.specs.Prelude.{nat_eq}
use Rattle.std.specs.Bool.{MatchBool}
use Rattle.std.proofs.lemmas.Bool.{false≢true, cases_Bool}
use Rattle.std.proofs.lemmas.List.{take-append-drop}
use Rattle.std.proofs.Math.Seq.{take-append_seam}
use Rattle.lie_kit.specs.Streams.{with_bytes}
use Rattle.lie_script.specs.Lines.{HasNoLf, kept_limit}
use Rattle.lie_session.specs.declared.mode.Mode.{Mode}
use Rattle.lie_session.specs.declared.mode.Mode.TheVariants.{Check}
use Rattle.lie_session.specs.declared.reply.Reply.{Reply}
use Rattle.lie_session.specs.declared.talk.Talk.{Talk}
use Rattle.lie_session.specs.declared.output.WriteStop.{WriteStop}
use Rattle.lie_session.specs.declared.output.WriteStop.TheVariants.{Fault as WriteFailed, NoMemory as WriteMemory}
use Rattle.lie_session.specs.declared.status.Status.TheVariants.{Done, Refused, LoadRefused}
use Rattle.lie_session.specs.Lines.{lines_of, without_cr, IsCutAtLastLf}
use Rattle.lie_session.specs.State.{State, fresh, is_loaded, ended_status}
use Rattle.lie_session.specs.Replies.{Replies, RepliesAtEnd}
use Rattle.lie_session.specs.Output.{rests, RepliesTo, AreReplies, bytes_of, IsOutput, BeginsOutput}
use Rattle.lie_session.specs.Runs.{GrewBy, BeginsWholeLines}
use Rattle.lie_session.specs.Steps.{GrewByPrefix, Answered, AnsweredAtEnd, Replied, Progress, AllReplied, StopCounts, HeardLast, stop_status}
use Rattle.lie_session.proofs.LineLemmas.{lines-append, lines-line, lines-last, no-lf-append, cut-more, cut-part, cut-whole, kept-append, kept-none, replies-kept}
use Rattle.lie_session.proofs.StatusLemmas.{live_from, begun, ended_none, status-ended, status-end, uncounted, check_unloaded}
use Rattle.lie_session.proofs.ToldLemmas.{with-with, with_none}

bytes-append : (a b : List Reply) → bytes_of (a ++ b) ≡ bytes_of a ++ bytes_of b
bytes-append [] b = refl
bytes-append (reply ∷ a) b = ap (λ z. reply.bytes ++ z) (bytes-append a b) ∙ sym (append_assoc reply.bytes (bytes_of a) (bytes_of b))

bytes-push : (a : List Reply) (reply : Reply) → bytes_of (a ++ reply ∷ []) ≡ bytes_of a ++ reply.bytes
bytes-push a reply = bytes-append a (reply ∷ []) ∙ ap (λ z. bytes_of a ++ z) (append-nil reply.bytes)

-- a part of a reply was written behind others
part_of : (replies : List Reply) (reply : Reply) (given missing : List ℕ) → reply.bytes ≡ given ++ missing → bytes_of (replies ++ reply ∷ []) ≡ (bytes_of replies ++ given) ++ missing
part_of replies reply given missing is =
    bytes-push replies reply ∙ ap (λ z. bytes_of replies ++ z) is ∙ sym (append_assoc (bytes_of replies) given missing)

-- ---- replies to lines, and to more lines

-- an open session replies to the next line first
replies_more : (mode : Mode) (s : State) (n : ℕ) (line : List ℕ) (more : List (List ℕ)) (reply : Reply) (next : State) (others : List Reply) (last : State) → rests mode s ≡ false → Replies s (n + 1) line reply next → RepliesTo mode next (n + 1) more others last → RepliesTo mode s n (line ∷ more) (reply ∷ others) last
replies_more mode s n line more reply next others last live replies on =
    subst (λ b. MatchBool b ((reply ∷ others ≡ []) × (last ≡ s))
    ((r : Reply) × (t : State) × (rest : List Reply) × Replies s (n + 1) line r t × (reply ∷ others ≡ r ∷ rest) × RepliesTo mode t (n + 1) more rest last))
    (sym live) (reply, next, others, replies, refl, on)

-- a session that rests replies to nothing
quiet : (mode : Mode) (s : State) (n : ℕ) (lines : List (List ℕ)) → rests mode s ≡ true → RepliesTo mode s n lines [] s
quiet mode s n [] e = (refl, refl)
quiet mode s n (line ∷ lines) e =
    let none : List Reply = [] in
    subst (λ b. MatchBool b ((none ≡ []) × (s ≡ s))
    ((r : Reply) × (t : State) × (rest : List Reply) × Replies s (n + 1) line r t × (none ≡ r ∷ rest) × RepliesTo mode t (n + 1) lines rest s))
    (sym e) (refl, refl)

-- replies to lines, and then to more
replies-append : (mode : Mode) (s : State) (n : ℕ) (lines more : List (List ℕ)) (replies others : List Reply) (t last : State) (m : ℕ) → RepliesTo mode s n lines replies t
    → m ≡ n + length lines → RepliesTo mode t m more others last → RepliesTo mode s n (lines ++ more) (replies ++ others) last
replies-append mode s n [] more replies others t last m h count on =
    let same : m ≡ n = omega (arith, count) in
    subst (λ (z : List Reply). RepliesTo mode s n more (z ++ others) last) (sym h.0)
    (subst (λ (z : State). RepliesTo mode z n more others last) h.1 (subst (λ (k : ℕ). RepliesTo mode t k more others last) same on))
replies-append mode s n (line ∷ lines) more replies others t last m h count on =
    elim (cases_Bool (rests mode s)) [
      | inl over ↦
          let none = ended_none mode s n (line ∷ lines) replies t over h in
          let rest = ended_none mode t m more others last (ap (rests mode) none.1 ∙ over) on in
          subst (λ (z : List Reply). RepliesTo mode s n (line ∷ lines ++ more) z last) (sym (ap (λ (z : List Reply). z ++ others) none.0 ∙ rest.0))
          (subst (λ (z : State). RepliesTo mode s n (line ∷ lines ++ more) [] z) (sym (rest.1 ∙ none.1)) (quiet mode s n (line ∷ lines ++ more) over))
      | inr live ↦
          let b = begun mode s n line lines replies t live h in
          let next : m ≡ n + 1 + length lines = omega (arith, count) in
          subst (λ (z : List Reply). RepliesTo mode s n (line ∷ lines ++ more) (z ++ others) last) (sym b.are)
          (replies_more mode s n line (lines ++ more) b.reply b.next (b.others ++ others) last live b.replied (replies-append mode b.next (n + 1) lines more b.others others t last m b.on next on))
    ]

-- a session that rests has replied to whatever comes
pub rested-append : (mode : Mode) (lines more : List (List ℕ)) (replies : List Reply) (t : State) → RepliesTo mode fresh 0 lines replies t → rests mode t ≡ true → RepliesTo mode fresh 0 (lines ++ more) replies t
rested-append mode lines more replies t h over =
    subst (λ (z : List Reply). RepliesTo mode fresh 0 (lines ++ more) z t) (append-nil replies)
    (replies-append mode fresh 0 lines more replies [] t t (0 + length lines) h refl (quiet mode t (0 + length lines) more over))

-- one more line, with its reply
pub line-append : (mode : Mode) (lines : List (List ℕ)) (line : List ℕ) (replies : List Reply) (reply : Reply) (s next : State) (n : ℕ) → RepliesTo mode fresh 0 lines replies s → n ≡ length lines
    → rests mode s ≡ false → Replies s (n + 1) line reply next → RepliesTo mode fresh 0 (lines ++ line ∷ []) (replies ++ reply ∷ []) next
line-append mode lines line replies reply s next n h count live replied =
    let from : n ≡ 0 + length lines = omega (arith, count) in
    replies-append mode fresh 0 lines (line ∷ []) replies (reply ∷ []) s next n h from (replies_more mode s n line [] reply next [] next live replied (refl, refl))

-- ---- progress

pub progress_none : (mode : Mode) (old : Option (List ℕ)) → Progress mode [] (record { session = fresh; lines = []; number = 0 }) old old
progress_none mode old =
    record {
      whole = [];
      rest = [];
      ends = record { parts = refl; ended = inl refl; unended = tt };
      replies = [];
      replied = (refl, refl);
      written = sym (with_none old);
      waits = λ live. (refl, refl);
      few = omega arith;
      unrefused = λ check. refl;
    }

-- bytes without an LF
pub progress_part : (mode : Mode) (seen taken : List ℕ) (talk : Talk) (lines : List ℕ) (old now : Option (List ℕ)) → Progress mode seen talk old now → HasNoLf taken → lines ≡ take kept_limit (talk.lines ++ taken)
    → Progress mode (seen ++ taken) (record { session = talk.session; lines = lines; number = talk.number }) old now
progress_part mode seen taken talk lines old now p none kept =
    record {
      whole = p.whole;
      rest = p.rest ++ taken;
      ends = cut-part seen p.whole p.rest taken p.ends none;
      replies = p.replies;
      replied = p.replied;
      written = p.written;
      waits = λ live. (kept ∙ ap (λ z. take kept_limit (z ++ taken)) (p.waits live).0 ∙ kept-append kept_limit p.rest taken, (p.waits live).1);
      few = omega (arith, p.few, length-append seen taken);
      unrefused = p.unrefused;
    }

-- bytes after the session rests
pub progress_rests : (mode : Mode) (seen more : List ℕ) (talk : Talk) (old now : Option (List ℕ)) → Progress mode seen talk old now → rests mode talk.session ≡ true → Progress mode (seen ++ more) talk old now
progress_rests mode seen more talk old now p over =
    let ends = cut-more seen p.whole p.rest more p.ends in
    record {
      whole = p.whole ++ ends.0;
      rest = ends.1;
      ends = ends.2;
      replies = p.replies;
      replied = subst (λ (z : List (List ℕ)). RepliesTo mode fresh 0 z p.replies talk.session) (sym (lines-append p.whole ends.0 p.ends.ended))
          (rested-append mode (lines_of p.whole) (lines_of ends.0) p.replies talk.session p.replied over);
      written = p.written;
      waits = λ live. absurd (false≢true (sym live ∙ over));
      few = omega (arith, p.few, length-append seen more);
      unrefused = p.unrefused;
    }

-- the reply to the line that is whole with these bytes and an LF
reply_of : (mode : Mode) (seen taken : List ℕ) (talk : Talk) (lines : List ℕ) (old now : Option (List ℕ)) (p : Progress mode seen talk old now) → rests mode talk.session ≡ false
    → lines ≡ take kept_limit (talk.lines ++ taken) → (reply : Reply) (next : State) → Replies talk.session (talk.number + 1) (without_cr lines) reply next
    → Replies talk.session (talk.number + 1) (without_cr (p.rest ++ taken)) reply next
reply_of mode seen taken talk lines old now p live kept reply next r =
    replies-kept talk.session (talk.number + 1) (p.rest ++ taken) reply next
    (subst (λ (z : List ℕ). Replies talk.session (talk.number + 1) (without_cr z) reply next) (kept ∙ ap (λ z. take kept_limit (z ++ taken)) (p.waits live).0 ∙ kept-append kept_limit p.rest taken) r)

-- the replies with one more
replies_with : (mode : Mode) (seen taken : List ℕ) (talk : Talk) (lines : List ℕ) (old now : Option (List ℕ)) (p : Progress mode seen talk old now) → rests mode talk.session ≡ false → HasNoLf taken
    → lines ≡ take kept_limit (talk.lines ++ taken) → (reply : Reply) (next : State) → Replies talk.session (talk.number + 1) (without_cr lines) reply next
    → RepliesTo mode fresh 0 (lines_of (p.whole ++ ((p.rest ++ taken) ++ 10 ∷ []))) (p.replies ++ reply ∷ []) next
replies_with mode seen taken talk lines old now p live none kept reply next r =
    subst (λ (z : List (List ℕ)). RepliesTo mode fresh 0 z (p.replies ++ reply ∷ []) next)
    (sym (lines-append p.whole ((p.rest ++ taken) ++ 10 ∷ []) p.ends.ended ∙ ap (λ z. lines_of p.whole ++ z) (lines-line (p.rest ++ taken) (no-lf-append p.rest taken p.ends.unended none))))
    (line-append mode (lines_of p.whole) (without_cr (p.rest ++ taken)) p.replies reply talk.session next talk.number p.replied (p.waits live).1 live
    (reply_of mode seen taken talk lines old now p live kept reply next r))

written_with : (replies : List Reply) (reply : Reply) (old now new : Option (List ℕ)) → now ≡ with_bytes old (bytes_of replies) → new ≡ with_bytes now reply.bytes → new ≡ with_bytes old (bytes_of (replies ++ reply ∷ []))
written_with replies reply old now new written grew =
    grew ∙ ap (λ z. with_bytes z reply.bytes) written ∙ with-with old (bytes_of replies) reply.bytes ∙ ap (with_bytes old) (sym (bytes-push replies reply))

unrefused_next : (mode : Mode) (s : State) (n : ℕ) (line : List ℕ) (reply : Reply) (next : State) → rests mode s ≡ false → (mode ≡ Check → s.refusals ≡ 0) → Replies s n line reply next → mode ≡ Check → next.refusals ≡ 0
unrefused_next mode s n line reply next live none r check =
    uncounted s n line reply next (check_unloaded s (subst (λ (m : Mode). rests m s ≡ false) check live)) (none check) r

-- a line is whole, and its reply was written
pub progress_line : (mode : Mode) (seen taken : List ℕ) (talk : Talk) (lines : List ℕ) (old now : Option (List ℕ)) → Progress mode seen talk old now → rests mode talk.session ≡ false → HasNoLf taken
    → lines ≡ take kept_limit (talk.lines ++ taken) → (reply : Reply) (next : Talk) (new : Option (List ℕ)) → Replies talk.session (talk.number + 1) (without_cr lines) reply next.session
    → next.number ≡ talk.number + 1 → next.lines ≡ [] → new ≡ with_bytes now reply.bytes → Progress mode (seen ++ (taken ++ 10 ∷ [])) next old new
progress_line mode seen taken talk lines old now p live none kept reply next new r number empty grew =
    let line = (p.rest ++ taken) ++ 10 ∷ [] in
    let count : length (lines_of (p.whole ++ line)) ≡ length (lines_of p.whole) + 1 =
    ap length (lines-append p.whole line p.ends.ended ∙ ap (λ z. lines_of p.whole ++ z) (lines-line (p.rest ++ taken) (no-lf-append p.rest taken p.ends.unended none)))
    ∙ length-append (lines_of p.whole) (without_cr (p.rest ++ taken) ∷ []) in
    record {
      whole = p.whole ++ line;
      rest = [];
      ends = cut-whole seen p.whole p.rest taken p.ends;
      replies = p.replies ++ reply ∷ [];
      replied = replies_with mode seen taken talk lines old now p live none kept reply next.session r;
      written = written_with p.replies reply old now new p.written grew;
      waits = λ on. (empty, number ∙ ap (λ k. k + 1) (p.waits live).1 ∙ sym count);
      few = omega (arith, number, p.few, length-append seen (taken ++ 10 ∷ []), length-append taken (10 ∷ []));
      unrefused = unrefused_next mode talk.session (talk.number + 1) (without_cr lines) reply next.session live p.unrefused r;
    }

-- ---- writing stopped among the whole lines

-- a prefix of the replies to the first whole lines, whatever bytes come behind them
begins_more : (mode : Mode) (seen more whole rest : List ℕ) (replies : List Reply) (last : State) (out missing : List ℕ) → IsCutAtLastLf seen whole rest → RepliesTo mode fresh 0 (lines_of whole) replies last
    → bytes_of replies ≡ out ++ missing → BeginsWholeLines mode (seen ++ more) out
begins_more mode seen more whole rest replies last out missing ends replied written =
    let on = cut-more seen whole rest more ends in
    record {
      whole = whole ++ on.0;
      rest = on.1;
      ends = on.2;
      replies = replies;
      first = (lines_of whole, lines_of on.0, last, lines-append whole on.0 ends.ended, replied);
      missing = missing;
      written = written;
    }

-- nothing more was written
begins_now : (mode : Mode) (seen more : List ℕ) (talk : Talk) (old now new : Option (List ℕ)) → Progress mode seen talk old now → new ≡ now → GrewBy old new (BeginsWholeLines mode (seen ++ more))
begins_now mode seen more talk old now new p same =
    (bytes_of p.replies, same ∙ p.written, begins_more mode seen more p.whole p.rest p.replies talk.session (bytes_of p.replies) [] p.ends p.replied (sym (append-nil (bytes_of p.replies))))

-- a part of a reply was written behind the others
part_written : (replies : List Reply) (reply : Reply) (old now new : Option (List ℕ)) (g : GrewByPrefix now reply.bytes new) → now ≡ with_bytes old (bytes_of replies) → new ≡ with_bytes old (bytes_of replies ++ g.0)
part_written replies reply old now new g written = g.3 ∙ ap (λ z. with_bytes z g.0) written ∙ with-with old (bytes_of replies) g.0

begins_part : (mode : Mode) (seen taken rest : List ℕ) (talk : Talk) (lines : List ℕ) (old now : Option (List ℕ)) → Progress mode seen talk old now → rests mode talk.session ≡ false → HasNoLf taken
    → lines ≡ take kept_limit (talk.lines ++ taken) → (reply : Reply) (next : State) (new : Option (List ℕ)) → Replies talk.session (talk.number + 1) (without_cr lines) reply next
    → GrewByPrefix now reply.bytes new → GrewBy old new (BeginsWholeLines mode ((seen ++ (taken ++ 10 ∷ [])) ++ rest))
begins_part mode seen taken rest talk lines old now p live none kept reply next new r g = (
  bytes_of p.replies ++ g.0,
  part_written p.replies reply old now new g p.written,
  begins_more mode (seen ++ (taken ++ 10 ∷ [])) rest (p.whole ++ ((p.rest ++ taken) ++ 10 ∷ [])) [] (p.replies ++ reply ∷ []) next (bytes_of p.replies ++ g.0) g.1
      (cut-whole seen p.whole p.rest taken p.ends) (replies_with mode seen taken talk lines old now p live none kept reply next r) (part_of p.replies reply g.0 g.1 g.2),
)

-- writing stopped in the reply to a line
pub stop_line : (mode : Mode) (seen taken rest : List ℕ) (talk : Talk) (lines : List ℕ) (old now : Option (List ℕ)) → Progress mode seen talk old now → rests mode talk.session ≡ false → HasNoLf taken
    → lines ≡ take kept_limit (talk.lines ++ taken) → (next : State) (new : Option (List ℕ)) (before later : ℕ) (stop : WriteStop)
    → Answered talk.session (talk.number + 1) (without_cr lines) next now before (Err stop) new later
    → GrewBy old new (BeginsWholeLines mode ((seen ++ (taken ++ 10 ∷ [])) ++ rest))
stop_line mode seen taken rest talk lines old now p live none kept next new before later WriteFailed a =
    begins_part mode seen taken rest talk lines old now p live none kept a.0 next new a.1 a.2
stop_line mode seen taken rest talk lines old now p live none kept next new before later WriteMemory a =
    elim a.0 [
      | inl same ↦
          subst (λ (z : List ℕ). GrewBy old new (BeginsWholeLines mode z)) (sym (append_assoc seen (taken ++ 10 ∷ []) rest))
          (begins_now mode seen ((taken ++ 10 ∷ []) ++ rest) talk old now new p same)
      | inr part ↦ begins_part mode seen taken rest talk lines old now p live none kept part.0 next new part.1 part.2
    ]

pub stop_counts : (s : State) (n : ℕ) (line : List ℕ) (next : State) (now new : Option (List ℕ)) (before later : ℕ) (stop : WriteStop) → Answered s n line next now before (Err stop) new later → StopCounts before later stop
stop_counts s n line next now new before later WriteFailed a = a.3
stop_counts s n line next now new before later WriteMemory a = a.1

-- ---- the bytes of a piece

-- the bytes up to an LF, and what is behind it
pub behind_line : (piece fed rest next taken after : List ℕ) (n : ℕ) → piece ≡ fed ++ rest → rest ≡ taken ++ 10 ∷ after → n ≡ length taken + 1 → next ≡ drop n rest → piece ≡ (fed ++ (taken ++ 10 ∷ [])) ++ next
behind_line piece fed rest next taken after n parts cuts count is =
    let line = taken ++ 10 ∷ [] in
    let all : n ≡ length line = count ∙ sym (length-append taken (10 ∷ [])) in
    let front : take n rest ≡ line = ap (λ k. take k rest) all ∙ ap (take (length line)) (cuts ∙ sym (append_assoc taken (10 ∷ []) after)) ∙ take-append_seam line after in
    parts ∙ ap (λ z. fed ++ z) (sym (take-append-drop n rest) ∙ ap (λ z. z ++ drop n rest) front ∙ ap (λ z. line ++ z) (sym is)) ∙ sym (append_assoc fed line next)

pub behind_shorter : (rest next taken after : List ℕ) (n : ℕ) → rest ≡ taken ++ 10 ∷ after → n ≡ length taken + 1 → next ≡ drop n rest → length next + 1 ≤ length rest
behind_shorter rest next taken after n cuts count is =
    let long : length rest ≡ length taken + length (10 ∷ after) = ap length cuts ∙ length-append taken (10 ∷ after) in
    let short : length next ≡ length rest - n = ap length is ∙ length-drop n rest in
    omega (arith, long, short, count)

pub seen_line : (seen fed piece rest taken after : List ℕ) → piece ≡ fed ++ rest → rest ≡ taken ++ 10 ∷ after → ((seen ++ fed) ++ (taken ++ 10 ∷ [])) ++ after ≡ seen ++ piece
seen_line seen fed piece rest taken after parts cuts =
    append_assoc (seen ++ fed) (taken ++ 10 ∷ []) after ∙ ap (λ z. (seen ++ fed) ++ z) (append_assoc taken (10 ∷ []) after ∙ sym cuts) ∙ append_assoc seen fed rest ∙ ap (λ z. seen ++ z) (sym parts)

-- ---- the end of the input

lines_seen : (seen whole rest : List ℕ) → IsCutAtLastLf seen whole rest → lines_of seen ≡ lines_of whole ++ lines_of rest
lines_seen seen whole rest ends = ap lines_of ends.parts ∙ lines-append whole rest ends.ended

-- the session rests
pub all_rested : (mode : Mode) (seen : List ℕ) (talk : Talk) (old now : Option (List ℕ)) → Progress mode seen talk old now → rests mode talk.session ≡ true → AllReplied mode seen talk old now
all_rested mode seen talk old now p over =
    record {
      replies = p.replies;
      replied = subst (λ (z : List (List ℕ)). RepliesTo mode fresh 0 z p.replies talk.session) (sym (lines_seen seen p.whole p.rest p.ends))
          (rested-append mode (lines_of p.whole) (lines_of p.rest) p.replies talk.session p.replied over);
      written = p.written;
      counted = λ live. absurd (false≢true (sym live ∙ over));
      unrefused = p.unrefused;
    }

-- no line waits
pub all_whole : (mode : Mode) (seen : List ℕ) (talk : Talk) (old now : Option (List ℕ)) → Progress mode seen talk old now → rests mode talk.session ≡ false → talk.lines ≡ [] → AllReplied mode seen talk old now
all_whole mode seen talk old now p live empty =
    let none : p.rest ≡ [] = kept-none p.rest (sym (p.waits live).0 ∙ empty) in
    let same : lines_of seen ≡ lines_of p.whole = ap lines_of (p.ends.parts ∙ ap (λ z. p.whole ++ z) none ∙ append-nil p.whole) in
    record {
      replies = p.replies;
      replied = subst (λ (z : List (List ℕ)). RepliesTo mode fresh 0 z p.replies talk.session) (sym same) p.replied;
      written = p.written;
      counted = λ on. (p.waits live).1 ∙ sym (ap length same);
      unrefused = p.unrefused;
    }

-- the last line has no LF
last_line : (mode : Mode) (seen : List ℕ) (talk : Talk) (old now : Option (List ℕ)) (p : Progress mode seen talk old now) → rests mode talk.session ≡ false → talk.lines ≢ []
    → lines_of seen ≡ lines_of p.whole ++ without_cr p.rest ∷ []
last_line mode seen talk old now p live some =
    lines_seen seen p.whole p.rest p.ends
    ∙ ap (λ z. lines_of p.whole ++ z) (lines-last p.rest p.ends.unended (λ none. some ((p.waits live).0 ∙ ap (take kept_limit) none)))

last_reply : (mode : Mode) (seen : List ℕ) (talk : Talk) (old now : Option (List ℕ)) (p : Progress mode seen talk old now) → rests mode talk.session ≡ false → talk.lines ≢ []
    → (reply : Reply) (next : State) → Replies talk.session (talk.number + 1) (without_cr talk.lines) reply next → RepliesTo mode fresh 0 (lines_of seen) (p.replies ++ reply ∷ []) next
last_reply mode seen talk old now p live some reply next r =
    subst (λ (z : List (List ℕ)). RepliesTo mode fresh 0 z (p.replies ++ reply ∷ []) next) (sym (last_line mode seen talk old now p live some))
    (line-append mode (lines_of p.whole) (without_cr p.rest) p.replies reply talk.session next talk.number p.replied (p.waits live).1 live
    (replies-kept talk.session (talk.number + 1) p.rest reply next
    (subst (λ (z : List ℕ). Replies talk.session (talk.number + 1) (without_cr z) reply next) (p.waits live).0 r)))

-- it was replied to
pub all_last : (mode : Mode) (seen : List ℕ) (talk : Talk) (old now : Option (List ℕ)) → Progress mode seen talk old now → rests mode talk.session ≡ false → talk.lines ≢ []
    → (reply : Reply) (next : Talk) (new : Option (List ℕ)) → Replies talk.session (talk.number + 1) (without_cr talk.lines) reply next.session → next.number ≡ talk.number + 1
    → new ≡ with_bytes now reply.bytes → AllReplied mode seen next old new
all_last mode seen talk old now p live some reply next new r number grew =
    record {
      replies = p.replies ++ reply ∷ [];
      replied = last_reply mode seen talk old now p live some reply next.session r;
      written = written_with p.replies reply old now new p.written grew;
      counted = λ on. number ∙ ap (λ k. k + 1) (p.waits live).1 ∙ sym (ap length (last_line mode seen talk old now p live some) ∙ length-append (lines_of p.whole) (without_cr p.rest ∷ []));
      unrefused = unrefused_next mode talk.session (talk.number + 1) (without_cr talk.lines) reply next.session live p.unrefused r;
    }

-- a part of its reply was written
last_part : (mode : Mode) (seen : List ℕ) (talk : Talk) (old now : Option (List ℕ)) → Progress mode seen talk old now → rests mode talk.session ≡ false → talk.lines ≢ []
    → (reply : Reply) (next : State) (new : Option (List ℕ)) → Replies talk.session (talk.number + 1) (without_cr talk.lines) reply next → GrewByPrefix now reply.bytes new → GrewBy old new (BeginsOutput mode seen)
last_part mode seen talk old now p live some reply next new r g = (
  bytes_of p.replies ++ g.0,
  part_written p.replies reply old now new g p.written,
  (
    p.replies ++ reply ∷ [],
    g.1,
    inl (lines_of seen, [], next, sym (append-nil (lines_of seen)), last_reply mode seen talk old now p live some reply next r),
    part_of p.replies reply g.0 g.1 g.2,
  ),
)

-- writing stopped in its reply
pub stop_last : (mode : Mode) (seen : List ℕ) (talk : Talk) (old now : Option (List ℕ)) → Progress mode seen talk old now → rests mode talk.session ≡ false → talk.lines ≢ []
    → (next : State) (new : Option (List ℕ)) (before later : ℕ) (stop : WriteStop) → Answered talk.session (talk.number + 1) (without_cr talk.lines) next now before (Err stop) new later
    → GrewBy old new (BeginsOutput mode seen)
stop_last mode seen talk old now p live some next new before later WriteFailed a = last_part mode seen talk old now p live some a.0 next new a.1 a.2
stop_last mode seen talk old now p live some next new before later WriteMemory a =
    elim a.0 [
      | inl same ↦ (
        bytes_of p.replies,
        same ∙ p.written,
        (p.replies, [], inl (lines_of p.whole, lines_of p.rest, talk.session, lines_seen seen p.whole p.rest p.ends, p.replied), sym (append-nil (bytes_of p.replies))),
      )
      | inr part ↦ last_part mode seen talk old now p live some part.0 next new part.1 part.2
    ]

-- the last line was replied to, or writing stopped in its reply
pub heard_last : (mode : Mode) (talk next : Talk) (now new : Option (List ℕ)) (before later : ℕ) (r : Result (Unit {0}) WriteStop) → rests mode talk.session ≡ false → talk.lines ≢ []
    → Answered talk.session (talk.number + 1) (without_cr talk.lines) next.session now before r new later → next.number ≡ talk.number + 1 → HeardLast mode talk next now new before later r
heard_last mode talk next now new before later (Ok u) live some a number =
    (λ seen old p. all_last mode seen talk old now p live some a.0 next new a.1 number a.2, a.3)
heard_last mode talk next now new before later (Err stop) live some a number = (
  λ seen old p. stop_last mode seen talk old now p live some next.session new before later stop a,
  stop_counts talk.session (talk.number + 1) (without_cr talk.lines) next.session now new before later stop a,
)

-- ---- the reply of the end

-- after a reply that ended the session
output_ended : (mode : Mode) (input : List ℕ) (talk : Talk) (old now : Option (List ℕ)) → AllReplied mode input talk old now → rests mode talk.session ≡ true
    → GrewBy old now (λ out. IsOutput mode input out (ended_status talk.session))
output_ended mode input talk old now all over =
    let s = talk.session in
    let are : AreReplies mode input all.replies = (
      all.replies,
      s,
      all.replied,
      subst (λ b. MatchBool b (all.replies ≡ all.replies)
          ((reply : Reply) × (next : State) × RepliesAtEnd s (length (lines_of input)) reply next × (all.replies ≡ all.replies ++ reply ∷ []))) (sym over) refl,
    ) in
    (bytes_of all.replies, all.written, (all.replies, are, refl, sym (status-ended mode (lines_of input) all.replies s all.replied over)))

-- the replies with that of the end
ended_replies : (mode : Mode) (input : List ℕ) (talk : Talk) (old now : Option (List ℕ)) (all : AllReplied mode input talk old now) → rests mode talk.session ≡ false
    → (reply : Reply) (next : State) → RepliesAtEnd talk.session talk.number reply next → AreReplies mode input (all.replies ++ reply ∷ [])
ended_replies mode input talk old now all live reply next r =
    let s = talk.session in
    let at : RepliesAtEnd s (length (lines_of input)) reply next = subst (λ (k : ℕ). RepliesAtEnd s k reply next) (all.counted live) r in (
      all.replies,
      s,
      all.replied,
      subst (λ b. MatchBool b (all.replies ++ reply ∷ [] ≡ all.replies)
          ((z : Reply) × (t : State) × RepliesAtEnd s (length (lines_of input)) z t × (all.replies ++ reply ∷ [] ≡ all.replies ++ z ∷ []))) (sym live) (reply, next, at, refl),
    )

-- after the reply of the end
output_end : (mode : Mode) (input : List ℕ) (talk : Talk) (old now : Option (List ℕ)) → AllReplied mode input talk old now → rests mode talk.session ≡ false
    → (reply : Reply) (next : State) (new : Option (List ℕ)) → RepliesAtEnd talk.session talk.number reply next → new ≡ with_bytes now reply.bytes
    → GrewBy old new (λ out. IsOutput mode input out (ended_status next))
output_end mode input talk old now all live reply next new r grew = (
  bytes_of (all.replies ++ reply ∷ []),
  written_with all.replies reply old now new all.written grew,
  (
    all.replies ++ reply ∷ [],
    ended_replies mode input talk old now all live reply next r,
    refl,
    sym (status-end mode (lines_of input) all.replies talk.session talk.number reply next all.replied (live_from mode talk.session live) r),
  ),
)

-- a part of the reply of the end was written
begins_end : (mode : Mode) (input : List ℕ) (talk : Talk) (old now : Option (List ℕ)) → AllReplied mode input talk old now → rests mode talk.session ≡ false
    → (reply : Reply) (next : State) (new : Option (List ℕ)) → RepliesAtEnd talk.session talk.number reply next → GrewByPrefix now reply.bytes new → GrewBy old new (BeginsOutput mode input)
begins_end mode input talk old now all live reply next new r g = (
  bytes_of all.replies ++ g.0,
  part_written all.replies reply old now new g all.written,
  (all.replies ++ reply ∷ [], g.1, inr (ended_replies mode input talk old now all live reply next r), part_of all.replies reply g.0 g.1 g.2),
)

-- an output with its status
chosen_status : (mode : Mode) (input : List ℕ) (old new : Option (List ℕ)) (a b : Bool) → GrewBy old new (λ out. IsOutput mode input out (cond a (cond b Done Refused) LoadRefused)) → Replied mode old input new (cond a (cond b Done Refused) LoadRefused)
chosen_status mode input old new true true h = h
chosen_status mode input old new true false h = h
chosen_status mode input old new false b h = h

replied_status : (mode : Mode) (input : List ℕ) (old new : Option (List ℕ)) (s : State) → GrewBy old new (λ out. IsOutput mode input out (ended_status s)) → Replied mode old input new (ended_status s)
replied_status mode input old new s h = chosen_status mode input old new (is_loaded s.stage) (nat_eq s.refusals 0) h

-- the session rests
pub replied_rested : (mode : Mode) (input : List ℕ) (talk : Talk) (old now : Option (List ℕ)) → AllReplied mode input talk old now → rests mode talk.session ≡ true
    → Replied mode old input now (ended_status talk.session)
replied_rested mode input talk old now all over = replied_status mode input old now talk.session (output_ended mode input talk old now all over)

-- the end was replied to
pub replied_end : (mode : Mode) (input : List ℕ) (talk : Talk) (old now : Option (List ℕ)) → AllReplied mode input talk old now → rests mode talk.session ≡ false
    → (reply : Reply) (next : State) (new : Option (List ℕ)) → RepliesAtEnd talk.session talk.number reply next → new ≡ with_bytes now reply.bytes → Replied mode old input new (ended_status next)
replied_end mode input talk old now all live reply next new r grew = replied_status mode input old new next (output_end mode input talk old now all live reply next new r grew)

-- writing stopped in the last line's reply
pub replied_stop : (mode : Mode) (input : List ℕ) (old new : Option (List ℕ)) (stop : WriteStop) → GrewBy old new (BeginsOutput mode input) → Replied mode old input new (stop_status stop)
replied_stop mode input old new WriteFailed h = h
replied_stop mode input old new WriteMemory h = h

-- writing stopped in the reply of the end
pub stop_end : (mode : Mode) (input : List ℕ) (talk : Talk) (old now : Option (List ℕ)) → AllReplied mode input talk old now → rests mode talk.session ≡ false
    → (next : State) (new : Option (List ℕ)) (before later : ℕ) (stop : WriteStop) → AnsweredAtEnd talk.session talk.number next now before (Err stop) new later → Replied mode old input new (stop_status stop)
stop_end mode input talk old now all live next new before later WriteFailed a = begins_end mode input talk old now all live a.0 next new a.1 a.2
stop_end mode input talk old now all live next new before later WriteMemory a =
    elim a.0 [
      | inl same ↦ (bytes_of all.replies, same ∙ all.written, (all.replies, [], inl (lines_of input, [], talk.session, sym (append-nil (lines_of input)), all.replied), sym (append-nil (bytes_of all.replies))))
      | inr part ↦ begins_end mode input talk old now all live part.0 next new part.1 part.2
    ]
