-- The replies to `cover`.
use Rattle.std.proofs.Common.{◌≡◌, ℕ, Bool, List, length, Option, Some, None, refl, sym, ap, ◌∙◌, subst, ◌⊎◌, inl, inr, Result, Ok, Err}
use Rattle.std.specs.Prelude.{⊤, ◌↔◌, ℤ, MatchOption, bytes_eq}
use Rattle.std.specs.Option.{option_map}
use Rattle.std.proofs.lemmas.Map.Made.{lookup-map_values}
use Rattle.std.proofs.lemmas.Option.{MatchOption-at_some}
use Rattle.lie_const.specs.Modules.{dimension}
use Rattle.lie_identities.specs.CoverLines.{CoverLines, with_line, AddsCover}
use Rattle.lie_identities.specs.declared.cover_lines.CoverSum.{CoverSum}
use Rattle.lie_reply.specs.Modules.{covered_text}
use Rattle.lie_script.specs.Accepted.{Fits}
use Rattle.lie_script.specs.declared.line.Line.TheVariants as line
use Rattle.lie_script.specs.declared.sizes.Wants.TheVariants as wants
use Rattle.lie_session.specs.Covered.{KeepsOrRefuses, AnswersCover, CoverLinesAreKept}
use Rattle.lie_session.specs.Held.{LoadedGroup}
use Rattle.lie_session.specs.Loaded.{HasGroup}
use Rattle.lie_session.specs.Named.{NamedModule, named_at, listed_of}
use Rattle.lie_session.specs.Outcomes.{Outcome, quiet, line_outcome, with_lines}
use Rattle.lie_session.specs.Reduced.{at_group}
use Rattle.lie_session.specs.Replies.{Accepts, Tells, Replies, SaysLine}
use Rattle.lie_session.specs.State.{State, modules_of, wants_of, sizes_of}
use Rattle.lie_session.specs.declared.reply.Reply.{Reply}
use Rattle.lie_session.specs.declared.stage.Stage.{Stage}
use Rattle.lie_session.specs.declared.stage.Stage.TheVariants as stage
use Rattle.lie_session.proofs.LoadedLemmas.{IsReached, reached_to, built_of_name}
use Rattle.lie_session.proofs.NamedLemmas.{module_at}
use Rattle.lie_session.proofs.ReducedLemmas.{group_state, done_from, replied_from, at_some, no_command, fits_line}
use Rattle.lie_session.proofs.StageLemmas.{no_block, line_within}

module _ (g : LoadedGroup) (k : ℕ) (ended : Bool) (n : ℕ) (bytes name : List ℕ) (j : ℕ) (c : List ℤ) (says : SaysLine (group_state g k ended) bytes (line.Cover name j c)) (v : NamedModule)
    (is : named_at g.modules name ≡ Some v) where
  abbrev here : State
  here = group_state g k ended

  -- what the line leads to
  abbrev Adds : Outcome → NamedModule → Type 0
  Adds r u = (x : Result ⊤ CoverSum) × (new : CoverLines) × AddsCover u.module u.lines j c x new × (r ≡ line_outcome g name j u x new)

  line_told : (x : Result ⊤ CoverSum) (new : CoverLines) (r : Outcome) (reply : Reply) (next : State) → AddsCover v.module v.lines j c x new → r ≡ line_outcome g name j v x new → Tells here n r reply next
      → KeepsOrRefuses here n g name v j c reply next
  line_told (Ok u) new r reply next adds r_is t =
      inl (adds.0, subst (λ lines. Accepts (at_group here (with_lines g name v lines)) (Some (covered_text name j)) reply next) adds.1 (subst (λ z. Tells here n z reply next) r_is t))
  line_told (Err why) new r reply next adds r_is t = inr (why, adds.0, subst (λ z. Tells here n z reply next) r_is t)

  cover_does : (reply : Reply) (next : State) → Replies here n bytes reply next ↔ KeepsOrRefuses here n g name v j c reply next
  cover_does reply next = (forward, backward) where
    forward : Replies here n bytes reply next → KeepsOrRefuses here n g name v j c reply next
    forward r =
        let d = done_from here n bytes (line.Cover name j c) says reply next r in
        let led : Adds d.0 v = MatchOption-at_some (d.0 ≡ quiet (stage.Loaded g)) (Adds d.0) v is d.1 in
        line_told led.0 led.1 d.0 reply next led.2 led.3 d.2

    led_by : (x : Result ⊤ CoverSum) (new : CoverLines) → AddsCover v.module v.lines j c x new → Tells here n (line_outcome g name j v x new) reply next → Replies here n bytes reply next
    led_by x new adds t =
        let out = line_outcome g name j v x new in
        replied_from here n bytes (line.Cover name j c) says reply next (out, at_some (out ≡ quiet (stage.Loaded g)) (Adds out) (named_at g.modules name) v is (x, new, adds, refl), t)

    backward : KeepsOrRefuses here n g name v j c reply next → Replies here n bytes reply next
    backward (inl b) = led_by (Ok tt) (with_line v.lines j c) (b.0, refl) b.1
    backward (inr b) = led_by (Err b.0) v.lines (b.1, refl) b.2

-- an image is that of a value
of_value : {A B : Type 0} (f : A → B) (o : Option A) (b : B) → option_map f o ≡ Some b → (a : A) × (o ≡ Some a) × (b ≡ f a)
of_value f None b h = absurd cc
of_value f (Some a) b h = (a, refl, cc)

cover_from : (g : LoadedGroup) (k : ℕ) (ended : Bool) (n : ℕ) (bytes name : List ℕ) (j : ℕ) (c : List ℤ) → HasGroup g
    → Fits (wants_of (stage.Loaded g)) (sizes_of (stage.Loaded g)) (listed_of g.modules) (line.Cover name j c) → SaysLine (group_state g k ended) bytes (line.Cover name j c)
    → AnswersCover (group_state g k ended) n bytes name j c
cover_from g k ended n bytes name j c there fits says =
    let dim : NamedModule → ℕ = λ v. dimension v.module in
    let found = of_value dim (named_at g.modules name) (length c) (sym (lookup-map_values dim (λ other. bytes_eq other name) g.modules) ∙ fits.1.known) in
    let v = found.0 in
    record {
      group = g;
      stage_is = refl;
      loaded = there;
      outside = no_block g.block fits.0;
      acted_on = v;
      named = found.1;
      built = built_of_name g there name v.module (module_at g.modules name v found.1);
      axis = fits.1.axis_is;
      count = found.2;
      small = line_within c fits.1.small;
      answers = cover_does g k ended n bytes name j c says v found.1;
    }

cover_at : (at : Stage) (k : ℕ) (ended : Bool) (n : ℕ) (bytes name : List ℕ) (j : ℕ) (c : List ℤ) → IsReached at → wants_of at ≡ wants.Command
    → Fits (wants_of at) (sizes_of at) (listed_of (modules_of at)) (line.Cover name j c)
    → SaysLine (record { stage = at; refusals = k; ended = ended }) bytes (line.Cover name j c) → AnswersCover (record { stage = at; refusals = k; ended = ended }) n bytes name j c
cover_at (stage.Loaded g) k ended n bytes name j c there awaited fits says = cover_from g k ended n bytes name j c there fits says
cover_at stage.Field k ended n bytes name j c there awaited fits says = absurd cc
cover_at (stage.Datum F) k ended n bytes name j c there awaited fits says = absurd cc
cover_at (stage.Lines F lines) k ended n bytes name j c there awaited fits says = absurd (no_command _ awaited)
cover_at (stage.Load setting) k ended n bytes name j c there awaited fits says = absurd cc

-- each line `cover` is kept, or is refused
pub cover_lines_are_kept : CoverLinesAreKept
cover_lines_are_kept mode lines replies s n bytes name j c h says =
    let fits = fits_line s bytes (line.Cover name j c) says in
    cover_at s.stage s.refusals s.ended n bytes name j c (reached_to mode lines replies s h) fits.0 fits says
