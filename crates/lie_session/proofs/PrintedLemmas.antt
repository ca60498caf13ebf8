-- The replies to lines that ask for forms.
use Rattle.std.proofs.Common.{◌≡◌, ℕ, Bool, true, false, cond, List, [], ◌++◌, Option, Some, None, refl, sym, ap, ◌∙◌, subst, ◌⊎◌, inl, inr, Result, Ok, Err}
use Rattle.std.specs.Prelude.{nat_lt, length, ◌↔◌}
use Rattle.std.specs.Option.{IsSomeAnd}
use Rattle.std.proofs.lemmas.Result.{IfOk-at_ok}
use Rattle.lie_audit.specs.WordMatrix.{frame_with}
use Rattle.lie_bruhat.proofs.PassLemmas.{first_over, IsWordOver-both}
use Rattle.lie_bruhat.proofs.RulesHold.{reversed_cancels}
use Rattle.lie_field.specs.FiniteField.{FiniteField}
use Rattle.lie_group.specs.Loading.{MakesFrame}
use Rattle.lie_group.specs.declared.faults.LoadFault.{LoadFault}
use Rattle.lie_letters.specs.SignedFrames.{SignedFrame, unsigned}
use Rattle.lie_letters.specs.Spelled.{IsWordOver, reversed}
use Rattle.lie_letters.specs.declared.letter.Letter.{Letter}
use Rattle.lie_letters.proofs.BridgeLemmas.{IsWordOver-append}
use Rattle.lie_letters.specs.GroupSpelled.{JoinedInGroup}
use Rattle.lie_reduce.proofs.OneForm.{words_have_one_form}
use Rattle.lie_reply.specs.Commands.{TellsForm, FormTextOf}
use Rattle.lie_reply.proofs.OneFormText.{one_form_text}
use Rattle.lie_reply.proofs.FormLemmas.{replies_tell_words}
use Rattle.lie_script.specs.Accepted.{Fits}
use Rattle.lie_script.specs.declared.line.Line.{Line}
use Rattle.lie_script.specs.declared.line.Line.TheVariants as line
use Rattle.lie_script.specs.declared.sizes.Wants.TheVariants as wants
use Rattle.lie_script.proofs.CallerLemmas.{accepted-fits}
use Rattle.lie_session.specs.Asked.{asked_word, TellsSame}
use Rattle.lie_session.specs.Held.{Setting, LoadedGroup}
use Rattle.lie_session.specs.declared.block.Block.{Block}
use Rattle.lie_session.specs.declared.block.Block.TheVariants as block
use Rattle.lie_session.specs.Loaded.{HasGroup}
use Rattle.lie_session.specs.Named.{listed_of}
use Rattle.lie_session.specs.Outcomes.{Outcome, answered, PrintsForm, CollectsBy, Leads}
use Rattle.lie_session.specs.Printed.{Prints, AnswersForm, PrintsOrRefuses, CollectsForm, FormsAreJoined, EqualRepliesDecideWords, AnswersSame, SameDecidesWords}
use Rattle.lie_session.specs.Output.{RepliesTo}
use Rattle.lie_session.specs.Replies.{Accepts, Refuses, Tells, Does, DoesRead, Replies, SaysLine}
use Rattle.lie_session.specs.State.{State, fresh, modules_of, block_wants, wants_of, sizes_of}
use Rattle.lie_session.specs.declared.faults.CallFault.TheVariants as call
use Rattle.lie_session.specs.declared.mode.Mode.{Mode}
use Rattle.lie_session.specs.declared.reply.Reply.{Reply}
use Rattle.lie_session.specs.declared.stage.Stage.{Stage}
use Rattle.lie_session.specs.declared.stage.Stage.TheVariants as stage
use Rattle.lie_unip.specs.Forms.{FormData}
use Rattle.lie_session.proofs.LoadedLemmas.{IsReached, reached_to}
use Rattle.lie_session.proofs.OneWordLemmas.{covering_for, word_read}

-- a state at a stage
abbrev state_at : Stage → ℕ → Bool → State
state_at at k ended = record { stage = at; refusals = k; ended = ended }

-- ---- forms of a loaded group

-- the word that is asked for is one
one_word : (w v : List Letter) → Some w ≡ Some v → w ≡ v
one_word w v e = cc

no_word : (w : List Letter) → None ≡ Some w → ⊥
no_word w e = absurd cc

by_word : (g : LoadedGroup) (v w : List Letter) (r : Outcome) → v ≡ w → PrintsForm (stage.Loaded g) g.frame v r ↔ PrintsForm (stage.Loaded g) g.frame w r
by_word g v w r e = (subst (λ (u : List Letter). PrintsForm (stage.Loaded g) g.frame u r) e, subst (λ (u : List Letter). PrintsForm (stage.Loaded g) g.frame u r) (sym e))

-- a command that asks for a form leads to the text of one
print_leads : (g : LoadedGroup) (said : Line) (w : List Letter) (r : Outcome) → asked_word g.frame.field said ≡ Some w → Leads (stage.Loaded g) said r ↔ PrintsForm (stage.Loaded g) g.frame w r
print_leads g (line.Form v) w r is = by_word g v w r (one_word v w is)
print_leads g (line.Mul u v) w r is = by_word g (u ++ v) w r (one_word (u ++ v) w is)
print_leads g (line.Inv v) w r is = by_word g (reversed g.frame.field v) w r (one_word (reversed g.frame.field v) w is)
print_leads g said w r is = absurd (no_word w is)

module _ (g : LoadedGroup) (k : ℕ) (ended : Bool) (n : ℕ) (bytes : List ℕ) (said : Line) (w : List Letter) (says : SaysLine (state_at (stage.Loaded g) k ended) bytes said)
    (asks : asked_word g.frame.field said ≡ Some w) where
  form_does : (reply : Reply) (next : State) → Replies (state_at (stage.Loaded g) k ended) n bytes reply next ↔ Prints (state_at (stage.Loaded g) k ended) g.frame w reply next
  form_does reply next = (forward, backward) where
    forward : Replies (state_at (stage.Loaded g) k ended) n bytes reply next → Prints (state_at (stage.Loaded g) k ended) g.frame w reply next
    forward r =
        let d : Does (state_at (stage.Loaded g) k ended) n said reply next = subst (DoesRead (state_at (stage.Loaded g) k ended) n reply next) says r.told in
        let p = (print_leads g said w d.0 asks).0 d.1 in
        (p.0, p.1, subst (λ x. Tells (state_at (stage.Loaded g) k ended) n x reply next) p.2 d.2)

    backward : Prints (state_at (stage.Loaded g) k ended) g.frame w reply next → Replies (state_at (stage.Loaded g) k ended) n bytes reply next
    backward p =
        let out = answered (stage.Loaded g) p.0 in
        let led = (print_leads g said w out asks).1 (p.0, p.1, refl) in
        record { told = subst (DoesRead (state_at (stage.Loaded g) k ended) n reply next) (sym says) (out, led, p.2) }

-- a line that asks for a form in a loaded group
form_from : (g : LoadedGroup) (k : ℕ) (ended : Bool) (n : ℕ) (bytes : List ℕ) (said : Line) (w : FiniteField → List Letter) → HasGroup g → SaysLine (state_at (stage.Loaded g) k ended) bytes said
    → asked_word g.frame.field said ≡ Some (w g.frame.field) → IsWordOver (unsigned g.frame) (w g.frame.field)
    → AnswersForm (state_at (stage.Loaded g) k ended) n bytes w
form_from g k ended n bytes said w there says asks over = record {
  group = g;
  stage_is = refl;
  loaded = there;
  word = over;
  answers = form_does g k ended n bytes said (w g.frame.field) says asks;
}

no_command : (b : Bool) → cond b wants.Root wants.Coroot ≡ wants.Command → ⊥
no_command true h = absurd cc
no_command false h = absurd cc

-- the word that a command asks for is one of the group
word_asked : (g : LoadedGroup) (said : Line) (w : List Letter) → HasGroup g → Fits (wants_of (stage.Loaded g)) (sizes_of (stage.Loaded g)) (listed_of g.modules) said → asked_word g.frame.field said ≡ Some w
    → IsWordOver (unsigned g.frame) w
word_asked g (line.Form v) w there fits is = subst (IsWordOver (unsigned g.frame)) (one_word v w is) (word_read g v there fits.1)
word_asked g (line.Mul u v) w there fits is =
    subst (IsWordOver (unsigned g.frame)) (one_word (u ++ v) w is) (IsWordOver-both g.frame u v (word_read g u there fits.1) (word_read g v there fits.2))
word_asked g (line.Inv v) w there fits is =
    let r = reversed g.frame.field v in
    let lawful = there.frame.lawful in
    subst (IsWordOver (unsigned g.frame)) (one_word r w is)
    (IsWordOver-append (unsigned g.frame) v r (first_over g.frame (v ++ r) [] (reversed_cancels g.frame v lawful (word_read g v there fits.1)))).1
word_asked g said w there fits is = absurd (no_word w is)

-- what a line that asks for a form is answered with
form_at : (at : Stage) (k : ℕ) (ended : Bool) (n : ℕ) (bytes : List ℕ) (said : Line) (w : FiniteField → List Letter) → IsReached at → wants_of at ≡ wants.Command
    → Fits (wants_of at) (sizes_of at) (listed_of (modules_of at)) said → SaysLine (state_at at k ended) bytes said → ((F : FiniteField) → asked_word F said ≡ Some (w F)) → AnswersForm (state_at at k ended) n bytes w
form_at (stage.Loaded g) k ended n bytes said w there awaited fits says asks =
    form_from g k ended n bytes said w there says (asks g.frame.field) (word_asked g said (w g.frame.field) there fits (asks g.frame.field))
form_at stage.Field k ended n bytes said w there awaited fits says asks = absurd cc
form_at (stage.Datum F) k ended n bytes said w there awaited fits says asks = absurd cc
form_at (stage.Lines F lines) k ended n bytes said w there awaited fits says asks = absurd (no_command _ awaited)
form_at (stage.Load setting) k ended n bytes said w there awaited fits says asks = absurd cc

-- ---- `same`

module _ (g : LoadedGroup) (there : HasGroup g) (k : ℕ) (ended : Bool) (n : ℕ) (bytes : List ℕ) (w v : List Letter) (says : SaysLine (state_at (stage.Loaded g) k ended) bytes (line.Same w v)) where
  same_does : (reply : Reply) (next : State) → Replies (state_at (stage.Loaded g) k ended) n bytes reply next
      ↔ ((text : List ℕ) × TellsSame g.frame w v text × Accepts (state_at (stage.Loaded g) k ended) (Some text) reply next)
  same_does reply next = (forward, backward) where
    forward : Replies (state_at (stage.Loaded g) k ended) n bytes reply next → (text : List ℕ) × TellsSame g.frame w v text × Accepts (state_at (stage.Loaded g) k ended) (Some text) reply next
    forward r =
        let d : Does (state_at (stage.Loaded g) k ended) n (line.Same w v) reply next = subst (DoesRead (state_at (stage.Loaded g) k ended) n reply next) says r.told in
        (d.1.0, d.1.1, subst (λ x. Tells (state_at (stage.Loaded g) k ended) n x reply next) d.1.2 d.2)

    backward : (text : List ℕ) × TellsSame g.frame w v text × Accepts (state_at (stage.Loaded g) k ended) (Some text) reply next → Replies (state_at (stage.Loaded g) k ended) n bytes reply next
    backward p = record { told = subst (DoesRead (state_at (stage.Loaded g) k ended) n reply next) (sym says) (answered (stage.Loaded g) p.0, (p.0, p.1, refl), p.2) }

  same_from : Fits (wants_of (stage.Loaded g)) (sizes_of (stage.Loaded g)) (listed_of g.modules) (line.Same w v) → AnswersSame (state_at (stage.Loaded g) k ended) n bytes w v
  same_from fits = record {
    group = g;
    stage_is = refl;
    loaded = there;
    left = word_read g w there fits.1;
    right = word_read g v there fits.2;
    answers = same_does;
  }

same_at : (at : Stage) (k : ℕ) (ended : Bool) (n : ℕ) (bytes : List ℕ) (w v : List Letter) → IsReached at → Fits (wants_of at) (sizes_of at) (listed_of (modules_of at)) (line.Same w v)
    → SaysLine (state_at at k ended) bytes (line.Same w v) → AnswersSame (state_at at k ended) n bytes w v
same_at (stage.Loaded g) k ended n bytes w v there fits says = same_from g there k ended n bytes w v says fits
same_at stage.Field k ended n bytes w v there fits says = absurd (clash fits.0) where
  clash : wants.Field ≡ wants.Command → ⊥
  clash e = absurd cc
same_at (stage.Datum F) k ended n bytes w v there fits says = absurd (clash fits.0) where
  clash : wants.Datum ≡ wants.Command → ⊥
  clash e = absurd cc
same_at (stage.Lines F lines) k ended n bytes w v there fits says = absurd (no_command _ fits.0)
same_at (stage.Load setting) k ended n bytes w v there fits says = absurd (clash fits.0) where
  clash : wants.Load ≡ wants.Command → ⊥
  clash e = absurd cc

-- ---- `collect`

module _ (setting : Setting) (there : IsReached (stage.Load setting)) (k : ℕ) (ended : Bool) (n : ℕ) (bytes : List ℕ) (w : List Letter) (says : SaysLine (state_at (stage.Load setting) k ended) bytes (line.Collect w)) where
  collect_told : (reply : Reply) (next : State) (x : Result SignedFrame LoadFault) (r : Outcome) → MakesFrame setting.field setting.datum x → CollectsBy setting w x r
      → Tells (state_at (stage.Load setting) k ended) n r reply next → PrintsOrRefuses (state_at (stage.Load setting) k ended) n setting w reply next
  collect_told reply next (Ok g) r makes by t = inl (g, makes, (by.0, by.1, subst (λ z. Tells (state_at (stage.Load setting) k ended) n z reply next) by.2 t))
  collect_told reply next (Err why) r makes by t = inr (why, makes, subst (λ z. Tells (state_at (stage.Load setting) k ended) n z reply next) by t)

  collect_does : (reply : Reply) (next : State) → Replies (state_at (stage.Load setting) k ended) n bytes reply next ↔ PrintsOrRefuses (state_at (stage.Load setting) k ended) n setting w reply next
  collect_does reply next = (forward, backward) where
    forward : Replies (state_at (stage.Load setting) k ended) n bytes reply next → PrintsOrRefuses (state_at (stage.Load setting) k ended) n setting w reply next
    forward r =
        let d : Does (state_at (stage.Load setting) k ended) n (line.Collect w) reply next = subst (DoesRead (state_at (stage.Load setting) k ended) n reply next) says r.told in
        collect_told reply next d.1.0 d.0 d.1.1 d.1.2 d.2

    backward : PrintsOrRefuses (state_at (stage.Load setting) k ended) n setting w reply next → Replies (state_at (stage.Load setting) k ended) n bytes reply next
    backward (inl p) = record { told = subst (DoesRead (state_at (stage.Load setting) k ended) n reply next) (sym says) (answered (stage.Load setting) p.2.0, (Ok p.0, p.1, (p.2.0, p.2.1, refl)), p.2.2) }
    backward (inr p) = record { told = subst (DoesRead (state_at (stage.Load setting) k ended) n reply next) (sym says) (Err (call.Load p.0), (Err p.0, p.1, refl), p.2) }

  collect_from : Fits (wants_of (stage.Load setting)) (sizes_of (stage.Load setting)) (listed_of (modules_of (stage.Load setting))) (line.Collect w) → CollectsForm (state_at (stage.Load setting) k ended) n bytes w
  collect_from fits = record {
    setting = setting;
    stage_is = refl;
    sized = there.0;
    word = λ c. fits.1 (frame_with setting.field setting.datum c) refl (record { d_is = refl; l_is = refl; m_is = refl }) there.1;
    answers = collect_does;
  }

no_load : (b : Bool) → cond b wants.Root wants.Coroot ≡ wants.Load → ⊥
no_load true h = absurd cc
no_load false h = absurd cc

collect_at : (at : Stage) (k : ℕ) (ended : Bool) (n : ℕ) (bytes : List ℕ) (w : List Letter) → IsReached at → Fits (wants_of at) (sizes_of at) (listed_of (modules_of at)) (line.Collect w)
    → SaysLine (state_at at k ended) bytes (line.Collect w) → CollectsForm (state_at at k ended) n bytes w
collect_at stage.Field k ended n bytes w there fits says = absurd (clash fits.0) where
  clash : wants.Field ≡ wants.Load → ⊥
  clash e = absurd cc
collect_at (stage.Datum F) k ended n bytes w there fits says = absurd (clash fits.0) where
  clash : wants.Datum ≡ wants.Load → ⊥
  clash e = absurd cc
collect_at (stage.Lines F lines) k ended n bytes w there fits says = absurd (no_load _ fits.0)
collect_at (stage.Load setting) k ended n bytes w there fits says = collect_from setting there k ended n bytes w says fits
collect_at (stage.Loaded g) k ended n bytes w there fits says = absurd (clash g.block fits.0) where
  no_line : (b : Bool) → cond b wants.Weight wants.Entry ≡ wants.Load → ⊥
  no_line true e = absurd cc
  no_line false e = absurd cc

  clash : (o : Option Block) → block_wants o ≡ wants.Load → ⊥
  clash None e = absurd cc
  clash (Some (block.Rows b)) e = absurd cc
  clash (Some (block.Table t)) e = absurd (no_line (nat_lt (length t.weights) t.width) e)

-- ---- in each state that a script leads to

fits_said : (s : State) (bytes : List ℕ) (said : Line) → SaysLine s bytes said → Fits (wants_of s.stage) (sizes_of s.stage) (listed_of (modules_of s.stage)) said
fits_said s bytes said says =
    IfOk-at_ok (Fits (wants_of s.stage) (sizes_of s.stage) (listed_of (modules_of s.stage))) says (accepted-fits (wants_of s.stage) (sizes_of s.stage) (listed_of (modules_of s.stage)) bytes)

-- a line that asks for a form, in a state that a script leads to
form_said : (mode : Mode) (lines : List (List ℕ)) (replies : List Reply) (s : State) (n : ℕ) (bytes : List ℕ) (said : Line) (w : FiniteField → List Letter) → RepliesTo mode fresh 0 lines replies s
    → SaysLine s bytes said → wants_of s.stage ≡ wants.Command → ((F : FiniteField) → asked_word F said ≡ Some (w F)) → AnswersForm s n bytes w
form_said mode lines replies s n bytes said w h says awaited asks =
    form_at s.stage s.refusals s.ended n bytes said w (reached_to mode lines replies s h) awaited (fits_said s bytes said says) says asks

pub forms_are_joined : FormsAreJoined
forms_are_joined = record {
  form = λ mode lines replies s n bytes w h says.
      form_said mode lines replies s n bytes (line.Form w) (λ F. w) h says (fits_said s bytes (line.Form w) says).0 (λ F. refl);
  product = λ mode lines replies s n bytes w v h says.
      form_said mode lines replies s n bytes (line.Mul w v) (λ F. w ++ v) h says (fits_said s bytes (line.Mul w v) says).0 (λ F. refl);
  inverse = λ mode lines replies s n bytes w h says.
      form_said mode lines replies s n bytes (line.Inv w) (λ F. reversed F w) h says (fits_said s bytes (line.Inv w) says).0 (λ F. refl);
  collect = λ mode lines replies s n bytes w h says.
      collect_at s.stage s.refusals s.ended n bytes w (reached_to mode lines replies s h) (fits_said s bytes (line.Collect w) says) says;
}

pub same_decides_words : SameDecidesWords
same_decides_words mode lines replies s n bytes w v h says =
    same_at s.stage s.refusals s.ended n bytes w v (reached_to mode lines replies s h) (fits_said s bytes (line.Same w v) says) says

-- ---- equal replies

-- a reply at a stage to a line that asks for a form has the text of one
abbrev PrintsAt : LoadedGroup → ℕ → Bool → ℕ → List ℕ → Line → List Letter → Reply → State → Stage → Type 0
PrintsAt g k ended n bytes said w reply next at =
    SaysLine (state_at at k ended) bytes said → asked_word g.frame.field said ≡ Some w → Replies (state_at at k ended) n bytes reply next → FormTextOf g.frame w reply.bytes

-- what a reply to a command that asks for a form prints
printed_at : (at : Stage) (g : LoadedGroup) (k : ℕ) (ended : Bool) (n : ℕ) (bytes : List ℕ) (said : Line) (w : List Letter) (reply : Reply) (next : State) → at ≡ stage.Loaded g
    → SaysLine (state_at at k ended) bytes said → asked_word g.frame.field said ≡ Some w → Replies (state_at at k ended) n bytes reply next → FormTextOf g.frame w reply.bytes
printed_at at g k ended n bytes said w reply next is = subst (PrintsAt g k ended n bytes said w reply next) (sym is) at_group where
  at_group : PrintsAt g k ended n bytes said w reply next (stage.Loaded g)
  at_group says asks r =
      let p = (form_does g k ended n bytes said w says asks reply next).0 r in
      subst (λ (z : List ℕ). FormTextOf g.frame w z) (sym (ap (λ (x : Reply). x.bytes) p.2.0)) p.1

-- two texts of forms are equal exactly if the words are joined
texts_decide : (g : LoadedGroup) → HasGroup g → (w v : List Letter) (t u : List ℕ) → FormTextOf g.frame w t → FormTextOf g.frame v u → (t ≡ u) ↔ JoinedInGroup g.frame w v
texts_decide g there w v t u x y = (
  λ same. replies_tell_words g.frame w v u there.frame.lawful there.sized (subst (λ (z : List ℕ). FormTextOf g.frame w z) same x) y,
  λ joined.
      (let one = (words_have_one_form g.frame g.carrier (covering_for g there) x.form y.form w v x.stands y.stands).0 joined in
      one_form_text g.frame.datum there.frame.lawful.lawful.loaded x.form t u x.tells (subst (λ (z : FormData). TellsForm g.frame.datum z u) (sym one) y.tells)),
)

pub equal_replies_decide_words : EqualRepliesDecideWords
equal_replies_decide_words mode other_mode lines other_lines replies other_replies s t g h n m bytes other said told w v a b next after run other_run s_is t_is frames says other_says asks other_asks r q =
    let there : HasGroup g = subst IsReached s_is (reached_to mode lines replies s run) in
    let x = printed_at s.stage g s.refusals s.ended n bytes said w a next s_is says asks r in
    let y = printed_at t.stage h t.refusals t.ended m other told v b after t_is other_says other_asks q in
    texts_decide g there w v a.bytes b.bytes x (subst (λ (f : SignedFrame). FormTextOf f v b.bytes) (sym frames) y)
