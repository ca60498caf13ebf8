-- Cover lines of the named modules.
use Rattle.std.proofs.Common.{◌≡◌, ◌-◌, ℕ, ◌<◌, ◌≤◌, List, [], ◌∷◌, length, Option, Some, None, Result, Ok, Err, refl, sym, ap, ◌∙◌, subst, ⊎_elim, inl, inr, arith}
use Rattle.std.specs.Prelude.{⊤, ℤ, pos, MatchOption, bytes_eq}
use Rattle.std.specs.List.{AllByRecursion}
use Rattle.std.specs.Map.{set_value}
use Rattle.std.specs.Option.{IfSome, option_map}
use Rattle.std.proofs.lemmas.Bool.{cases_lt}
use Rattle.std.proofs.lemmas.Map.Steps.{set_value_same}
use Rattle.lie_const.specs.Modules.{Module, dimension}
use Rattle.lie_datum.specs.RootList.{RootDatum}
use Rattle.lie_datum.specs.Vectors.{Vector, combination, unit, entry}
use Rattle.lie_field.specs.FiniteField.{FiniteField}
use Rattle.lie_group.specs.Groups.{IsAuditedFor}
use Rattle.lie_identities.specs.Audited.{AuditedModule}
use Rattle.lie_identities.specs.CoverLines.{CoverLines, combination_entry, IsCombination, AreCoverLines, IsFirstDifferentCoordinate, AddsCover}
use Rattle.lie_identities.specs.Covers.{IsCovering}
use Rattle.lie_identities.specs.declared.cover_lines.CoverSum.{CoverSum}
use Rattle.lie_letters.specs.SignedFrames.{SignedFrame}
use Rattle.lie_reply.specs.Modules.{covered_text}
use Rattle.lie_session.specs.Held.{LoadedGroup, IsBlockOf, IsKept}
use Rattle.lie_session.specs.Named.{NamedModule, with_its_lines, Named, Audits, named_of, named_at, module_of, with_named, audited_of}
use Rattle.lie_session.specs.Obeyed.{AddsTo}
use Rattle.lie_session.specs.Outcomes.{Outcome, quiet, answered, line_outcome, with_lines, AddsLine}
use Rattle.lie_session.specs.declared.block.Block.{Block}
use Rattle.lie_session.specs.declared.faults.CallFault.TheVariants as call
use Rattle.lie_session.specs.declared.stage.Stage.TheVariants as stage
use Rattle.lie_session.proofs.NamedLemmas.{named_found, named_module, named_set, all_set}
use Rattle.lie_session.proofs.StageLemmas.{audited_held}

-- a combination that is not 0 has a term
some_term : (c : List ℤ) (ws : List Vector) → entry (combination c ws) 0 ≡ pos 1 → 0 < length ws
some_term c (w ∷ ws) h = omega arith
some_term [] [] h = absurd cc
some_term (x ∷ c) [] h = absurd cc

-- a module that covers has a basis vector
pub some_basis : (F : FiniteField) (D : RootDatum) (v : Module) (lines : CoverLines) → 1 ≤ D.base.dim → AreCoverLines D v lines → IsCovering F D v lines → 0 < dimension v
some_basis F D v lines some are covers =
    ⊎_elim (λ w. let within = w.within in omega (arith, within)) (λ l. some_term l.0 v.weights ((are.each 1 l.0 (omega arith) some l.1).sum 0 (omega arith))) (covers.axes 1 (omega arith) some)

-- ---- one answer

-- a combination has one first coordinate that differs
one_coordinate : (v : Module) (j : ℕ) (c : List ℤ) (i k : ℕ) (x y : ℤ) → IsFirstDifferentCoordinate v j c i x → IsFirstDifferentCoordinate v j c k y → i ≡ k
one_coordinate v j c i k x y p q =
    let first = p.first in
    let other = q.first in
    elim (cases_lt i k) [
      | inl l ↦ absurd (p.different (p.here ∙ q.before (i - 1) (omega (arith, l, first))))
      | inr g ↦ elim (cases_lt k i) [
        | inl l ↦ absurd (q.different (q.here ∙ p.before (k - 1) (omega (arith, l, other))))
        | inr h ↦ omega (arith, g, h)
      ]
    ]

same_sum : (e f : CoverSum) → e.axis ≡ f.axis → e.value ≡ f.value → e ≡ f
same_sum e f axis value = λ i. record { axis = axis i; value = value i }

-- it is that of e_j, or differs
not_both : (v : Module) (j : ℕ) (c : List ℤ) (i : ℕ) (x : ℤ) → IsCombination v j c → IsFirstDifferentCoordinate v j c i x → ⊥
not_both v j c i x is p = let first = p.first in let last = p.last in p.different (p.here ∙ is.sum (i - 1) (omega (arith, first, last)))

abbrev failed : CoverSum → Result ⊤ CoverSum
failed e = Err e

-- a new line has one answer, and leaves one list of lines
pub one_line : (v : Module) (lines : CoverLines) (j : ℕ) (c : List ℤ) (x y : Result ⊤ CoverSum) (m n : CoverLines) → AddsCover v lines j c x m → AddsCover v lines j c y n → (x ≡ y) × (m ≡ n)
one_line v lines j c (Ok u) (Ok t) m n a b = (refl, a.1 ∙ sym b.1)
one_line v lines j c (Ok u) (Err e) m n a b = absurd (not_both v j c e.axis e.value a.0 b.0)
one_line v lines j c (Err e) (Ok u) m n a b = absurd (not_both v j c e.axis e.value b.0 a.0)
one_line v lines j c (Err e) (Err f) m n a b =
    let axis = one_coordinate v j c e.axis f.axis e.value f.value a.0 b.0 in
    (ap failed (same_sum e f axis (a.0.here ∙ ap (λ i. combination_entry v c (i - 1)) axis ∙ sym b.0.here)), a.1 ∙ sym b.1)

-- ---- what the code answers

-- what was added to the audited module of a name
adds_some : (entries : Audits) (name : List ℕ) (a b : AuditedModule) (j : ℕ) (c : List ℤ) (x : Result ⊤ CoverSum) (new : Audits) → audited_of entries name ≡ Some a → b ≡ record a { lines = b.lines }
    → AddsCover a.module a.lines j c x b.lines → new ≡ set_value (λ other. bytes_eq other name) entries b → AddsTo entries name j c (Some x) new
adds_some entries name a b j c x new found same adds is =
    subst (λ o. MatchOption o ((Some x ≡ None) × (new ≡ entries))
    (λ a. (y : Result ⊤ CoverSum) × (lines : CoverLines) × AddsCover a.module a.lines j c y lines × (Some x ≡ Some y) × (new ≡ set_value (λ other. bytes_eq other name) entries (record a { lines = lines })))) (sym found)
    (x, b.lines, adds, refl, is ∙ ap (λ (t : AuditedModule). set_value (λ other. bytes_eq other name) entries t) same)

-- of what the module is audited for, all but the lines stays
same_but_lines : (a b : AuditedModule) → b.module ≡ a.module → b.datum ≡ a.datum → b.constants ≡ a.constants → b.signs ≡ a.signs → b ≡ record a { lines = b.lines }
same_but_lines a b m d k s = λ i. record { «module» = m i; datum = d i; constants = k i; signs = s i; lines = b.lines }

pub adds_by : (entries : Audits) (name : List ℕ) (a b : AuditedModule) (j : ℕ) (c : List ℤ) (x : Result ⊤ CoverSum) (new : Audits) → audited_of entries name ≡ Some a → b.module ≡ a.module
    → b.datum ≡ a.datum → b.constants ≡ a.constants → b.signs ≡ a.signs → AddsCover a.module a.lines j c x b.lines → new ≡ set_value (λ other. bytes_eq other name) entries b
    → AddsTo entries name j c (Some x) new
adds_by entries name a b j c x new found m d k s adds is = adds_some entries name a b j c x new found (same_but_lines a b m d k s) adds is

pub adds_none : (entries : Audits) (name : List ℕ) (j : ℕ) (c : List ℤ) (new : Audits) → audited_of entries name ≡ None → new ≡ entries → AddsTo entries name j c None new
adds_none entries name j c new none is =
    subst (λ o. MatchOption o ((◌≡◌ {A = Option (Result ⊤ CoverSum)} None None) × (new ≡ entries))
    (λ a. (y : Result ⊤ CoverSum) × (lines : CoverLines) × AddsCover a.module a.lines j c y lines × (None ≡ Some y) × (new ≡ set_value (λ other. bytes_eq other name) entries (record a { lines = lines })))) (sym none)
    (refl, is)

-- the answer with the module that has the name, where one has it
abbrev AddsAt : Audits → List ℕ → ℕ → List ℤ → Option (Result ⊤ CoverSum) → Audits → Option AuditedModule → Type 0
AddsAt entries name j c result new o =
    MatchOption o ((result ≡ None) × (new ≡ entries))
    (λ a. (x : Result ⊤ CoverSum) × (lines : CoverLines) × AddsCover a.module a.lines j c x lines × (result ≡ Some x) × (new ≡ set_value (λ other. bytes_eq other name) entries (record a { lines = lines })))

-- the modules stay audited for the frame
kept_after : (f : SignedFrame) (entries : Audits) (name : List ℕ) (j : ℕ) (c : List ℤ) (result : Option (Result ⊤ CoverSum)) (new : Audits) → AllByRecursion (λ e. IsAuditedFor f e.1) entries
    → ((a : AuditedModule) → audited_of entries name ≡ Some a → IsAuditedFor f a) → AddsTo entries name j c result new → AllByRecursion (λ e. IsAuditedFor f e.1) new
kept_after f entries name j c result new all held h = by (audited_of entries name) refl h where
  by : (o : Option AuditedModule) → audited_of entries name ≡ o → AddsAt entries name j c result new o → AllByRecursion (λ e. IsAuditedFor f e.1) new
  by None is h = subst (AllByRecursion (λ e. IsAuditedFor f e.1)) (sym h.1) all
  by (Some a) is h =
      let is_for = held a is in
      subst (AllByRecursion (λ e. IsAuditedFor f e.1)) (sym h.4)
      (all_set (λ other. bytes_eq other name) (record a { lines = h.1 }) (IsAuditedFor f) entries all (record { datum = is_for.datum; constants = is_for.constants; signs = is_for.signs }))

-- outside of a block, what the code keeps is kept
pub still_kept : (f : SignedFrame) (entries : Audits) (name : List ℕ) (j : ℕ) (c : List ℤ) (result : Option (Result ⊤ CoverSum)) (new : Audits) (o : Option Block) → IsKept f entries o → o ≡ None
    → AddsTo entries name j c result new → IsKept f new o
still_kept f entries name j c result new o kept outside adds = record {
  audited = kept_after f entries name j c result new kept.audited (λ a is. audited_held f entries name a kept.audited is) adds;
  block = subst (λ (z : Option Block). IfSome z (IsBlockOf f (named_of new))) (sym outside) tt;
}

-- the entries that the code keeps are the named modules of the group
module _ (g : LoadedGroup) (entries : Audits) (are : named_of entries ≡ g.modules) (name : List ℕ) where
  -- the line has a number for each weight of the module of the name
  pub line_fits : (j : ℕ) (c line : List ℤ) → line ≡ c → ((a : AuditedModule) → audited_of entries name ≡ Some a → a.datum ≡ g.frame.datum)
      → option_map dimension (module_of g.modules name) ≡ Some (length c) → j ≤ g.frame.datum.base.dim
      → IfSome (audited_of entries name) (λ a. (j ≤ a.datum.base.dim) × (length line ≡ dimension a.module))
  line_fits j c line same datum known within = by (audited_of entries name) refl where
    counted : (m n : ℕ) → Some m ≡ Some n → n ≡ m
    counted m n e = cc

    by : (o : Option AuditedModule) → audited_of entries name ≡ o → IfSome o (λ a. (j ≤ a.datum.base.dim) × (length line ≡ dimension a.module))
    by None is = tt
    by (Some a) is = (
      subst (λ (D : RootDatum). j ≤ D.base.dim) (sym (datum a is)) within,
      ap length same
          ∙ counted (dimension a.module) (length c)
          (sym (ap (option_map dimension) (ap (λ m. module_of m name) (sym are) ∙ named_module entries name ∙ ap (option_map (λ (b : AuditedModule). b.module)) is)) ∙ known),
    )

  named_by : (a : AuditedModule) → audited_of entries name ≡ Some a → named_at g.modules name ≡ Some (with_its_lines a)
  named_by a is = ap (λ m. named_at m name) (sym are) ∙ named_found entries name ∙ ap (option_map with_its_lines) is

  none_by : audited_of entries name ≡ None → named_at g.modules name ≡ None
  none_by is = ap (λ m. named_at m name) (sym are) ∙ named_found entries name ∙ ap (option_map with_its_lines) is

  module _ (j : ℕ) (c : List ℤ) where
    led_none : (r : Outcome) → audited_of entries name ≡ None → r ≡ quiet (stage.Loaded g) → AddsLine g name j c r
    led_none r is h =
        subst (λ o. MatchOption o (r ≡ quiet (stage.Loaded g)) (λ v. (x : Result ⊤ CoverSum) × (new : CoverLines) × AddsCover v.module v.lines j c x new × (r ≡ line_outcome g name j v x new))) (sym (none_by is)) h

    led_some : (a : AuditedModule) (x : Result ⊤ CoverSum) (lines : CoverLines) (r : Outcome) → audited_of entries name ≡ Some a → AddsCover a.module a.lines j c x lines
        → r ≡ line_outcome g name j (with_its_lines a) x lines → AddsLine g name j c r
    led_some a x lines r is adds h =
        subst (λ o. MatchOption o (r ≡ quiet (stage.Loaded g)) (λ v. (x : Result ⊤ CoverSum) × (new : CoverLines) × AddsCover v.module v.lines j c x new × (r ≡ line_outcome g name j v x new))) (sym (named_by a is))
        (x, lines, adds, h)

    not_told : (x : Result ⊤ CoverSum) → ◌≡◌ {A = Option (Result ⊤ CoverSum)} (Some x) None → ⊥
    not_told x e = absurd cc

    told_is : (x y : Result ⊤ CoverSum) → Some x ≡ Some y → x ≡ y
    told_is x y e = cc

    -- the line is kept
    pub cover_kept : (new : Audits) (h : LoadedGroup) (text : List ℕ) → AddsTo entries name j c (Some (Ok tt)) new → h ≡ record g { modules = named_of new } → text ≡ covered_text name j
        → AddsLine g name j c (answered (stage.Loaded h) text)
    cover_kept new h text adds h_is text_is = by (audited_of entries name) refl adds where
      by : (o : Option AuditedModule) → audited_of entries name ≡ o → AddsAt entries name j c (Some (Ok tt)) new o → AddsLine g name j c (answered (stage.Loaded h) text)
      by None is k = absurd (not_told (Ok tt) k.0)
      by (Some a) is k =
          let v = with_its_lines a in
          let lines = k.1 in
          let modules : named_of new ≡ with_named g.modules name (record v { lines = lines }) =
          ap named_of k.4 ∙ named_set entries name (record a { lines = lines }) ∙ ap (λ m. with_named m name (record v { lines = lines })) are in
          led_some a (Ok tt) lines (answered (stage.Loaded h) text) is (subst (λ x. AddsCover a.module a.lines j c x lines) (sym (told_is (Ok tt) k.0 k.3)) k.2)
          (ap (λ (k : LoadedGroup). answered (stage.Loaded k) text) (h_is ∙ ap (λ (m : Named). record g { modules = m }) modules) ∙ ap (λ t. answered (stage.Loaded (with_lines g name v lines)) t) text_is)

    -- or the combination is not that of the axis, and nothing changes
    pub cover_refused : (new : Audits) (why : CoverSum) → AddsTo entries name j c (Some (Err why)) new → AddsLine g name j c (Err (call.Sum why)) × (named_of new ≡ g.modules)
    cover_refused new why adds = by (audited_of entries name) refl adds where
      by : (o : Option AuditedModule) → audited_of entries name ≡ o → AddsAt entries name j c (Some (Err why)) new o → AddsLine g name j c (Err (call.Sum why)) × (named_of new ≡ g.modules)
      by None is k = absurd (not_told (Err why) k.0)
      by (Some a) is k =
          let told : AddsCover a.module a.lines j c (Err why) k.1 = subst (λ x. AddsCover a.module a.lines j c x k.1) (sym (told_is (Err why) k.0 k.3)) k.2 in
          let unchanged : new ≡ entries =
          k.4 ∙ ap (λ lines. set_value (λ other. bytes_eq other name) entries (record a { lines = lines })) told.1 ∙ set_value_same (λ other. bytes_eq other name) entries a is in
          (led_some a (Err why) k.1 (Err (call.Sum why)) is told refl, ap named_of unchanged ∙ are)

    -- or no module has the name
    pub cover_nameless : (new : Audits) (h : LoadedGroup) → AddsTo entries name j c None new → h ≡ record g { modules = named_of new } → AddsLine g name j c (quiet (stage.Loaded h))
    cover_nameless new h adds h_is = by (audited_of entries name) refl adds where
      by : (o : Option AuditedModule) → audited_of entries name ≡ o → AddsAt entries name j c None new o → AddsLine g name j c (quiet (stage.Loaded h))
      by None is k = led_none (quiet (stage.Loaded h)) is (ap (λ (k : LoadedGroup). quiet (stage.Loaded k)) (h_is ∙ ap (λ (m : Named). record g { modules = m }) (ap named_of k.1 ∙ are)))
      by (Some a) is k = absurd (not_told k.0 (sym k.3))
