-- A module has one first fault of covering, and a matrix on a covering module one text; constants that say the same change neither.
use Rattle.std.proofs.Common.{◌≡◌, ℕ, List, ◌∷◌, ◌++◌, Option, Some, None, Result, Ok, Err, refl, sym, ap, ◌∙◌, subst, inl, inr, arith}
use Rattle.std.specs.Prelude.{⊤, ℤ, pos, map}
use Rattle.std.proofs.lemmas.Bool.{cases_lt}
use Rattle.lie_audit.specs.WordMatrix.{word_matrix}
use Rattle.lie_bruhat.proofs.ListLemmas.{letters_over, moved_over}
use Rattle.lie_bruhat.proofs.PassLemmas.{IsWordOver-both}
use Rattle.lie_const.specs.ConstantTables.{ConstantTable}
use Rattle.lie_const.specs.Modules.{Module}
use Rattle.lie_datum.specs.RootList.{RootDatum}
use Rattle.lie_field.specs.FiniteField.{FiniteField}
use Rattle.lie_group.specs.Groups.{MeetsFrame}
use Rattle.lie_identities.specs.CoverLines.{CoverLines, AreCoverLines}
use Rattle.lie_identities.specs.Covers.{IsLive, IsLiveAt, IsCovering, IsFirstDead, IsFirstUncovered, IsCoverFault, Covers}
use Rattle.lie_identities.specs.declared.covering.CoverFault.{CoverFault}
use Rattle.lie_identities.specs.declared.covering.CoverFault.TheVariants.{Dead, Uncovered}
use Rattle.lie_letters.specs.SignedFrames.{SignedFrame, unsigned, IsLawfulSigned}
use Rattle.lie_letters.specs.Spelled.{IsWordOver, root_letters}
use Rattle.lie_letters.specs.declared.letter.Letter.TheVariants.{H, N}
use Rattle.lie_reduce.specs.Reduction.{HasFormMatrix, IsNoWordMatrix}
use Rattle.lie_reduce.specs.UniqueForms.{IsCoveringFor}
use Rattle.lie_reduce.proofs.OneForm.{forms_are_unique, some_shortest}
use Rattle.lie_reply.specs.Commands.{TellsForm}
use Rattle.lie_reply.proofs.OneFormText.{one_form_text}
use Rattle.lie_ring.specs.Matrices.{Matrix}
use Rattle.lie_unip.specs.Forms.{FormData, IsForm, IsShortest, nonzero_letters, form_word}
use Rattle.lie_session.specs.Held.{LoadedGroup}
use Rattle.lie_session.specs.Loaded.{HasGroup}
use Rattle.lie_session.specs.Outcomes.{TellsReduction}
use Rattle.lie_session.proofs.OneWordLemmas.{with_constants, form_for}

-- ---- covering

one_dead : (F : FiniteField) (D : RootDatum) (v : Module) (r s : ℤ) → IsFirstDead F D v r → IsFirstDead F D v s → r ≡ s
one_dead F D v r s p q = elim (cases_lt p.k q.k) [
  | inl l ↦ absurd (p.dead (subst (IsLiveAt F v) (sym p.number) (q.before p.k p.first l)))
  | inr g ↦ elim (cases_lt q.k p.k) [
    | inl l ↦ absurd (q.dead (subst (IsLiveAt F v) (sym q.number) (p.before q.k q.first l)))
    | inr h ↦ p.number ∙ ap pos (omega (arith, g, h)) ∙ sym q.number
  ]
]

live_not_dead : (F : FiniteField) (D : RootDatum) (v : Module) (r : ℤ) → IsLive F D v → IsFirstDead F D v r → ⊥
live_not_dead F D v r live p = p.dead (subst (IsLiveAt F v) (sym p.number) (live p.k p.first p.last))

one_uncovered : (D : RootDatum) (v : Module) (lines : CoverLines) (i j : ℕ) → IsFirstUncovered D v lines i → IsFirstUncovered D v lines j → i ≡ j
one_uncovered D v lines i j p q = elim (cases_lt i j) [
  | inl l ↦ absurd (p.uncovered (q.before i p.first l))
  | inr g ↦ elim (cases_lt j i) [
    | inl l ↦ absurd (q.uncovered (p.before j q.first l))
    | inr h ↦ omega (arith, g, h)
  ]
]

covers_no_fault : (F : FiniteField) (D : RootDatum) (v : Module) (lines : CoverLines) (why : CoverFault) → IsCovering F D v lines → IsCoverFault F D v lines why → ⊥
covers_no_fault F D v lines (Dead r) covers p = live_not_dead F D v r covers.live p
covers_no_fault F D v lines (Uncovered j) covers p = p.1.uncovered (covers.axes j p.1.first p.1.last)

one_fault : (F : FiniteField) (D : RootDatum) (v : Module) (lines : CoverLines) (why other : CoverFault) → IsCoverFault F D v lines why → IsCoverFault F D v lines other → why ≡ other
one_fault F D v lines (Dead r) (Dead s) p q = ap Dead (one_dead F D v r s p q)
one_fault F D v lines (Dead r) (Uncovered j) p q = absurd (live_not_dead F D v r q.0 p)
one_fault F D v lines (Uncovered i) (Dead s) p q = absurd (live_not_dead F D v s p.0 q)
one_fault F D v lines (Uncovered i) (Uncovered j) p q = ap Uncovered (one_uncovered D v lines i j p.1 q.1)

abbrev failed : CoverFault → Result ⊤ CoverFault
failed why = Err why

-- a module covers, or has one first fault
pub one_cover : (F : FiniteField) (D : RootDatum) (v : Module) (lines : CoverLines) (x y : Result ⊤ CoverFault) → Covers F D v lines x → Covers F D v lines y → x ≡ y
one_cover F D v lines (Ok u) (Ok t) p q = refl
one_cover F D v lines (Ok u) (Err why) p q = absurd (covers_no_fault F D v lines why p q)
one_cover F D v lines (Err why) (Ok u) p q = absurd (covers_no_fault F D v lines why q p)
one_cover F D v lines (Err why) (Err other) p q = ap failed (one_fault F D v lines why other p q)

-- ---- forms with one matrix

-- the word of a form is a word of the frame
pub form_over : (f : SignedFrame) → IsLawfulSigned f → (x : FormData) → IsForm f x → (p : List ℕ) → IsShortest f.datum x.weyl p → IsWordOver (unsigned f) (form_word x p)
form_over f lawful x is p short =
    IsWordOver-both f (root_letters (nonzero_letters x.first)) (H x.torus ∷ (map N p ++ root_letters (nonzero_letters x.second))) (letters_over f lawful x.first is.first)
    (IsWordOver-both f (H x.torus ∷ map N p) (root_letters (nonzero_letters x.second)) (moved_over f lawful x.torus p is.long is.units short.0.letters) (letters_over f lawful x.second is.second))

-- two forms with one matrix are equal
pub one_matrix_form : (f : SignedFrame) (v : Module) (M : Matrix ℕ) → IsCoveringFor f v → (x y : FormData) → HasFormMatrix f v x M → HasFormMatrix f v y M → x ≡ y
one_matrix_form f v M covers x y p q =
    let s = some_shortest f covers.lawful x p.form in
    let t = some_shortest f covers.lawful y q.form in
    forms_are_unique f v covers x y p.form q.form s.0 t.0 s.1 t.1 (p.along s.0 s.1 ∙ sym (q.along t.0 t.1))

-- a matrix with a form is that of a word
pub form_is_word : (f : SignedFrame) (v : Module) (M : Matrix ℕ) → IsCoveringFor f v → (x : FormData) → HasFormMatrix f v x M → IsNoWordMatrix f v M → ⊥
form_is_word f v M covers x p none =
    let s = some_shortest f covers.lawful x p.form in
    none (form_word x s.0) (form_over f covers.lawful x p.form s.0 s.1) (p.along s.0 s.1)

module _ (g : LoadedGroup) (c : ConstantTable) (there : HasGroup g) (here : HasGroup (with_constants g c)) (v : Module) (M : Matrix ℕ) (meets : MeetsFrame g.frame v)
    (other_meets : MeetsFrame (with_constants g c).frame v) (lines : CoverLines) (are : AreCoverLines g.frame.datum v lines) (covers : IsCovering g.frame.field g.frame.datum v lines) where
  left_covers : IsCoveringFor g.frame v
  left_covers = record { lawful = there.frame.lawful; audited = meets; lines = lines; cover = are; covering = covers }

  right_covers : IsCoveringFor (with_constants g c).frame v
  right_covers = record { lawful = here.frame.lawful; audited = other_meets; lines = lines; cover = are; covering = covers }

  -- a form of the one is a form of the other
  matrix_there : (y : FormData) → HasFormMatrix (with_constants g c).frame v y M → HasFormMatrix g.frame v y M
  matrix_there y q = record { form = form_for g c there here y q.form; along = q.along }

  matrix_here : (x : FormData) → HasFormMatrix g.frame v x M → HasFormMatrix (with_constants g c).frame v x M
  matrix_here x p = record {
    form = record { first = p.form.first; units = p.form.units; long = p.form.long; element = p.form.element; second = p.form.second; zeros = p.form.zeros };
    along = p.along;
  }

  -- a matrix has one text, or none
  pub one_reduction : (t u : Option (List ℕ)) → TellsReduction g.frame v M t → TellsReduction (with_constants g c).frame v M u → t ≡ u
  one_reduction (Some t) (Some u) p q =
      let same : p.0 ≡ q.0 = one_matrix_form g.frame v M left_covers p.0 q.0 p.1 (matrix_there q.0 q.1) in
      ap Some (one_form_text g.frame.datum there.frame.lawful.lawful.loaded p.0 t u p.2 (subst (λ (z : FormData). TellsForm g.frame.datum z u) (sym same) q.2))
  one_reduction (Some t) None p q = absurd (form_is_word (with_constants g c).frame v M right_covers p.0 (matrix_here p.0 p.1) q)
  one_reduction None (Some u) p q = absurd (form_is_word g.frame v M left_covers q.0 (matrix_there q.0 q.1) p)
  one_reduction None None p q = refl
