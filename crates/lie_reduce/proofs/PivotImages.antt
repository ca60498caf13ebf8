-- The list of the images of the simple roots, and that it is the Weyl element of each form with the matrix.
use Rattle.std.proofs.Common.{◌≡◌, ◌≢◌, ◌∙◌, ◌<◌, ◌≤◌, ◌-◌, ◌++◌, ◌∷◌, [], ℕ, suc, List, sym, ap, refl, subst, arith, ⊎_elim, length, get_or, length-append}
use Rattle.std.specs.Prelude.{ℤ, pos, Option, None, Some, MatchOption}
use Rattle.std.proofs.Math.ListN.{get_or-append}
use Rattle.std.proofs.Math.Seq.{get_or-append_seam}
use Rattle.std.proofs.lemmas.List.{get_or_default}
use Rattle.std.proofs.lemmas.Bool.{cases_eq}
use Rattle.lie_ring.specs.Matrices.{Matrix, AllElem, entry, identity, product, table}
use Rattle.lie_field.specs.FieldRing.{field_ring, field_is_ring}
use Rattle.lie_field.specs.FiniteField.{FiniteField}
use Rattle.lie_datum.specs.RootDatum.{IsSimpleIndex, rank, simple}
use Rattle.lie_datum.specs.RootList.{RootDatum, IsNumber, root_of}
use Rattle.lie_const.specs.Modules.{Module, dimension}
use Rattle.lie_letters.specs.SignedFrames.{SignedFrame}
use Rattle.lie_unip.specs.Forms.{FormData, IsShortest, form_word}
use Rattle.lie_weyl.specs.WeylElement.{IsElement, moved}
use Rattle.lie_weyl.proofs.ElementLemmas.{one_list}
use Rattle.lie_reduce.specs.Triangular.{IsSquare}
use Rattle.lie_reduce.specs.Places.{AreInOrder}
use Rattle.lie_reduce.specs.Pivots.{ArePivots, IsPivot, IsImage, HasNoImage, AreImages, HasSomeNoImage, HasNoInverse}
use Rattle.lie_reduce.specs.Reduction.{HasFormMatrix, HasPivots, IsNoWordMatrix}
use Rattle.lie_reduce.specs.UniqueForms.{IsCoveringFor}
use Rattle.lie_orbit.proofs.WeightLemmas.{simple_some, simple_is, simple_place}
use Rattle.lie_audit.proofs.EqualMatricesLemmas.{equal_matrices}
use Rattle.lie_bruhat.proofs.FormExists.{every_word}
use Rattle.lie_reduce.proofs.OneForm.{some_shortest}
use Rattle.lie_reduce.proofs.PivotForms.{has-inverse, between-is, between-some, sorted-table}
use Rattle.lie_reduce.proofs.SortedPlaces.{sorted, sorted-square}

-- one image more behind a list of images
pub one_image_more : (f : FiniteField) (d : RootDatum) (v : Module) (ps at : List ℕ) (k : ℕ) (images : List ℤ) (s : ℤ) → AreImages f d v ps at k images → IsImage f d v ps at (pos (suc k)) s
    → AreImages f d v ps at (suc k) (images ++ s ∷ [])
one_image_more f d v ps at k images s h image = (
  length-append images (s ∷ []) ∙ (let e = h.0 in omega (arith, e)),
  λ i l. ⊎_elim
      (λ (e : i ≡ k).
      let last : get_or (images ++ s ∷ []) i (pos 0) ≡ s = ap (λ j. get_or (images ++ s ∷ []) j (pos 0)) (e ∙ sym h.0) ∙ get_or-append_seam images s [] (pos 0) in
      subst (λ z. IsImage f d v ps at (pos (suc i)) z) (sym last) (subst (λ j. IsImage f d v ps at (pos (suc j)) s) (sym e) image))
      (λ (o : i ≢ k).
      let low : i < k = omega (arith, l, o) in
      let old : get_or (images ++ s ∷ []) i (pos 0) ≡ get_or images i (pos 0) = get_or-append images (s ∷ []) (pos 0) i (let e = h.0 in omega (arith, low, e)) in
      subst (λ z. IsImage f d v ps at (pos (suc i)) z) (sym old) (h.1 i low))
      (cases_eq i k),
)

-- what holds of an answer, in other words
pub match_both : {X : Type 0} (o : Option X) (P P' : Type 0) (Q Q' : X → Type 0) → (P → P') → ((x : X) → Q x → Q' x) → MatchOption o P Q → MatchOption o P' Q'
match_both None P P' Q Q' f g h = f h
match_both (Some x) P P' Q Q' f g h = g x h

module _ (f : SignedFrame) (v : Module) (ground : IsCoveringFor f v) (ps at : List ℕ) (o : AreInOrder f.datum v ps) (M T : Matrix ℕ)
    (is : T ≡ sorted (field_ring f.field) (field_is_ring f.field) f.datum v ps o M) (tall : T.height ≡ dimension v) where
  abbrev d : RootDatum
  d = f.datum

  -- the pivots, of the matrix as a table
  pivot : ArePivots f.field T at → (j : ℕ) → j < dimension v → IsPivot (field_ring f.field) (dimension v) (sorted (field_ring f.field) (field_is_ring f.field) f.datum v ps o M) j (get_or at j 0)
  pivot p j low = subst (λ L. IsPivot (field_ring f.field) (dimension v) L j (get_or at j 0)) is (subst (λ m. IsPivot (field_ring f.field) m T j (get_or at j 0)) tall (p.1 j (let e = tall in omega (arith, low, e))))

  module _ (x : FormData) (h : HasFormMatrix f v x M) (w : List ℕ) (short : IsShortest f.datum x.weyl w) where
    -- a form's matrix has an inverse
    pub some-inverse : HasNoInverse f.field T → ⊥
    some-inverse none =
        let y = has-inverse f v ground ps o x M h w short in
        none y.0 (subst (λ m. IsSquare (field_ring f.field) m y.0) (sym tall) y.1) (ap (product (field_ring f.field) y.0) is ∙ y.2 ∙ ap (identity (field_ring f.field)) (sym tall))

    module _ (p : ArePivots f.field T at) where
      -- the simple root i is the positive root i
      simple-place : (i : ℕ) → i < rank f.datum.base → (IsNumber f.datum (pos (suc i))) × (suc i ≤ length f.datum.positive) × (root_of f.datum (pos (suc i)) ≡ simple (suc i))
      simple-place i l =
          let index : IsSimpleIndex d.base (suc i) = (omega arith, omega (arith, l)) in
          (simple_some d ground.lawful.lawful.loaded (suc i) index, (let p = simple_place d ground.lawful.lawful.loaded (suc i) index in omega (arith, p)), simple_is d ground.lawful.lawful.loaded (suc i) index)

      pub image-is : (i : ℕ) (s : ℤ) → i < rank f.datum.base → IsImage f.field f.datum v ps at (pos (suc i)) s → root_of f.datum s ≡ moved f.datum.base w (simple (suc i))
      image-is i s l g =
          let e = simple-place i l in
          between-is f v ground ps o x M h w short (pos (suc i)) e.0 (i, (let b = e.1 in omega (arith, b)), refl) g.row g.col (get_or at g.row 0) (get_or at g.col 0) g.row_within g.col_within g.nonzero
          (pivot p g.row g.row_within) (pivot p g.col g.col_within) s g.holds ∙ ap (moved d.base w) e.2

      pub image-some : (i : ℕ) → i < rank f.datum.base → HasNoImage f.field f.datum v ps at (pos (suc i)) → ⊥
      image-some i l g =
          let e = simple-place i l in
          between-some f v ground ps o x M h w short (pos (suc i)) e.0 (i, (let b = e.1 in omega (arith, b)), refl) g.row g.col (get_or at g.row 0) (get_or at g.col 0) g.row_within g.col_within g.nonzero
          (pivot p g.row g.row_within) (pivot p g.col g.col_within) g.holds

      -- the images are the Weyl element of the form
      pub images-are : (images : List ℤ) → AreImages f.field f.datum v ps at (rank f.datum.base) images → x.weyl ≡ images
      images-are images g = one_list d ground.lawful.lawful.loaded w x.weyl images short.0 (record {
        letters = short.0.letters;
        count = g.0;
        numbers = λ k z l. (let low : k < rank d.base = (let e = g.0 in omega (arith, l, e)) in subst (IsNumber d) (get_or_default images k (pos 0) z l) (g.1 k low).holds.0);
        images_are = λ i index. (let a = index.0 in let b = index.1 in let e : suc (i - 1) ≡ i = omega (arith, a) in
            image-is (i - 1) (get_or images (i - 1) (pos 0)) (omega (arith, a, b)) (g.1 (i - 1) (omega (arith, a, b))) ∙ ap (λ k. moved d.base w (simple k)) e);
      })

  -- where no form has the matrix, no word has it
  no-word : ((x : FormData) → HasFormMatrix f v x M → ⊥) → IsNoWordMatrix f v M
  no-word none w over same =
      let found = every_word f w ground.lawful over in
      none found.0 (record { form = found.1.form; along = λ p short. equal_matrices f v ground.lawful ground.audited (form_word found.0 p) w (found.1.joined p short) ∙ same })

  -- the three answers
  pub pivots-none : HasNoInverse f.field T → HasPivots f v M None
  pivots-none none = no-word (λ x h. (let p = some_shortest f ground.lawful x h.form in some-inverse x h p.0 p.1 none))

  pub pivots-no-image : ArePivots f.field T at → HasSomeNoImage f.field f.datum v ps at → HasPivots f v M None
  pivots-no-image p g = no-word (λ x h. (let s = some_shortest f ground.lawful x h.form in image-some x h s.0 s.1 p g.0 g.1 g.2))

  pub pivots-answer : ArePivots f.field T at → (images : List ℤ) → AreImages f.field f.datum v ps at (rank f.datum.base) images → (answer : Option (List ℤ))
      → MatchOption answer (¬ IsElement f.datum images) (λ w. (w ≡ images) × IsElement f.datum w) → HasPivots f v M answer
  pivots-answer p images g None h = no-word (λ x k. (let s = some_shortest f ground.lawful x k.form in h (subst (IsElement d) (images-are x k s.0 s.1 p images g) k.form.element)))
  pivots-answer p images g (Some w) h = (h.1, λ x k. (let s = some_shortest f ground.lawful x k.form in images-are x k s.0 s.1 p images g ∙ sym h.0))

-- the table has elements as entries
pub sorted-elem : (f : SignedFrame) (v : Module) (ground : IsCoveringFor f v) (ps : List ℕ) (o : AreInOrder f.datum v ps) (M T : Matrix ℕ) → IsSquare (field_ring f.field) (dimension v) M
    → T ≡ table (dimension v) (dimension v) (λ i j. entry 0 M (get_or ps i 0) (get_or ps j 0)) → AllElem (field_ring f.field) T
sorted-elem f v ground ps o M T m is = subst (AllElem (field_ring f.field)) (sym (sorted-table f v ground ps o M T m is)) (sorted-square (field_ring f.field) (field_is_ring f.field) f.datum v ps o M m).elem
