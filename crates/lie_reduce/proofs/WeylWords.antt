-- Words of simple reflections on weights, and that an element is determined by what it does to the weights of a live module.
use Rattle.std.proofs.Common.{◌≡◌, ℕ, zero, suc, ◌<◌, List, [], ◌∷◌, length, refl, sym, ap, ap₂, ◌∙◌, subst, arith}
use Rattle.std.specs.Prelude.{ℤ, pos, negsuc, neg_ℤ, ◌+ℤ◌, ◌*ℤ◌, slice_index_or}
use Rattle.std.proofs.lemmas.Int.{ints}
use mathlib.Core.Logic.{⊎_elim}
use Rattle.lie_ring.specs.Rings.{RingOn, IsRing}
use Rattle.lie_ring.specs.RingLemmas.{add_mul}
use Rattle.lie_ring.specs.Integers.{integers}
use Rattle.lie_ring.specs.IntegerLaws.{integers_ring}
use Rattle.lie_datum.specs.Vectors.{Vector, pairing}
use Rattle.lie_datum.specs.declared.root_pair.Root.{Root}
use Rattle.lie_datum.specs.RootDatum.{vector, simple_root, simple_coroot, IsRoot, IsPositive, IsNegative, opposite, reflected}
use Rattle.lie_datum.specs.RootList.{RootDatum, root_of, IsNumber, IsLoaded}
use Rattle.lie_datum.proofs.Reflections.{pairing-reflected, pairing-reflected_vector}
use Rattle.lie_datum.proofs.LoadedLaws.{short, positive_or, opposite_root, twice_opposite, opposite_positive}
use Rattle.lie_letters.proofs.SettingLaws.{reflected-opposite}
use Rattle.lie_datum.proofs.NumberLemmas.{within}
use Rattle.lie_datum.proofs.SignedRoots.{number_is}
use Rattle.lie_datum.proofs.HeightLemmas.{positive_number}
use Rattle.lie_weyl.specs.WeylElement.{moved, SameProduct}
use Rattle.lie_weyl.proofs.Words.{IsWord, letter, IsRoot-moved}
use Rattle.lie_const.specs.Modules.{Module, dimension}
use Rattle.lie_identities.specs.Audit.{IsGraded}
use Rattle.lie_audit.specs.WeylWeights.{SameWeight, reflected_along}
use Rattle.lie_audit.proofs.Homogeneous.{IsMoved}
use Rattle.lie_reduce.proofs.RootsApart.{roots_apart}
use Rattle.lie_reduce.proofs.RootsPeel.{AreLivePlaces, weights, some_at}

module _ (d : RootDatum) (loaded : IsLoaded d) where
  as_many : length d.base.coroots ≡ length d.base.roots
  as_many = loaded.axioms.input.corank

  -- words act on roots as on their vectors
  pub vector-moved : (w : List ℕ) (r : Root) → IsWord d.base w → SameWeight (vector d.base (moved d.base w r)) (reflected_along d w (vector d.base r))
  vector-moved [] r h c = refl
  vector-moved (i ∷ w) r (letter s h) c =
      let before = vector-moved w r h in
      pairing-reflected d.base (short d loaded) as_many i (moved d.base w r) c s
      ∙ ap₂ (λ x y. x +ℤ (neg_ℤ y *ℤ pairing (simple_root d.base i) c)) (before c) (before (simple_coroot d.base i))
      ∙ sym (pairing-reflected_vector d.base (short d loaded) as_many i (reflected_along d w (vector d.base r)) c)

  -- words are linear
  pub turned-moved : (w : List ℕ) (x y z : Vector) → IsMoved x y (pos 1) z → IsMoved (reflected_along d w x) (reflected_along d w y) (pos 1) (reflected_along d w z)
  turned-moved [] x y z h = h
  turned-moved (i ∷ w) x y z h = λ c.
      let before = turned-moved w x y z h in
      let turn = λ (u : Vector). pairing-reflected_vector d.base (short d loaded) as_many i (reflected_along d w u) c in
      let here = before c in
      let at = before (simple_coroot d.base i) in
      let e = pairing (simple_root d.base i) c in
      let a = pairing (reflected_along d w y) (simple_coroot d.base i) in
      let b = pairing (reflected_along d w z) (simple_coroot d.base i) in
      let split : neg_ℤ (pairing (reflected_along d w x) (simple_coroot d.base i)) ≡ neg_ℤ a +ℤ neg_ℤ b = omega (arith, ints, at) in
      let whole : neg_ℤ (pairing (reflected_along d w x) (simple_coroot d.base i)) *ℤ e ≡ (neg_ℤ a *ℤ e) +ℤ (neg_ℤ b *ℤ e) =
      ap (λ s. s *ℤ e) split ∙ add_mul integers integers_ring.laws (neg_ℤ a) (neg_ℤ b) e refl refl refl in
      let tx = turn x in
      let ty = turn y in
      let tz = turn z in
      omega (arith, ints, here, whole, tx, ty, tz)

  module _ {A : Type 0} (R : RingOn A) (ring : IsRing R) (v : Module) (graded : IsGraded d v) (live : AreLivePlaces R d v) (w u : List ℕ) (hw : IsWord d.base w) (hu : IsWord d.base u)
      (same : (j : ℕ) → j < dimension v → SameWeight (reflected_along d w (slice_index_or v.weights j [])) (reflected_along d u (slice_index_or v.weights j []))) where
    -- on the positive root in place i, which counts from 0
    same_at : (i : ℕ) → i < length d.positive → IsRoot d.base (root_of d (pos (suc i))) → moved d.base w (root_of d (pos (suc i))) ≡ moved d.base u (root_of d (pos (suc i)))
    same_at i low root =
        let r = root_of d (pos (suc i)) in
        let x = slice_index_or v.weights (live.row i) [] in
        let y = slice_index_or v.weights (live.col i) [] in
        let apart : IsMoved x y (pos 1) (vector d.base r) = weights d loaded v graded i 0 (live.row i) (live.col i) low (live.row_low i low) (live.col_low i low) (some_at R ring d loaded v graded live i low) in
        roots_apart d loaded (moved d.base w r) (moved d.base u r) (IsRoot-moved d loaded w r hw root) (IsRoot-moved d loaded u r hu root) (λ c.
        (let p = turned-moved w x y (vector d.base r) apart c in
        let q = turned-moved u x y (vector d.base r) apart c in
        let m = same (live.row i) (live.row_low i low) c in
        let k = same (live.col i) (live.col_low i low) c in
        let l = vector-moved w r hw c in
        let o = vector-moved u r hu c in
        omega (arith, ints, p, q, m, k, l, o)))

    -- on every positive root
    pub same_positive : (r : Root) → IsRoot d.base r → IsPositive r → moved d.base w r ≡ moved d.base u r
    same_positive r root positive =
        let found = number_is d loaded r root in
        by found.0 found.1 found.2
      where
        by : (k : ℤ) → IsNumber d k → root_of d k ≡ r → moved d.base w r ≡ moved d.base u r
        by (pos zero) number e = absurd (let h = positive_number d loaded (pos 0) number (subst IsPositive (sym e) positive) in let never : ⊥ = omega (arith, ints, h) in never)
        by (pos (suc i)) number e = subst (λ s. moved d.base w s ≡ moved d.base u s) e (same_at i (within d.positive i number) (subst (IsRoot d.base) (sym e) root))
        by (negsuc i) number e = absurd (let h = positive_number d loaded (negsuc i) number (subst IsPositive (sym e) positive) in let never : ⊥ = omega (arith, ints, h) in never)

    -- words on opposite roots
    moved-opposite : (x : List ℕ) (r : Root) → moved d.base x (opposite r) ≡ opposite (moved d.base x r)
    moved-opposite [] r = refl
    moved-opposite (i ∷ x) r = ap (reflected d.base i) (moved-opposite x r) ∙ reflected-opposite d.base i (moved d.base x r)

    -- the two words have one product
    pub same_product : SameProduct d w u
    same_product r root = ⊎_elim
        (λ (positive : IsPositive r). same_positive r root positive)
        (λ (negative : IsNegative r).
        let s = opposite r in
        ap (moved d.base w) (sym (twice_opposite r)) ∙ moved-opposite w s
        ∙ ap opposite (same_positive s (opposite_root d loaded r root) (opposite_positive r.coeffs negative))
        ∙ sym (ap (moved d.base u) (sym (twice_opposite r)) ∙ moved-opposite u s))
        (positive_or d loaded r root)
