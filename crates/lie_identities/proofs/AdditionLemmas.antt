-- A column to which one of a list of polynomials was added, and what is left to add.
use Rattle.std.proofs.Common.{◌≡◌, ◌≢◌, ℕ, zero, suc, ◌+◌, ◌<◌, ◌≤◌, ◌^◌, List, [], ◌∷◌, length, drop, get_or, cond, eqb, true, false, Bool, refl, sym, ap, ◌∙◌, arith, inl, inr}
use Rattle.std.proofs.lemmas.List.{drop_more}
use Rattle.std.proofs.lemmas.Bool.{eq-eqb, ne_eqb, cases_eq}
use Rattle.lie_ring.specs.Rings.{RingOn, IsElem, IsRing}
use Rattle.lie_ring.specs.Matrices.{Matrix, entry, with_entry, AllFit}
use Rattle.lie_ring.specs.MatrixLemmas.{entry-table}
use Rattle.lie_ring.specs.RingLemmas.{zero_add}
use Rattle.lie_identities.specs.Additions.{added_in, size_in, AreAdditions}

-- the members from a place on
pub rest-next : {X : Type 0} (xs : List X) (k : ℕ) (d : X) → k < length xs → drop k xs ≡ get_or xs k d ∷ drop (k + 1) xs
rest-next xs k d l = drop_more xs k d l

-- none from the end on
pub rest-end : {X : Type 0} (xs : List X) (k : ℕ) → length xs ≤ k → drop k xs ≡ []
rest-end [] zero l = refl
rest-end [] (suc k) l = refl
rest-end (x ∷ xs) zero l = absurd (omega (arith, l))
rest-end (x ∷ xs) (suc k) l = rest-end xs k (omega (arith, l))

module _ {A : Type 0} (R : RingOn A) (ring : IsRing R) where
  added_elem : (h a : ℕ) (xs : List (ℕ × A)) → AreAdditions R h xs → IsElem R (added_in R a xs)
  added_elem h a [] p = ring.laws.zero_elem
  added_elem h a (x ∷ xs) p = ring.laws.add_elem _ _ (choice (eqb x.0 a)) (added_elem h a xs p.2)
    where
      choice : (b : Bool) → IsElem R (cond b x.1 R.zero)
      choice true = p.1.0
      choice false = ring.laws.zero_elem

  module _ (h : ℕ) (M N : Matrix A) (x : ℕ × A) (xs : List (ℕ × A)) (height : M.height ≡ h) (width : M.width ≡ 1) (fit : AllFit R M) (list : AreAdditions R h (x ∷ xs)) (new : N ≡ with_entry R.zero M x.0 0 (R.add (entry R.zero M x.0 0) x.1)) where
    -- the row of the first of them
    at-own : entry R.zero N x.0 0 ≡ R.add (entry R.zero M x.0 0) x.1
    at-own =
        ap (λ K. entry R.zero K x.0 0) new
        ∙ entry-table R.zero M.height M.width _ x.0 0 (let l = list.0 in omega (arith, l, height)) (omega (arith, width))
        ∙ ap (λ b. cond b (cond (eqb 0 0) (R.add (entry R.zero M x.0 0) x.1) (entry R.zero M x.0 0)) (entry R.zero M x.0 0)) (eq-eqb x.0 x.0 refl)

    -- another row
    at-other : (a : ℕ) → a < h → a ≢ x.0 → entry R.zero N a 0 ≡ entry R.zero M a 0
    at-other a l apart =
        ap (λ K. entry R.zero K a 0) new
        ∙ entry-table R.zero M.height M.width _ a 0 (omega (arith, l, height)) (omega (arith, width))
        ∙ ap (λ b. cond b (cond (eqb 0 0) (R.add (entry R.zero M x.0 0) x.1) (entry R.zero M a 0)) (entry R.zero M a 0)) (ne_eqb a x.0 apart)

    -- what is there, with what is left to add
    pub value-left : (a : ℕ) → a < h → R.add (entry R.zero N a 0) (added_in R a xs) ≡ R.add (entry R.zero M a 0) (added_in R a (x ∷ xs))
    value-left a l =
        let old = fit a 0 (omega (arith, l, height)) (omega (arith, width)) in
        let rest = added_elem h a xs list.2 in
        elim (cases_eq a x.0) [
          | inl e ↦
              ap (λ y. R.add y (added_in R a xs)) (ap (λ k. entry R.zero N k 0) e ∙ at-own ∙ ap (λ k. R.add (entry R.zero M k 0) x.1) (sym e))
              ∙ ring.laws.add_assoc (entry R.zero M a 0) x.1 (added_in R a xs) old.0 list.1.0 rest
              ∙ ap (λ b. R.add (entry R.zero M a 0) (R.add (cond b x.1 R.zero) (added_in R a xs))) (sym (eq-eqb x.0 a (sym e)))
          | inr g ↦
              ap (λ y. R.add y (added_in R a xs)) (at-other a l g)
              ∙ ap (R.add (entry R.zero M a 0)) (sym (zero_add R ring.laws (added_in R a xs) rest))
              ∙ ap (λ b. R.add (entry R.zero M a 0) (R.add (cond b x.1 R.zero) (added_in R a xs))) (sym (ne_eqb x.0 a (λ i. g (sym i))))
        ]

    -- the sizes
    pub size-left : (a : ℕ) → a < h → R.size (entry R.zero M a 0) + size_in R a (x ∷ xs) < 2 ^ 126 → R.size (entry R.zero N a 0) + size_in R a xs < 2 ^ 126
    size-left a l small = elim (cases_eq a x.0) [
      | inl e ↦
          let old = fit a 0 (omega (arith, l, height)) (omega (arith, width)) in
          let s = ring.sized.size_add (entry R.zero M a 0) x.1 old.0 list.1.0 in
          let at : entry R.zero N a 0 ≡ R.add (entry R.zero M a 0) x.1 = ap (λ k. entry R.zero N k 0) e ∙ at-own ∙ ap (λ k. R.add (entry R.zero M k 0) x.1) (sym e) in
          let same = ap R.size at in
          let here = ap (λ b. cond b (R.size x.1) 0) (eq-eqb x.0 a (sym e)) in
          omega (arith, s, same, here, small)
      | inr g ↦
          let same = ap R.size (at-other a l g) in
          let here = ap (λ b. cond b (R.size x.1) 0) (ne_eqb x.0 a (λ i. g (sym i))) in
          omega (arith, same, here, small)
    ]

    -- room for the next
    pub room-next : R.size (entry R.zero M x.0 0) + size_in R x.0 (x ∷ xs) < 2 ^ 126 → R.size (entry R.zero M x.0 0) + R.size x.1 < 2 ^ 126
    room-next small = let here = ap (λ b. cond b (R.size x.1) 0) (eq-eqb x.0 x.0 refl) in omega (arith, here, small)
