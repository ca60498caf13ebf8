-- The lists of a form as words of root letters, and as products of root elements.
use Rattle.std.proofs.Common.{◌≡◌, ◌≢◌, ℕ, suc, ◌+◌, ◌<◌, true, false, List, [], ◌∷◌, length, filter, get_or, refl, sym, ap, ◌∙◌, subst, arith, ⊎_elim}
use Rattle.std.specs.Prelude.{ℤ, pos, nat_eq}
use Rattle.std.proofs.lemmas.Bool.{cases_eq}
use Rattle.std.proofs.lemmas.Bool.Decides.{nat_tests}
use Rattle.lie_ring.specs.Rings.{IsElem}
use Rattle.lie_ring.specs.Matrices.{Matrix, product}
use Rattle.lie_field.specs.FiniteField.{FiniteField}
use Rattle.lie_field.specs.FieldRing.{field_ring, field_is_ring}
use Rattle.lie_datum.specs.RootList.{RootDatum, IsNumber}
use Rattle.lie_const.specs.Modules.{Module, dimension, root_element}
use Rattle.lie_letters.specs.declared.letter.Letter.{Letter}
use Rattle.lie_letters.specs.declared.letter.Letter.TheVariants.{X}
use Rattle.lie_letters.specs.RingLetters.{full_from}
use Rattle.lie_letters.specs.Spelled.{root_letters}
use Rattle.lie_unip.specs.Forms.{is_nonzero}
use Rattle.lie_audit.specs.WordMatrix.{word_matrix, letter_matrix}
use Rattle.lie_audit.proofs.ZeroValues.{zero-letter}
use Rattle.lie_reduce.proofs.Peeling.{ArePeelable, factors_from}
use Rattle.lie_reduce.proofs.RootWords.{AreRootLetters}

-- the letters of the elements that are not 0, at the roots from s on
abbrev pub letters_from : ℕ → List ℕ → List Letter
letters_from s us = root_letters (filter is_nonzero (full_from s us))

-- one element more in front
first_zero : (s a : ℕ) (us : List ℕ) → a ≡ 0 → letters_from s (a ∷ us) ≡ letters_from (s + 1) us
first_zero s a us e = let t : nat_eq a 0 ≡ true = grind (arith, nat_tests) in rw t refl

first_other : (s a : ℕ) (us : List ℕ) → a ≢ 0 → letters_from s (a ∷ us) ≡ X (pos s) a ∷ letters_from (s + 1) us
first_other s a us h = let t : nat_eq a 0 ≡ false = grind (arith, nat_tests) in rw t refl

module _ (f : FiniteField) (d : RootDatum) (P : ℤ → Type 0) where
  -- they are root letters, at roots with P
  pub list-letters : (s : ℕ) (us : List ℕ)
      → ((k : ℕ) → k < length us → get_or us k 0 ≢ 0 → IsNumber d (pos (s + k)) × P (pos (s + k)) × IsElem (field_ring f) (get_or us k 0))
      → AreRootLetters f d P (letters_from s us)
  list-letters s [] h = tt
  list-letters s (a ∷ us) h =
      let rest : AreRootLetters f d P (letters_from (s + 1) us) = list-letters (s + 1) us (λ k l some. shifted a k (h (suc k) (omega (arith, l)) some)) in
      ⊎_elim
      (λ (none : a ≡ 0). subst (AreRootLetters f d P) (sym (first_zero s a us none)) rest)
      (λ (some : a ≢ 0). subst (AreRootLetters f d P) (sym (first_other s a us some)) (here a (h 0 (omega arith) some), rest))
      (cases_eq a 0)
    where
      here : (a : ℕ) → IsNumber d (pos (s + 0)) × P (pos (s + 0)) × IsElem (field_ring f) a → IsNumber d (pos s) × P (pos s) × IsElem (field_ring f) a
      here a x = subst (λ n. IsNumber d (pos n) × P (pos n) × IsElem (field_ring f) a) (let e : s + 0 ≡ s = omega arith in e) x

      shifted : (a k : ℕ) → IsNumber d (pos (s + suc k)) × P (pos (s + suc k)) × IsElem (field_ring f) (get_or (a ∷ us) (suc k) 0)
          → IsNumber d (pos (s + 1 + k)) × P (pos (s + 1 + k)) × IsElem (field_ring f) (get_or us k 0)
      shifted a k x = subst (λ n. IsNumber d (pos n) × P (pos n) × IsElem (field_ring f) (get_or us k 0)) (let e : s + suc k ≡ s + 1 + k = omega arith in e) x

module _ (f : FiniteField) (v : Module) (m : ℕ) (level : ℕ → ℤ) (peel : ArePeelable (field_ring f) (dimension v) m level (λ i a. root_element (field_ring f) v (pos (suc i)) a)) where
  -- the product of c root elements from the place j on
  abbrev pub factors : ℕ → ℕ → (ℕ → ℕ) → Matrix ℕ
  factors c j u = factors_from (field_ring f) (field_is_ring f) (dimension v) m level (λ i a. root_element (field_ring f) v (pos (suc i)) a) peel c j u

  -- zeros included, the letters make that product
  pub letters-product : (j : ℕ) (us : List ℕ) (u : ℕ → ℕ) → ((i : ℕ) → i < length us → get_or us i 0 ≡ u (j + i)) → word_matrix f v (letters_from (suc j) us) ≡ factors (length us) j u
  letters-product j [] u same = refl
  letters-product j (a ∷ us) u same =
      let R = field_ring f in
      let next : suc j + 1 ≡ suc (suc j) = omega arith in
      let here : a ≡ u j = same 0 (omega arith) ∙ ap u (let e : j + 0 ≡ j = omega arith in e) in
      let rest = ap (λ s. word_matrix f v (letters_from s us)) next ∙ letters-product (suc j) us u (λ i l. same (suc i) (omega (arith, l)) ∙ ap u (let e : j + suc i ≡ suc j + i = omega arith in e)) in
      let whole = ap (product R (letter_matrix f v (X (pos (suc j)) a))) rest ∙ ap (λ b. product R (root_element R v (pos (suc j)) b) (factors (length us) (suc j) u)) here in
      ⊎_elim
      (λ (none : a ≡ 0). ap (word_matrix f v) (first_zero (suc j) a us none) ∙ sym (zero-letter f v (pos (suc j)) a (letters_from (suc j + 1) us) none) ∙ whole)
      (λ (some : a ≢ 0). ap (word_matrix f v) (first_other (suc j) a us some) ∙ whole)
      (cases_eq a 0)

  -- so do the letters of all elements
  pub full-product : (j : ℕ) (us : List ℕ) (u : ℕ → ℕ) → ((i : ℕ) → i < length us → get_or us i 0 ≡ u (j + i)) → word_matrix f v (root_letters (full_from (suc j) us)) ≡ factors (length us) j u
  full-product j [] u same = refl
  full-product j (a ∷ us) u same =
      let next : suc j + 1 ≡ suc (suc j) = omega arith in
      let here : a ≡ u j = same 0 (omega arith) ∙ ap u (let e : j + 0 ≡ j = omega arith in e) in
      ap (λ b. product (field_ring f) (root_element (field_ring f) v (pos (suc j)) b) (word_matrix f v (root_letters (full_from (suc j + 1) us)))) here
      ∙ ap (product (field_ring f) (root_element (field_ring f) v (pos (suc j)) (u j)))
      (ap (λ s. word_matrix f v (root_letters (full_from s us))) next ∙ full-product (suc j) us u (λ i l. same (suc i) (omega (arith, l)) ∙ ap u (let e : j + suc i ≡ suc j + i = omega arith in e)))
