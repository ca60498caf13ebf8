-- The entries of the divided powers in a column, as a list, and what they add to a column.
-- Own: the list, which is what the audit keeps for each root and column.
use Rattle.std.proofs.Common.{◌≡◌, ◌≢◌, ℕ, zero, suc, ◌+◌, ◌<◌, ◌≤◌, ℤ, pos, List, [], ◌∷◌, ◌++◌, map, cond, eqb, true, false, Bool, refl, sym, ap, ap₂, ◌∙◌, subst, arith, inl, inr}
use Rattle.std.specs.List.{flat_map, range_with_len}
use Rattle.std.specs.Ordering.{int_eq}
use Rattle.std.proofs.lemmas.List.{map-append}
use Rattle.std.proofs.lemmas.Bool.{eq-eqb, ne_eqb, cases_eq}
use Rattle.std.proofs.lemmas.Bool.Decides.{Decides-int_eq}
use Rattle.lie_ring.specs.Rings.{RingOn, IsElem, IsRing, sum_below}
use Rattle.lie_ring.specs.Powers.{power}
use Rattle.lie_ring.specs.RingLemmas.{zero_add, zero_mul, mul_zero, int_zero}
use Rattle.lie_ring.specs.SumLemmas.{sum-mul}
use Rattle.lie_ring.specs.Matrices.{entry}
use Rattle.lie_const.specs.Modules.{Module, dimension, top, divided_power}
use Rattle.lie_identities.specs.Additions.{added_in}
use Rattle.lie_identities.specs.Moves.{addition}
use Rattle.lie_identities.specs.declared.steps.Step.{Step}
use Rattle.lie_identities.proofs.FactorLemmas.{power-elem, step-elem}
use Rattle.lie_identities.specs.Columns.{moved_entry}
use Rattle.lie_identities.specs.StepLists.{step, step_at, steps_in, steps_of}

module _ {A : Type 0} (R : RingOn A) (ring : IsRing R) where
  -- all are elements
  abbrev pub AreElems : List (ℕ × A) → Type 0
  AreElems [] = Unit {0}
  AreElems (x ∷ xs) = IsElem R x.1 × AreElems xs

  choice-elem : (b : Bool) (x : A) → IsElem R x → IsElem R (cond b x R.zero)
  choice-elem true x p = p
  choice-elem false x p = ring.laws.zero_elem

  pub added-elem : (a : ℕ) (xs : List (ℕ × A)) → AreElems xs → IsElem R (added_in R a xs)
  added-elem a [] p = ring.laws.zero_elem
  added-elem a (x ∷ xs) p = ring.laws.add_elem _ _ (choice-elem (eqb x.0 a) x.1 p.0) (added-elem a xs p.1)

  elems_joined : (xs ys : List (ℕ × A)) → AreElems xs → AreElems ys → AreElems (xs ++ ys)
  elems_joined [] ys p q = q
  elems_joined (x ∷ xs) ys p q = (p.0, elems_joined xs ys p.1 q)

  -- what two lists add
  pub added-append : (a : ℕ) (xs ys : List (ℕ × A)) → AreElems xs → AreElems ys → added_in R a (xs ++ ys) ≡ R.add (added_in R a xs) (added_in R a ys)
  added-append a [] ys p q = sym (zero_add R ring.laws (added_in R a ys) (added-elem a ys q))
  added-append a (x ∷ xs) ys p q =
      ap (R.add (cond (eqb x.0 a) x.1 R.zero)) (added-append a xs ys p.1 q)
      ∙ sym (ring.laws.add_assoc _ _ _ (choice-elem (eqb x.0 a) x.1 p.0) (added-elem a xs p.1) (added-elem a ys q))

  -- what a step adds, whatever it is: an element for each, and 0 where the entry is 0
  module _ (v : Module) (r : ℤ) (b : ℕ) (act : Step → A) (elem : (s : Step) → IsElem R (act s)) (none : (k a : ℕ) → act (step k a (pos 0)) ≡ R.zero) where
    -- what E_r^(k) adds in the row a
    abbrev share : ℕ → ℕ → A
    share k a = act (step k a (entry (pos 0) (divided_power v r k) a b))

    share-elem : (k a : ℕ) → IsElem R (share k a)
    share-elem k a = elem _

    -- a step is left out where it adds 0
    share-none : (k a : ℕ) → int_eq (entry (pos 0) (divided_power v r k) a b) (pos 0) ≡ true → share k a ≡ R.zero
    share-none k a e = ap (λ n. act (step k a n)) ((Decides-int_eq _ (pos 0)).0 e) ∙ none k a

    abbrev adds : Step → ℕ × A
    adds s = (s.row, act s)

    -- the additions of the row i
    abbrev row_list : ℕ → ℕ → List (ℕ × A)
    row_list k i = map adds (step_at v r b k i)

    row_elems : (k i : ℕ) → AreElems (row_list k i)
    row_elems k i = by_test (int_eq (entry (pos 0) (divided_power v r k) i b) (pos 0))
      where
        by_test : (t : Bool) → AreElems (map adds (cond t [] (step k i (entry (pos 0) (divided_power v r k) i b) ∷ [])))
        by_test true = tt
        by_test false = (share-elem k i, tt)

    -- in its own row
    row-own : (k a : ℕ) → added_in R a (row_list k a) ≡ share k a
    row-own k a = by_test (int_eq (entry (pos 0) (divided_power v r k) a b) (pos 0)) refl
      where
        by_test : (t : Bool) → int_eq (entry (pos 0) (divided_power v r k) a b) (pos 0) ≡ t
            → added_in R a (map adds (cond t [] (step k a (entry (pos 0) (divided_power v r k) a b) ∷ []))) ≡ share k a
        by_test true e = sym (share-none k a e)
        by_test false e = ap (λ t. R.add (cond t (share k a) R.zero) R.zero) (eq-eqb a a refl) ∙ ring.laws.add_zero (share k a) (share-elem k a)

    -- in another row
    row-other : (k i a : ℕ) → i ≢ a → added_in R a (row_list k i) ≡ R.zero
    row-other k i a apart = by_test (int_eq (entry (pos 0) (divided_power v r k) i b) (pos 0))
      where
        by_test : (t : Bool) → added_in R a (map adds (cond t [] (step k i (entry (pos 0) (divided_power v r k) i b) ∷ []))) ≡ R.zero
        by_test true = refl
        by_test false = ap (λ t. R.add (cond t (share k i) R.zero) R.zero) (ne_eqb i a apart) ∙ ring.laws.add_zero R.zero ring.laws.zero_elem

    -- the additions of a list of rows
    abbrev rows_list : ℕ → List ℕ → List (ℕ × A)
    rows_list k is = map adds (flat_map (step_at v r b k) is)

    rows-next : (k i : ℕ) (is : List ℕ) → rows_list k (i ∷ is) ≡ row_list k i ++ rows_list k is
    rows-next k i is = map-append adds (step_at v r b k i) (flat_map (step_at v r b k) is)

    rows_elems : (k : ℕ) (is : List ℕ) → AreElems (rows_list k is)
    rows_elems k [] = tt
    rows_elems k (i ∷ is) = subst AreElems (sym (rows-next k i is)) (elems_joined (row_list k i) (rows_list k is) (row_elems k i) (rows_elems k is))

    rows-before : (k a n s : ℕ) → a < s → added_in R a (rows_list k (range_with_len s n)) ≡ R.zero
    rows-before k a zero s l = refl
    rows-before k a (suc n) s l =
        ap (added_in R a) (rows-next k s (range_with_len (s + 1) n))
        ∙ added-append a (row_list k s) (rows_list k (range_with_len (s + 1) n)) (row_elems k s) (rows_elems k (range_with_len (s + 1) n))
        ∙ ap₂ R.add (row-other k s a (λ e. absurd (omega (arith, e, l)))) (rows-before k a n (s + 1) (omega (arith, l)))
        ∙ ring.laws.add_zero R.zero ring.laws.zero_elem

    rows-from : (k a n s : ℕ) → s ≤ a → a < s + n → added_in R a (rows_list k (range_with_len s n)) ≡ share k a
    rows-from k a zero s l m = absurd (omega (arith, l, m))
    rows-from k a (suc n) s l m =
        ap (added_in R a) (rows-next k s (range_with_len (s + 1) n))
        ∙ added-append a (row_list k s) (rows_list k (range_with_len (s + 1) n)) (row_elems k s) (rows_elems k (range_with_len (s + 1) n))
        ∙ elim (cases_eq s a) [
          | inl e ↦
              ap₂ R.add (ap (λ i. added_in R a (row_list k i)) e ∙ row-own k a) (rows-before k a n (s + 1) (omega (arith, e)))
              ∙ ring.laws.add_zero (share k a) (share-elem k a)
          | inr h ↦
              ap₂ R.add (row-other k s a h) (rows-from k a n (s + 1) (omega (arith, l, h)) (omega (arith, m)))
              ∙ zero_add R ring.laws (share k a) (share-elem k a)
        ]

    -- the additions of the powers of a list
    abbrev powers_list : List ℕ → List (ℕ × A)
    powers_list ks = map adds (flat_map (steps_in v r b) ks)

    powers-next : (k : ℕ) (ks : List ℕ) → powers_list (k ∷ ks) ≡ rows_list k (range_with_len 0 (dimension v)) ++ powers_list ks
    powers-next k ks = map-append adds (steps_in v r b k) (flat_map (steps_in v r b) ks)

    powers_elems : (ks : List ℕ) → AreElems (powers_list ks)
    powers_elems [] = tt
    powers_elems (k ∷ ks) = subst AreElems (sym (powers-next k ks)) (elems_joined _ (powers_list ks) (rows_elems k (range_with_len 0 (dimension v))) (powers_elems ks))

    -- the sum over them, the first power in front
    abbrev front : ℕ → ℕ → ℕ → A
    front a s zero = R.zero
    front a s (suc n) = R.add (share s a) (front a (s + 1) n)

    powers-from : (a n s : ℕ) → a < dimension v → added_in R a (powers_list (range_with_len s n)) ≡ front a s n
    powers-from a zero s l = refl
    powers-from a (suc n) s l =
        ap (added_in R a) (powers-next s (range_with_len (s + 1) n))
        ∙ added-append a (rows_list s (range_with_len 0 (dimension v))) (powers_list (range_with_len (s + 1) n)) (rows_elems s (range_with_len 0 (dimension v))) (powers_elems (range_with_len (s + 1) n))
        ∙ ap₂ R.add (rows-from s a (dimension v) 0 (omega arith) (omega (arith, l))) (powers-from a n (s + 1) l)

    front-elem : (a s n : ℕ) → IsElem R (front a s n)
    front-elem a s zero = ring.laws.zero_elem
    front-elem a s (suc n) = ring.laws.add_elem _ _ (share-elem s a) (front-elem a (s + 1) n)

    -- and the last power behind
    front-last : (a s n : ℕ) → front a s (suc n) ≡ R.add (front a s n) (share (s + n) a)
    front-last a s zero =
        ring.laws.add_comm (share s a) R.zero (share-elem s a) ring.laws.zero_elem
        ∙ ap (λ k. R.add R.zero (share k a)) (let e : s ≡ s + 0 = omega arith in e)
    front-last a s (suc n) =
        ap (R.add (share s a)) (front-last a (s + 1) n)
        ∙ sym (ring.laws.add_assoc _ _ _ (share-elem s a) (front-elem a (s + 1) n) (share-elem (s + 1 + n) a))
        ∙ ap (λ k. R.add (R.add (share s a) (front a (s + 1) n)) (share k a)) (let e : s + 1 + n ≡ s + suc n = omega arith in e)

    front-sum : (a n : ℕ) → front a 1 n ≡ sum_below R n (λ k. share (suc k) a)
    front-sum a zero = refl
    front-sum a (suc n) = front-last a 1 n ∙ ap₂ R.add (front-sum a n) (ap (λ k. share k a) (let e : 1 + n ≡ suc n = omega arith in e))

    -- the steps of a column add to the row a what the entries in it do
    pub steps-sum : (a : ℕ) → a < dimension v → added_in R a (map (λ s. (s.row, act s)) (steps_of v r b)) ≡ sum_below R (top v r) (λ k. act (step (suc k) a (entry (pos 0) (divided_power v r (suc k)) a b)))
    steps-sum a l = powers-from a (top v r) 1 l ∙ front-sum a (top v r)

  -- the steps of X_r(f) add to the row a what its entries beside the identity do
  pub steps-add : (v : Module) (r : ℤ) (f x : A) → IsElem R f → IsElem R x → (b a : ℕ) → a < dimension v → added_in R a (map (addition R f x) (steps_of v r b)) ≡ R.mul (moved_entry R v r f a b) x
  steps-add v r f x p q b a l =
      steps-sum v r b (λ s. R.mul (R.mul (power R f s.power) (R.of_int s.value)) x)
      (λ s. ring.laws.mul_elem _ _ (ring.laws.mul_elem _ _ (power-elem R ring f s.power p) (ring.integers.int_elem s.value)) q)
      (λ k a. ap (λ n. R.mul (R.mul (power R f k) n) x) (int_zero R ring)
      ∙ ap (λ n. R.mul n x) (mul_zero R ring.laws (power R f k) (power-elem R ring f k p))
      ∙ zero_mul R ring.laws x q) a l
      ∙ sym (sum-mul R ring.laws (top v r) (λ k. R.mul (power R f (suc k)) (R.of_int (entry (pos 0) (divided_power v r (suc k)) a b))) x q (λ k _. step-elem R ring v r f a b k p))
