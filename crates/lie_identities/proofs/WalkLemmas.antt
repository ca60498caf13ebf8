-- The walk over the kept entries of a column: what the additions made so far come to, and their sizes.
-- Own: the walk.
use Rattle.std.proofs.Common.{◌≡◌, ℕ, zero, suc, ◌+◌, ◌<◌, ◌≤◌, ℤ, pos, ◌*ℤ◌, nat_abs, List, [], ◌∷◌, ◌++◌, map, cond, eqb, sym, ap, ap₂, ◌∙◌, subst, arith, inl, inr}
use Rattle.std.specs.Prelude.{◌≤ℤ◌}
use Rattle.std.proofs.lemmas.Int.{ints}
use Rattle.std.proofs.lemmas.Bool.{cases_eq}
use Rattle.lie_ring.specs.Rings.{RingOn, IsElem, IsRing, sum_below}
use Rattle.lie_ring.specs.Integers.{integers}
use Rattle.lie_ring.specs.Powers.{power}
use Rattle.lie_ring.specs.RingLemmas.{mul_zero}
use Rattle.lie_ring.specs.SumLemmas.{sum-elem}
use Rattle.lie_ring.specs.Matrices.{Matrix, entry, product, AllElem}
use Rattle.lie_mat.specs.Kept.{AreZeros, IsNextKept}
use Rattle.lie_const.specs.Modules.{Module, dimension, top, divided_power, root_element}
use Rattle.lie_identities.specs.Additions.{added_in, size_in}
use Rattle.lie_identities.specs.Moves.{addition}
use Rattle.lie_identities.specs.declared.steps.Step.{Step}
use Rattle.lie_identities.specs.Columns.{moved_entry, moved_size, part, part_size}
use Rattle.lie_identities.specs.StepLists.{steps_of}
use Rattle.lie_identities.proofs.FactorLemmas.{power-elem}
use Rattle.lie_identities.proofs.SizeLemmas.{sum_nonnegative, times_nonnegative}
use Rattle.lie_identities.proofs.SideLemmas.{moved-elem, root-product}
use Rattle.lie_identities.proofs.StepLemmas.{AreElems, added-append, steps-add}
use Rattle.lie_identities.proofs.StepSizes.{steps-size}

-- the sizes of what two lists add
pub size-append : {A : Type 0} (R : RingOn A) (a : ℕ) (xs ys : List (ℕ × A)) → size_in R a (xs ++ ys) ≡ size_in R a xs + size_in R a ys
size-append R a [] ys = omega arith
size-append R a (x ∷ xs) ys = ap (λ n. cond (eqb x.0 a) (R.size x.1) 0 + n) (size-append R a xs ys) ∙ (let e : cond (eqb x.0 a) (R.size x.1) 0 + (size_in R a xs + size_in R a ys) ≡ (cond (eqb x.0 a) (R.size x.1) 0 + size_in R a xs) + size_in R a ys = omega arith in e)

module _ {A : Type 0} (R : RingOn A) (ring : IsRing R) where
  -- terms that are zero add nothing
  pub sum-skip : (g : ℕ → A) (n m : ℕ) → n ≤ m → ((k : ℕ) → k < m → IsElem R (g k)) → ((k : ℕ) → n ≤ k → k < m → g k ≡ R.zero) → sum_below R m g ≡ sum_below R n g
  sum-skip g n zero l p z = ap (λ k. sum_below R k g) (let e : zero ≡ n = omega (arith, l) in e)
  sum-skip g n (suc m) l p z = elim (cases_eq n (suc m)) [
    | inl e ↦ ap (λ k. sum_below R k g) (sym e)
    | inr h ↦
        let q = λ (k : ℕ) (c : k < m). p k (omega (arith, c)) in
        ap (λ x. R.add (sum_below R m g) x) (z m (omega (arith, l, h)) (omega arith))
        ∙ ring.laws.add_zero (sum_below R m g) (sum-elem R ring.laws m g q)
        ∙ sum-skip g n m (omega (arith, l, h)) q (λ k a b. z k a (omega (arith, b)))
  ]

  steps_elems : (f x : A) (ss : List Step) → IsElem R f → IsElem R x → AreElems R ring (map (addition R f x) ss)
  steps_elems f x [] p q = tt
  steps_elems f x (s ∷ ss) p q = (ring.laws.mul_elem _ _ (ring.laws.mul_elem _ _ (power-elem R ring f s.power p) (ring.integers.int_elem s.value)) q, steps_elems f x ss p q)

  module _ (v : Module) (r : ℤ) (f : A) (p : IsElem R f) (V : Matrix A) (height : V.height ≡ dimension v) (width : V.width ≡ 1) (elem : AllElem R V) where
    entry_elem : (b : ℕ) → b < dimension v → IsElem R (entry R.zero V b 0)
    entry_elem b l = elem b 0 (omega (arith, l, height)) (omega (arith, width))

    pub part_elem : (a b : ℕ) → b < dimension v → IsElem R (part R v r f V a b)
    part_elem a b l = ring.laws.mul_elem _ _ (moved-elem R ring v r f a b p) (entry_elem b l)

    -- zeros add nothing
    pub part_zero : (a b : ℕ) → entry R.zero V b 0 ≡ R.zero → part R v r f V a b ≡ R.zero
    part_zero a b e = ap (R.mul (moved_entry R v r f a b)) e ∙ mul_zero R ring.laws (moved_entry R v r f a b) (moved-elem R ring v r f a b p)

    -- the walk goes on with the next kept entry
    pub walk-next : (xs : List (ℕ × A)) (from row : ℕ) (x : A) → AreElems R ring xs → IsNextKept R.zero V 0 from row x → (a : ℕ) → a < dimension v
        → added_in R a xs ≡ sum_below R from (part R v r f V a) → added_in R a (xs ++ map (addition R f x) (steps_of v r row)) ≡ sum_below R (row + 1) (part R v r f V a)
    walk-next xs from row x es next a l before =
        let n = dimension v in
        let within : row < n = (let w = next.within in omega (arith, w, height)) in
        let ex : IsElem R x = subst (IsElem R) (sym next.here) (entry_elem row within) in
        let after = next.after in
        added-append R ring a xs (map (addition R f x) (steps_of v r row)) es (steps_elems f x (steps_of v r row) p ex)
        ∙ ap₂ R.add
        (before ∙ sym (sum-skip (part R v r f V a) from row after (λ k c. part_elem a k (omega (arith, c, within))) (λ k b c. part_zero a k (next.before k b c))))
        (steps-add R ring v r f x p ex row a l ∙ ap (R.mul (moved_entry R v r f a row)) next.here)
        ∙ ap (λ k. sum_below R k (part R v r f V a)) (let e : suc row ≡ row + 1 = omega arith in e)

    -- the walk ends where no entry is kept any more: what was added to the column makes X_r(f) times it
    pub walk-end : (xs : List (ℕ × A)) (from : ℕ) (N : Matrix A) → from ≤ dimension v → AreZeros R.zero V 0 from (dimension v) → (a : ℕ) → a < dimension v
        → added_in R a xs ≡ sum_below R from (part R v r f V a) → entry R.zero N a 0 ≡ R.add (entry R.zero V a 0) (added_in R a xs) → entry R.zero N a 0 ≡ entry R.zero (product R (root_element R v r f) V) a 0
    walk-end xs from N within zeros a l before made =
        made
        ∙ ap (R.add (entry R.zero V a 0)) (before ∙ sym (sum-skip (part R v r f V a) from (dimension v) within (λ k c. part_elem a k c) (λ k b c. part_zero a k (zeros k b c))))
        ∙ sym (root-product R ring v r f V a 0 p height elem l (omega (arith, width)))

    power_positive : (n k : ℕ) → pos 0 ≤ℤ power integers (pos n) k
    power_positive n zero = omega (arith, ints)
    power_positive n (suc k) = times_nonnegative (power integers (pos n) k) (pos n) (power_positive n k) (omega (arith, ints))

    pub part_nonnegative : (a b : ℕ) → pos 0 ≤ℤ part_size R v r f V a b
    part_nonnegative a b = times_nonnegative (moved_size v r (R.size f) a b) (pos (R.size (entry R.zero V b 0)))
        (sum_nonnegative (top v r) (λ k. power integers (pos (R.size f)) (suc k) *ℤ pos (nat_abs (entry (pos 0) (divided_power v r (suc k)) a b))) (λ k _. times_nonnegative (power integers (pos (R.size f)) (suc k)) (pos (nat_abs (entry (pos 0) (divided_power v r (suc k)) a b))) (power_positive (R.size f) (suc k)) (omega (arith, ints)))) (omega (arith, ints))

    -- sums of numbers that are not negative grow
    pub sum_longer : (g : ℕ → ℤ) (n m : ℕ) → ((k : ℕ) → pos 0 ≤ℤ g k) → n ≤ m → sum_below integers n g ≤ℤ sum_below integers m g
    sum_longer g n zero h l = subst (λ k. sum_below integers k g ≤ℤ pos 0) (let e : zero ≡ n = omega (arith, l) in e) (omega (arith, ints))
    sum_longer g n (suc m) h l = elim (cases_eq n (suc m)) [
      | inl e ↦ subst (λ k. sum_below integers n g ≤ℤ sum_below integers k g) e (omega (arith, ints))
      | inr u ↦
          let i = sum_longer g n m h (omega (arith, l, u)) in
          let j = h m in
          omega (arith, ints, i, j)
    ]

    pub size-next : (xs : List (ℕ × A)) (from row : ℕ) (x : A) → IsNextKept R.zero V 0 from row x → (a : ℕ) → a < dimension v
        → pos (size_in R a xs) ≤ℤ sum_below integers from (part_size R v r f V a) → pos (size_in R a (xs ++ map (addition R f x) (steps_of v r row))) ≤ℤ sum_below integers (row + 1) (part_size R v r f V a)
    size-next xs from row x next a l before =
        let within : row < dimension v = (let w = next.within in omega (arith, w, height)) in
        let ex : IsElem R x = subst (IsElem R) (sym next.here) (entry_elem row within) in
        let here = subst (λ z. pos (size_in R a (map (addition R f x) (steps_of v r row))) ≤ℤ (moved_size v r (R.size f) a row *ℤ pos (R.size z))) next.here (steps-size R ring f x p ex v r row a l) in
        let longer = sum_longer (part_size R v r f V a) from row (part_nonnegative a) next.after in
        let both = size-append R a xs (map (addition R f x) (steps_of v r row)) in
        subst (λ k. pos (size_in R a (xs ++ map (addition R f x) (steps_of v r row))) ≤ℤ sum_below integers k (part_size R v r f V a)) (let e : suc row ≡ row + 1 = omega arith in e)
        (omega (arith, ints, here, longer, both, before))
