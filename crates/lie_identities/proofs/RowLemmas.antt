-- The list of what the entries of a column add by X_r(f) - 1, row after row.
use Rattle.std.proofs.Common.{◌≡◌, ℕ, zero, suc, ◌+◌, ◌<◌, ◌≤◌, ℤ, List, [], ◌∷◌, ◌++◌, map, refl, sym, ◌∙◌, subst, arith}
use Rattle.std.specs.List.{AllByRecursion}
use Rattle.std.proofs.lemmas.Int.{ints}
use Rattle.lie_ring.specs.Rings.{Fits}
use Rattle.lie_ring.specs.Powers.{power}
use Rattle.lie_ring.specs.Matrices.{Matrix, entry, product, AllElem}
use Rattle.lie_ring.specs.MatrixLemmas.{matrix-same, table-shaped}
use Rattle.lie_mat.specs.Kept.{AreZeros, IsNextKept}
use Rattle.lie_const.specs.Modules.{Module, dimension, top, root_element}
use Rattle.lie_poly.specs.Polynomials.{Polynomial, laurent, constant}
use Rattle.lie_poly.specs.LaurentLaws.{laurent_ring}
use Rattle.lie_identities.specs.declared.steps.Step.{Step}
use Rattle.lie_identities.specs.StepLists.{steps_of, IsStepOf}
use Rattle.lie_identities.specs.Columns.{part, part_size, IsColumn}
use Rattle.lie_identities.specs.Additions.{added_in, AreAdditions}
use Rattle.lie_identities.specs.Moves.{addition, IsNarrowStep, AreNarrowSteps, AddsRows}
use Rattle.lie_identities.proofs.StepLemmas.{AreElems}
use Rattle.lie_identities.proofs.NarrowLemmas.{are_steps}
use Rattle.lie_identities.proofs.WalkLemmas.{walk-next, walk-end, size-next, sum-skip, sum_longer, part_zero, part_nonnegative}

-- all polynomials are elements
elems : (xs : List (ℕ × Polynomial)) → AreElems laurent laurent_ring xs
elems [] = tt
elems (x ∷ xs) = (refl, elems xs)

-- additions behind additions
pub additions-append : (n : ℕ) (xs ys : List (ℕ × Polynomial)) → AreAdditions laurent n xs → AreAdditions laurent n ys → AreAdditions laurent n (xs ++ ys)
additions-append n [] ys p q = q
additions-append n (x ∷ xs) ys p q = (p.0, p.1, additions-append n xs ys p.2 q)

-- a larger bound on the powers
pub narrow-more : (f x : Polynomial) (m n : ℕ) (ss : List Step) → m ≤ n → AreNarrowSteps f m x ss → AreNarrowSteps f n x ss
narrow-more f x m n ss l h k z i =
    let s = h k z i in
    record { first = s.first; last = let b = s.last in omega (arith, b, l); narrow = s.narrow }

module _ (v : Module) (r : ℤ) (f : Polynomial) where
  -- what a step adds may be handed to a call
  fits-step : (n : ℕ) (x : Polynomial) (s : Step) → IsNarrowStep f n x s → Fits laurent (addition laurent f x s).1
  fits-step n x s h =
      let p = laurent.mul (power laurent f s.power) (constant s.value) in
      let m = laurent_ring.sized.size_mul p x refl refl in
      let l = h.narrow.size_second in
      (refl, omega (arith, m, l))

  steps-additions : (n b : ℕ) (x : Polynomial) (ss : List Step) → AllByRecursion (IsStepOf v r b) ss → AreNarrowSteps f n x ss → AreAdditions laurent (dimension v) (map (addition laurent f x) ss)
  steps-additions n b x [] p h = tt
  steps-additions n b x (s ∷ ss) p h = (p.0.row, fits-step n x s (h zero s (omega arith)), steps-additions n b x ss p.1 (λ k z l. h (suc k) z (omega (arith, l))))

  module _ (V : Matrix Polynomial) (column : IsColumn (dimension v) V) where
    elem : AllElem laurent V
    elem i j _ _ = refl

    -- none at first
    pub rows-none : AddsRows v r f V 0 []
    rows-none = record { additions = tt; value = λ a l. refl; small = λ a l. omega (arith, ints) }

    -- those of the next entry
    pub rows-next : (from row : ℕ) (x : Polynomial) (xs : List (ℕ × Polynomial)) → AreNarrowSteps f (top v r) x (steps_of v r row) → AddsRows v r f V from xs → IsNextKept laurent.zero V 0 from row x
        → AddsRows v r f V (row + 1) (xs ++ map (addition laurent f x) (steps_of v r row))
    rows-next from row x xs narrow adds next = record {
      additions = additions-append (dimension v) xs (map (addition laurent f x) (steps_of v r row)) adds.additions (steps-additions (top v r) row x (steps_of v r row) (are_steps v r row) narrow);
      value = λ a l. walk-next laurent laurent_ring v r f refl V column.height column.width elem xs from row x (elems xs) next a l (adds.value a l);
      small = λ a l. size-next laurent laurent_ring v r f refl V column.height column.width elem xs from row x next a l (adds.small a l);
    }

    -- no more where no entry is left
    pub rows-end : (from : ℕ) (xs : List (ℕ × Polynomial)) → from ≤ dimension v → AreZeros laurent.zero V 0 from V.height → AddsRows v r f V from xs → AddsRows v r f V (dimension v) xs
    rows-end from xs low zeros adds =
        let h = column.height in
        record {
          additions = adds.additions;
          value = λ a l. adds.value a l ∙ sym (sum-skip laurent laurent_ring (part laurent v r f V a) from (dimension v) low (λ k c. refl) (λ k b c. part_zero laurent laurent_ring v r f refl V column.height column.width elem a k (zeros k b (omega (arith, c, h)))));
          small = λ a l.
              let longer = sum_longer laurent laurent_ring v r f refl V column.height column.width elem (part_size laurent v r f V a) from (dimension v) (part_nonnegative laurent laurent_ring v r f refl V column.height column.width elem a) low in
              let b = adds.small a l in
              omega (arith, ints, longer, b);
        }

    -- with them the column is multiplied by X_r(f)
    pub rows-product : (xs : List (ℕ × Polynomial)) (N : Matrix Polynomial) → AddsRows v r f V (dimension v) xs → IsColumn (dimension v) N
        → ((a : ℕ) → a < dimension v → entry laurent.zero N a 0 ≡ laurent.add (entry laurent.zero V a 0) (added_in laurent a xs)) → N ≡ product laurent (root_element laurent v r f) V
    unfolding root_element
    rows-product xs N adds new made =
        let h = new.height in
        let w = new.width in
        matrix-same laurent.zero N (product laurent (root_element laurent v r f) V) new.shaped (table-shaped laurent.zero _ _ _) new.height (new.width ∙ sym column.width)
        (λ a j p q. by_row a j (omega (arith, p, h)) (omega (arith, q, w)))
      where
        by_row : (a j : ℕ) → a < dimension v → j ≡ 0 → entry laurent.zero N a j ≡ entry laurent.zero (product laurent (root_element laurent v r f) V) a j
        by_row a j p e =
            let own = walk-end laurent laurent_ring v r f refl V column.height column.width elem xs (dimension v) N (omega arith) (λ k b c. absurd (omega (arith, b, c))) a p (adds.value a p) (made a p) in
            subst (λ i. entry laurent.zero N a i ≡ entry laurent.zero (product laurent (root_element laurent v r f) V) a i) (sym e) own
