-- Heights of roots tell their signs, and those of the images of the simple roots follow a simple reflection.
use Rattle.std.proofs.Common.{◌≡◌, ℕ, zero, suc, ◌+◌, ◌-◌, ◌*◌, ◌≤◌, ℤ, pos, negsuc, ◌+ℤ◌, ◌-ℤ◌, ◌*ℤ◌, ◌≤ℤ◌, ◌<ℤ◌, List, [], ◌∷◌, ◌++◌, length, unsigned_abs, refl, sym, ap, subst, ◌∙◌, arith, ⊎_elim}
use Rattle.std.proofs.lemmas.Int.{ints}
use Rattle.std.proofs.lemmas.List.{get_or_default}
use Rattle.lie_datum.specs.declared.root_pair.Root.{Root}
use Rattle.lie_datum.specs.Vectors.{Vector, times, entry, total}
use Rattle.lie_datum.specs.RootDatum.{rank, simple, reflected, opposite, IsSimpleIndex, IsRoot, is_simple, IsPositive, IsWithin}
use Rattle.lie_datum.specs.RootList.{RootDatum, IsLoaded, height}
use Rattle.lie_base.proofs.Whole.{mul-add, mul-one}
use Rattle.lie_base.proofs.RingSolver.{ring, var, num, ◌⊗◌}
use Rattle.lie_datum.proofs.Entries.{within_or_past}
use Rattle.lie_datum.proofs.LoadedLaws.{short, opposite_root, opposite_positive, positive_dec}
use Rattle.lie_datum.proofs.HeightLemmas.{height_positive, total-plus}
use Rattle.lie_datum.proofs.VectorLemmas.{abs_add}
use Rattle.lie_weyl.specs.WeylElement.{moved}
use Rattle.lie_weyl.specs.Descents.{AreHeights, AreTurned, EndsAtRank, IsFirstNegative}
use Rattle.lie_weyl.proofs.Words.{IsWord, empty, IsRoot-moved, lengths, moved-append}
use Rattle.lie_weyl.proofs.Linearity.{turn, moved_turn}
use Rattle.lie_weyl.proofs.Signs.{negative_from}
use Rattle.lie_weyl.proofs.DescentLemmas.{IsLeastDescent}

-- a multiple has the multiple of the sum
pub total-times : (k : ℤ) (x : Vector) → total (λ c. c) (times k x) ≡ k *ℤ total (λ c. c) x
total-times k [] = ring (k ∷ []) (num (pos 0)) (var 0 ⊗ num (pos 0)) refl
total-times k (a ∷ x) = ap (λ t. k *ℤ a +ℤ t) (total-times k x) ∙ sym (mul-add k a (total (λ c. c) x))

height_simple : (i : ℕ) → 1 ≤ i → i ≤ 8 → height (simple i) ≡ pos 1
height_simple zero p q = absurd (omega (arith, p))
height_simple (suc zero) p q = refl
height_simple (suc (suc zero)) p q = refl
height_simple (suc (suc (suc zero))) p q = refl
height_simple (suc (suc (suc (suc zero)))) p q = refl
height_simple (suc (suc (suc (suc (suc zero))))) p q = refl
height_simple (suc (suc (suc (suc (suc (suc zero)))))) p q = refl
height_simple (suc (suc (suc (suc (suc (suc (suc zero))))))) p q = refl
height_simple (suc (suc (suc (suc (suc (suc (suc (suc zero)))))))) p q = refl
height_simple (suc (suc (suc (suc (suc (suc (suc (suc (suc i))))))))) p q = absurd (omega (arith, q))

total_within : (v : Vector) → IsWithin 100 v → unsigned_abs (total (λ c. c) v) ≤ 100 * length v
total_within [] h = omega arith
total_within (a ∷ v) h =
    let x = h zero (pos 0) (omega arith) in
    let y = total_within v (λ k e l. h (suc k) e (omega (arith, l))) in
    let z = abs_add a (total (λ c. c) v) in
    omega (arith, x, y, z)

module _ (d : RootDatum) (loaded : IsLoaded d) where
  pub height_negative : (r : Root) → IsRoot d.base r → ¬ IsPositive r → height r <ℤ pos 0
  height_negative r p n =
      let h = height_positive d loaded (opposite r) (opposite_root d loaded r p) (opposite_positive r.coeffs (negative_from d loaded r p n)) in
      let e = total-times (negsuc 0) r.coeffs in
      omega (arith, ints, h, e)

  pub positive_by_height : (r : Root) → IsRoot d.base r → pos 0 ≤ℤ height r → IsPositive r
  positive_by_height r p h = ⊎_elim (λ q. q) (λ n. (let l = height_negative r p n in absurd (omega (arith, ints, h, l)))) (positive_dec d loaded r p)

  pub negative_by_height : (r : Root) → IsRoot d.base r → height r <ℤ pos 0 → ¬ IsPositive r
  negative_by_height r p h q = let l = height_positive d loaded r p q in absurd (omega (arith, ints, h, l))

  pub height_within : (r : Root) → IsRoot d.base r → unsigned_abs (height r) ≤ 800
  height_within r p =
      let a = total_within r.coeffs (loaded.axioms.finite.small r p).0 in
      let n = (lengths d loaded r p).0 in
      omega (arith, a, n)

  -- the height of the image of s_i r
  height_turned : (w : List ℕ) (i : ℕ) (r : Root) → IsWord d.base w → IsSimpleIndex d.base i → IsRoot d.base r →
      height (moved d.base w (reflected d.base i r)) ≡ height (moved d.base w r) +ℤ turn d.base i r *ℤ height (moved d.base w (simple i))
  height_turned w i r h s p =
      let k = turn d.base i r in
      let a = moved d.base w (simple i) in
      ap (total (λ c. c)) (moved_turn d loaded w i r h s p) ∙ total-plus (moved d.base w r).coeffs (times k a.coeffs) ∙ ap (λ t. height (moved d.base w r) +ℤ t) (total-times k a.coeffs)

  height_one : (i : ℕ) → IsSimpleIndex d.base i → height (simple i) ≡ pos 1
  height_one i s = let a = s.1 in let low = short d loaded in height_simple i s.0 (omega (arith, a, low))

  pub heights_turned : (w : List ℕ) (i : ℕ) (heights turned : Vector) → IsWord d.base w → IsSimpleIndex d.base i → AreHeights d w heights → AreTurned d i heights turned → AreHeights d (w ++ i ∷ []) turned
  heights_turned w i heights turned h s at t j q =
      let k = turn d.base i (simple j) in
      let p = is_simple j q in
      let one = height_turned [] i (simple j) empty s p ∙ ap (λ x. x +ℤ k *ℤ height (simple i)) (height_one j q) ∙ ap (λ x. pos 1 +ℤ k *ℤ x) (height_one i s) ∙ ap (λ x. pos 1 +ℤ x) (mul-one k) in
      let less : height (reflected d.base i (simple j)) -ℤ pos 1 ≡ k = omega (arith, ints, one) in
      t j q ∙ ap (λ x. x +ℤ (height (reflected d.base i (simple j)) -ℤ pos 1) *ℤ entry heights (i - 1)) (at j q)
      ∙ ap (λ x. height (moved d.base w (simple j)) +ℤ x *ℤ entry heights (i - 1)) less ∙ ap (λ x. height (moved d.base w (simple j)) +ℤ k *ℤ x) (at i s)
      ∙ sym (height_turned w i (simple j) h s p) ∙ ap height (sym (moved-append d.base w (i ∷ []) (simple j)))

  -- a height below 0 stands at a simple root
  pub negative_index : (heights : Vector) (k : ℕ) → EndsAtRank d heights → IsFirstNegative heights k → IsSimpleIndex d.base (k + 1)
  negative_index heights k ends f =
      let below = f.below in
      ⊎_elim (λ l. (omega arith, omega (arith, l))) (λ l. (let z = ends k l in absurd (omega (arith, ints, z, below)))) (within_or_past k (rank d.base))

  -- the first height below 0 is that of the least descent
  pub first_descent : (w : List ℕ) (heights : Vector) (k : ℕ) → IsWord d.base w → AreHeights d w heights → EndsAtRank d heights → IsFirstNegative heights k → IsLeastDescent d w (k + 1)
  first_descent w heights k h at ends f =
      let below = f.below in
      let s = negative_index heights k ends f in
      let e : k + 1 - 1 ≡ k = omega arith in
      record {
        index = s;
        down = negative_by_height (moved d.base w (simple (k + 1))) (IsRoot-moved d loaded w (simple (k + 1)) h (is_simple (k + 1) s))
            (let x = at (k + 1) s in let y = ap (entry heights) e in omega (arith, ints, x, y, below));
        before = λ j q l. positive_by_height (moved d.base w (simple j)) (IsRoot-moved d loaded w (simple j) h (is_simple j q))
            (let x = at j q in let y = f.first (j - 1) (let a = q.0 in omega (arith, l, a)) in omega (arith, ints, x, y));
      }

  -- no height below 0: no descent
  pub no_descent : (w : List ℕ) (heights : Vector) → IsWord d.base w → AreHeights d w heights → ((k : ℕ) → pos 0 ≤ℤ entry heights k) → (i : ℕ) → IsSimpleIndex d.base i → IsPositive (moved d.base w (simple i))
  no_descent w heights h at up i s =
      positive_by_height (moved d.base w (simple i)) (IsRoot-moved d loaded w (simple i) h (is_simple i s)) (let x = at i s in let y = up (i - 1) in omega (arith, ints, x, y))

  -- heights of images of roots are small
  pub heights_small : (w : List ℕ) (heights : Vector) → IsWord d.base w → AreHeights d w heights → EndsAtRank d heights → IsWithin 800 heights
  heights_small w heights h at ends k e l = subst (λ t. unsigned_abs t ≤ 800) (get_or_default heights k (pos 0) e l) (small_at k)
    where
      small_at : (k : ℕ) → unsigned_abs (entry heights k) ≤ 800
      small_at k =
          ⊎_elim (λ l. (let s : IsSimpleIndex d.base (k + 1) = (omega arith, omega (arith, l)) in
          let e : k + 1 - 1 ≡ k = omega arith in
          subst (λ t. unsigned_abs t ≤ 800) (sym (at (k + 1) s) ∙ ap (entry heights) e) (height_within (moved d.base w (simple (k + 1))) (IsRoot-moved d loaded w (simple (k + 1)) h (is_simple (k + 1) s)))))
          (λ l. subst (λ t. unsigned_abs t ≤ 800) (sym (ends k l)) (omega arith)) (within_or_past k (rank d.base))
