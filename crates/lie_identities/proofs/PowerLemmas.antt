-- The powers of the polynomial of a factor, where its side is not large.
-- Own: the bounds.
use Rattle.std.proofs.Common.{◌≡◌, ◌≢◌, ℕ, zero, suc, ◌+◌, ◌*◌, ◌-◌, ◌<◌, ◌≤◌, ◌^◌, ℤ, pos, negsuc, ◌*ℤ◌, nat_abs, List, [], ◌∷◌, ◌++◌, length, get_or, true, false, Bool, refl, sym, ap, ◌∙◌, subst, arith, inl, inr, ◌⊎◌}
use Rattle.std.specs.Prelude.{◌≤ℤ◌, ◌<ℤ◌}
use Rattle.std.specs.Ordering.{int_eq}
use Rattle.std.proofs.lemmas.Int.{ints}
use Rattle.std.proofs.lemmas.Bool.{cases_lt}
use Rattle.std.proofs.lemmas.Bool.Decides.{Decides-int_eq}
use Rattle.std.proofs.lemmas.List.{get_or_append_left, get_or-append-add}
use Rattle.std.proofs.Math.Nat.{mul-le-mul_right}
use Rattle.lie_ring.specs.Rings.{Fits}
use Rattle.lie_ring.specs.Integers.{integers}
use Rattle.lie_ring.specs.IntegerLaws.{integers_commutative}
use Rattle.lie_ring.specs.Powers.{power}
use Rattle.lie_ring.specs.RingLemmas.{one_mul}
use Rattle.lie_ring.specs.Matrices.{Matrix, entry}
use Rattle.lie_ring.specs.MatrixLemmas.{table-same}
use Rattle.lie_datum.specs.RootList.{RootDatum, IsNumber}
use Rattle.lie_const.specs.Modules.{Module, IsModule, dimension, top, divided_power}
use Rattle.lie_mat.specs.Wide.{IsHugeMatrix}
use Rattle.lie_poly.specs.Polynomials.{Polynomial, laurent, size, degree}
use Rattle.lie_poly.specs.LaurentLaws.{laurent_ring}
use Rattle.lie_identities.specs.AuditRelations.{Factor, RootElement, CorootElement, size_entry, side_size}
use Rattle.lie_identities.specs.StepLists.{IsStepOf, step}
use Rattle.lie_identities.specs.Columns.{IsFactorOf, IsNarrowSide}
use Rattle.lie_identities.specs.Moves.{ArePowersOf}
use Rattle.lie_identities.specs.Actions.{IsNarrowFactor}
use Rattle.lie_identities.proofs.EntrySizes.{power-size, under_product}
use Rattle.lie_identities.proofs.GrowingSizes.{last_small, power_nonnegative, size_entry_nonnegative}
use Rattle.lie_identities.proofs.NarrowLemmas.{under_size, one_term}
use Rattle.lie_identities.proofs.DegreeLemmas.{power-degree, degree-last}
use Rattle.lie_identities.proofs.ReadyLemmas.{diagonal-small, last_narrow, times_right}

-- ---- powers of natural numbers
-- those of a number that is not 0 grow
power-grows : (s m k : ℕ) → 1 ≤ s → power integers (pos s) m ≤ℤ power integers (pos s) (m + k)
power-grows s m zero h = subst (λ n. power integers (pos s) m ≤ℤ power integers (pos s) n) (let e : m ≡ m + zero = omega arith in e) (omega (arith, ints))
power-grows s m (suc k) h =
    let before = power-grows s m k h in
    let x = power integers (pos s) (m + k) in
    let more = times_right x (pos 1) (pos s) (omega (arith, ints, h)) (power_nonnegative s (m + k)) in
    let one = integers_commutative.mul_one x refl in
    subst (λ n. power integers (pos s) m ≤ℤ power integers (pos s) n) (let e : suc (m + k) ≡ m + suc k = omega arith in e)
    (let h : power integers (pos s) m ≤ℤ (x *ℤ pos s) = omega (arith, ints, before, more, one) in h)

module _ (d : RootDatum) (v : Module) (shape : IsModule d v) (r : ℤ) (number : IsNumber d r) (f : Polynomial) (xs : List (Factor Polynomial)) (small : ¬ IsHugeMatrix (side_size laurent v (RootElement r f ∷ xs))) where
  -- an entry of the size of X_r(f) is small
  entry-small : (a b : ℕ) → a < dimension v → b < dimension v → size_entry v r (size f) a b <ℤ pos (2 ^ 126)
  entry-small a b i j =
      let t = one_term laurent laurent_ring v r f refl xs small a b b i j j in
      let alone = diagonal-small v xs b j in
      let l = last_small v laurent [] (RootElement r f ∷ xs) small a b i j in
      let z = size_entry v r (size f) a b in
      let nonneg = size_entry_nonnegative v r (size f) a b in
      let more = times_right z (pos 1) (entry (pos 0) (side_size laurent v xs) b b) alone nonneg in
      let one = integers_commutative.mul_one z refl in
      omega (arith, ints, t, more, one, l)

  -- a power is small where the matrix has an entry other than 0
  power-small-at : (n a b : ℕ) → top v r ≡ suc n → a < dimension v → b < dimension v → entry (pos 0) (divided_power v r (suc n)) a b ≢ pos 0 → power integers (pos (size f)) (suc n) <ℤ pos (2 ^ 126)
  power-small-at n a b e i j nonzero =
      let value = entry (pos 0) (divided_power v r (suc n)) a b in
      let s = step (suc n) a value in
      let is : IsStepOf v r b s = record { first = omega arith; last = omega (arith, e); row = i; value = refl } in
      let under = under_size laurent laurent_ring v r f refl xs small b s j is in
      let l = entry-small a b i j in
      let x = power integers (pos (size f)) (suc n) in
      let least : pos 1 ≤ℤ pos (nat_abs value) = abs_positive value nonzero in
      let more = times_right x (pos 1) (pos (nat_abs value)) least (power_nonnegative (size f) (suc n)) in
      let one = integers_commutative.mul_one x refl in
      omega (arith, ints, under, more, one, l)
    where
      abs_positive : (z : ℤ) → z ≢ pos 0 → pos 1 ≤ℤ pos (nat_abs z)
      abs_positive (pos zero) h = absurd (h refl)
      abs_positive (pos (suc k)) h = omega (arith, ints)
      abs_positive (negsuc k) h = omega (arith, ints)

  -- the last power is small, since the last matrix is not 0
  power-small : (n : ℕ) → top v r ≡ suc n → power integers (pos (size f)) (suc n) <ℤ pos (2 ^ 126)
  power-small n e = by_size (cases_lt (nat_abs (power integers (pos (size f)) (suc n))) (2 ^ 126))
    where
      E : Matrix ℤ
      E = divided_power v r (suc n)

      zero-at : 2 ^ 126 ≤ nat_abs (power integers (pos (size f)) (suc n)) → (a b : ℕ) → a < dimension v → b < dimension v → entry (pos 0) (divided_power v r (suc n)) a b ≡ pos 0
      zero-at large a b i j = by_test (int_eq (entry (pos 0) (divided_power v r (suc n)) a b) (pos 0)) refl
        where
          by_test : (t : Bool) → int_eq (entry (pos 0) (divided_power v r (suc n)) a b) (pos 0) ≡ t → entry (pos 0) (divided_power v r (suc n)) a b ≡ pos 0
          by_test true h = (Decides-int_eq (entry (pos 0) (divided_power v r (suc n)) a b) (pos 0)).0 h
          by_test false h =
              let nonzero : entry (pos 0) (divided_power v r (suc n)) a b ≢ pos 0 = λ z. cc (h, (Decides-int_eq (entry (pos 0) (divided_power v r (suc n)) a b) (pos 0)).1 z) in
              let l = power-small-at n a b e i j nonzero in
              let p = power_nonnegative (size f) (suc n) in
              absurd (omega (arith, ints, l, p, large))

      by_size : (nat_abs (power integers (pos (size f)) (suc n)) < 2 ^ 126) ⊎ (2 ^ 126 ≤ nat_abs (power integers (pos (size f)) (suc n))) → power integers (pos (size f)) (suc n) <ℤ pos (2 ^ 126)
      by_size (inl l) = let p = power_nonnegative (size f) (suc n) in omega (arith, ints, l, p)
      by_size (inr g) = absurd (shape.last r n number e
          (shape.square r n number (omega (arith, e))
          ∙ table-same (dimension v) (dimension v) (entry (pos 0) (divided_power v r (suc n))) (λ _ _. pos 0) (λ a b i j. zero-at g a b i j)))

  -- the sizes of the factors of a power
  sizes-small : (k : ℕ) → 1 ≤ k → k < top v r → size (power laurent f k) * size f < 2 ^ 126
  sizes-small k first last = by_size (cases_lt 0 (size f))
    where
      last_power : (n : ℕ) → top v r ≡ suc n → 1 ≤ size f → size (power laurent f k) * size f < 2 ^ 126
      last_power n e s =
          let w = power-size laurent laurent_ring f k refl in
          let both = under_product (size (power laurent f k)) (size f) (power integers (pos (size f)) k) (pos (size f)) w (omega (arith, ints)) in
          let grows = power-grows (size f) (suc k) (n - k) s in
          let end : suc k + (n - k) ≡ suc n = omega (arith, e, last) in
          let up : power integers (pos (size f)) (suc k) ≤ℤ power integers (pos (size f)) (suc n) = subst (λ m. power integers (pos (size f)) (suc k) ≤ℤ power integers (pos (size f)) m) end grows in
          let l = power-small n e in
          omega (arith, ints, both, up, l)

      by_size : (0 < size f) ⊎ (size f ≤ 0) → size (power laurent f k) * size f < 2 ^ 126
      by_size (inl s) = let t : top v r ≡ suc (top v r - 1) = omega (arith, last) in last_power (top v r - 1) t (omega (arith, s))
      by_size (inr z) =
          let e : size f ≡ 0 = omega (arith, z) in
          let p : size (power laurent f k) * size f ≡ 0 = ap (λ n. size (power laurent f k) * n) e ∙ (let h : size (power laurent f k) * 0 ≡ 0 = omega arith in h) in
          omega (arith, p)

-- the powers of each factor of a narrow side can be made
pub narrow-factor : (d : RootDatum) (v : Module) → IsModule d v → (ys : List (Factor Polynomial)) (x : Factor Polynomial) (xs : List (Factor Polynomial)) → IsFactorOf d x → IsNarrowSide d v (ys ++ x ∷ xs) → IsNarrowFactor d v x
narrow-factor d v shape ys (CorootElement i) xs of side = tt
narrow-factor d v shape ys (RootElement r f) xs of side = (
  of.0,
  record {
    fits = of.1;
    sizes = λ k first last. sizes-small d v shape r of.0 f xs (last_narrow v ys (RootElement r f ∷ xs) side.small) k first last;
    degrees = λ k first last.
        let h = side.shallow in
        let g = degree-last v ys (RootElement r f ∷ xs) in
        let w = power-degree laurent laurent_ring f k k refl (omega arith) in
        let m = mul-le-mul_right (degree f) (let l : suc k ≤ top v r = omega (arith, last) in l) in
        let e : suc k * degree f ≡ k * degree f + degree f = omega arith in
        omega (arith, h, g, w, m, e);
  },
)

-- ---- the list of the powers
-- one more member
pub length-push : {X : Type 0} (xs : List X) (x : X) → length (xs ++ x ∷ []) ≡ length xs + 1
length-push [] x = refl
length-push (w ∷ xs) x = let h = length-push xs x in omega (arith, h)

-- it begins with f
pub powers-one : (f : Polynomial) → Fits laurent f → ArePowersOf f (f ∷ [])
powers-one f fits zero z l = (sym (one_mul laurent laurent_ring.laws f refl), fits)
powers-one f fits (suc k) z l = absurd (omega (arith, l))

-- and goes on with the product of the last and f
pub powers-next : (f p : Polynomial) (ps : List Polynomial) (n : ℕ) (z : Polynomial) → length ps ≡ suc n → ArePowersOf f ps → p ≡ laurent.mul (get_or ps n z) f → Fits laurent p → ArePowersOf f (ps ++ p ∷ [])
powers-next f p ps n z count all is fits k y l = elim (cases_lt k (length ps)) [
  | inl low ↦
      let at : get_or (ps ++ p ∷ []) k y ≡ get_or ps k y = get_or_append_left ps (p ∷ []) y k low in
      (at ∙ (all k y low).0, subst (Fits laurent) (sym at) (all k y low).1)
  | inr high ↦
      let e : k ≡ length ps + 0 = omega (arith, high, l, length-push ps p) in
      let at : get_or (ps ++ p ∷ []) k y ≡ p = ap (λ j. get_or (ps ++ p ∷ []) j y) e ∙ get_or-append-add ps (p ∷ []) 0 y in
      let m : suc n ≡ k = omega (arith, e, count) in
      (at ∙ is ∙ ap (λ q. laurent.mul q f) (all n z (omega (arith, count))).0 ∙ ap (λ j. power laurent f (suc j)) m, subst (Fits laurent) (sym at) fits)
]
