-- Products of values along a string of roots.
use Rattle.std.proofs.Common.{◌⊎◌, inl, inr, ◌≡◌, ◌≢◌, ℕ, zero, suc, ◌+◌, ◌-◌, ◌*◌, ◌^◌, ◌<◌, ◌≤◌, ℤ, pos, negsuc, neg_ℤ, ◌+ℤ◌, ◌*ℤ◌, ◌<ℤ◌, [], ◌∷◌, length, Bool, true, false, cond, ◌||◌, None, refl, sym, ap, subst, ◌∙◌, arith, ⊎_elim, unsigned_abs, lit≤}
use Rattle.std.proofs.lemmas.Int.{ints}
use Rattle.std.proofs.lemmas.Cmp.{int_ranked}
use Rattle.std.proofs.Math.IntN.{+ℤ_comm, zero-*ℤ}
use Rattle.std.proofs.Math.Nat.{pow-suc}
use Rattle.std.specs.Ordering.{int_cmp, is_eq, MatchOrdering}
use Rattle.std.specs.declared.cmp.Ordering.{Ordering}
use Rattle.std.specs.declared.cmp.Ordering.TheVariants.{Less, Equal, Greater}
use Rattle.lie_datum.specs.Vectors.{Vector, plus, times, minus, entry}
use Rattle.lie_datum.specs.RootList.{RootDatum, IsLoaded, IsNumber, NamesRoot, root_of}
use Rattle.lie_base.proofs.RingSolver.{ring, var, num, ◌⊕◌, ◌⊗◌}
use Rattle.lie_datum.proofs.Entries.{entry-plus, entry-times, length-plus, length-times, same_entries}
use Rattle.lie_datum.proofs.VectorLemmas.{abs_mul}
use Rattle.lie_datum.proofs.RunLemmas.{times_none}
use Rattle.lie_datum.proofs.SignedRoots.{root_is, same_number, same_coeffs, opposite_number}
use Rattle.lie_const.specs.StructureConstants.{Table, coeffs_of, IsSum, HasSigns, same_vector}
use Rattle.lie_const.specs.CommutatorTerms.{number_of, value_at, string_product}
use Rattle.lie_const.specs.TermFilling.{IsWalked}
use Rattle.lie_const.proofs.SumLemmas.{neg_neg, long, not_opposite, compare_numbers}
use Rattle.lie_const.proofs.FoundRoots.{not_passed, from_same_vector, same_vector_refl, number_of_is}

pub plus-comm : (x y : Vector) → plus x y ≡ plus y x
plus-comm [] [] = refl
plus-comm [] (b ∷ y) = refl
plus-comm (a ∷ x) [] = refl
plus-comm (a ∷ x) (b ∷ y) = let e = +ℤ_comm a b in let f = plus-comm x y in cc

-- r + (i r + s) = (i + 1) r + s
pub plus-times : (r s : Vector) (i : ℕ) → length r ≡ 8 → length s ≡ 8 → plus r (plus (times (pos i) r) s) ≡ plus (times (pos (i + 1)) r) s
plus-times r s i p q =
    same_entries (plus r (plus (times (pos i) r) s)) (plus (times (pos (i + 1)) r) s)
    (length-plus r (plus (times (pos i) r) s) 8 p (length-plus (times (pos i) r) s 8 (length-times (pos i) r ∙ p) q) ∙ sym (length-plus (times (pos (i + 1)) r) s 8 (length-times (pos (i + 1)) r ∙ p) q))
    (λ j. entry-plus r (plus (times (pos i) r) s) j ∙ ap (λ t. entry r j +ℤ t) (entry-plus (times (pos i) r) s j ∙ ap (λ t. t +ℤ entry s j) (entry-times (pos i) r j))
    ∙ ring (entry r j ∷ (pos i ∷ (entry s j ∷ []))) (var 0 ⊕ (var 1 ⊗ var 0 ⊕ var 2)) ((var 1 ⊕ num (pos 1)) ⊗ var 0 ⊕ var 2) refl
    ∙ sym (entry-plus (times (pos (i + 1)) r) s j ∙ ap (λ t. t +ℤ entry s j) (entry-times (pos (i + 1)) r j)))

-- ---- the value at two vectors
from_is_eq : (x y : ℤ) → is_eq (int_cmp x y) ≡ true → x ≡ y
from_is_eq x y e = by (int_cmp x y) e (int_ranked x y (int_cmp x y) refl)
  where
    by : (o : Ordering) → is_eq o ≡ true → MatchOrdering o (x <ℤ y) (x ≡ y) (y <ℤ x) → x ≡ y
    by Less e m = cc
    by Equal e m = m
    by Greater e m = cc

-- a test of three, as `value_at` makes it
abbrev chosen : Table → ℤ → ℤ → Bool → ℤ
chosen n x y b = cond (is_eq (int_cmp x (pos 0)) || is_eq (int_cmp y (pos 0)) || b) (pos 0) (n x y)

chosen_false : (n : Table) (x y : ℤ) (a b : Bool) → a ≡ false → b ≡ false → cond (a || b || false) (pos 0) (n x y) ≡ n x y
chosen_false n x y false false e f = refl
chosen_false n x y true b e f = cc
chosen_false n x y false true e f = cc

chosen_true : (n : Table) (x y : ℤ) (a b : Bool) → cond (a || b || true) (pos 0) (n x y) ≡ pos 0
chosen_true n x y true true = refl
chosen_true n x y true false = refl
chosen_true n x y false true = refl
chosen_true n x y false false = refl

-- where a vector has no number the value is 0
chosen_left : (n : Table) (x y : ℤ) (b c : Bool) → cond (true || b || c) (pos 0) (n x y) ≡ pos 0
chosen_left n x y true true = refl
chosen_left n x y true false = refl
chosen_left n x y false true = refl
chosen_left n x y false false = refl

chosen_right : (n : Table) (x y : ℤ) (a c : Bool) → cond (a || true || c) (pos 0) (n x y) ≡ pos 0
chosen_right n x y true true = refl
chosen_right n x y true false = refl
chosen_right n x y false true = refl
chosen_right n x y false false = refl

pub value_absent_left : (d : RootDatum) (n : Table) (u v : Vector) → number_of d u ≡ pos 0 → value_at d n u v ≡ pos 0
value_absent_left d n u v e = ap (λ t. chosen n t (number_of d v) (same_vector u (minus v))) e ∙ chosen_left n (pos 0) (number_of d v) (is_eq (int_cmp (number_of d v) (pos 0))) (same_vector u (minus v))

pub value_absent_right : (d : RootDatum) (n : Table) (u v : Vector) → number_of d v ≡ pos 0 → value_at d n u v ≡ pos 0
value_absent_right d n u v e = ap (λ t. chosen n (number_of d u) t (same_vector u (minus v))) e ∙ chosen_right n (number_of d u) (pos 0) (is_eq (int_cmp (number_of d u) (pos 0))) (same_vector u (minus v))

-- numbers are equal or not
pub equal_or : (x y : ℤ) → (x ≡ y) ⊎ (x ≢ y)
equal_or x y = ⊎_elim (λ l. inr (λ f. absurd (omega (arith, ints, l, f)))) (λ f. ⊎_elim (λ l. inr (λ g. absurd (omega (arith, ints, l, g)))) (λ g. inl g) f) (compare_numbers x y)

module _ (d : RootDatum) (loaded : IsLoaded d) (n : Table) where
  not_zero : (k : ℤ) → IsNumber d k → k ≡ pos 0 → ⊥
  not_zero (pos zero) m e = cc
  not_zero (pos (suc k)) m e = cc
  not_zero (negsuc k) m e = cc

  value_chosen : (r s : ℤ) (v : Vector) (b : Bool) → IsNumber d r → IsNumber d s → coeffs_of d s ≡ v → same_vector (coeffs_of d r) (minus v) ≡ b → value_at d n (coeffs_of d r) v ≡ chosen n r s b
  value_chosen r s v b p q e f =
      ap (λ t. chosen n t (number_of d v) (same_vector (coeffs_of d r) (minus v))) (number_of_is d loaded r (coeffs_of d r) p refl)
      ∙ ap (λ t. chosen n r t (same_vector (coeffs_of d r) (minus v))) (number_of_is d loaded s v q e) ∙ ap (chosen n r s) f

  -- at roots that are not opposite it is that of the table
  pub value_is : (r s : ℤ) (v : Vector) → IsNumber d r → IsNumber d s → coeffs_of d s ≡ v → s ≢ neg_ℤ r → value_at d n (coeffs_of d r) v ≡ n r s
  value_is r s v p q e o =
      value_chosen r s v false p q e (not_passed (same_vector (coeffs_of d r) (minus v)) (λ h. o (back h)))
      ∙ chosen_false n r s (is_eq (int_cmp r (pos 0))) (is_eq (int_cmp s (pos 0))) (not_passed (is_eq (int_cmp r (pos 0))) (λ h. not_zero r p (from_is_eq r (pos 0) h))) (not_passed (is_eq (int_cmp s (pos 0))) (λ h. not_zero s q (from_is_eq s (pos 0) h)))
    where
      back : same_vector (coeffs_of d r) (minus v) ≡ true → s ≡ neg_ℤ r
      back h =
          let f = from_same_vector (coeffs_of d r) (minus v) h in
          let g = opposite_number d s q in
          let k = same_number d loaded r (neg_ℤ s) p g.0 (same_coeffs d loaded (root_of d r) (root_of d (neg_ℤ s)) (root_is d loaded r p) (root_is d loaded (neg_ℤ s) g.0) (f ∙ ap minus (sym e) ∙ sym (ap (λ t. t.coeffs) g.1))) in
          sym (neg_neg s) ∙ ap neg_ℤ (sym k)

  -- at opposite roots it is 0
  pub value_opposite : (r s : ℤ) (v : Vector) → IsNumber d r → IsNumber d s → coeffs_of d s ≡ v → s ≡ neg_ℤ r → value_at d n (coeffs_of d r) v ≡ pos 0
  value_opposite r s v p q e f =
      let g = opposite_number d s q in
      let h : coeffs_of d r ≡ minus v = ap (coeffs_of d) (sym (neg_neg r) ∙ ap neg_ℤ (sym f)) ∙ ap (λ t. t.coeffs) g.1 ∙ ap minus e in
      value_chosen r s v true p q e (ap (λ t. same_vector t (minus v)) h ∙ same_vector_refl (minus v)) ∙ chosen_true n r s (is_eq (int_cmp r (pos 0))) (is_eq (int_cmp s (pos 0)))

  -- where they have no sum it is 0
  pub value_none : (r s : ℤ) (v : Vector) → HasSigns d n → IsNumber d r → IsNumber d s → coeffs_of d s ≡ v → ((k : ℤ) → ¬ IsSum d r s k) → value_at d n (coeffs_of d r) v ≡ pos 0
  value_none r s v signs p q e none = ⊎_elim (λ f. value_opposite r s v p q e f) (λ o. value_is r s v p q e o ∙ signs.none r s p q none) (equal_or s (neg_ℤ r))

  -- ---- the walk along a string
  pub walk_start : (r s : ℤ) → IsNumber d r → IsNumber d s → IsWalked d n r s 0 (pos 1) s
  walk_start r s p q = record {
    number = q;
    coeffs = sym (plus-comm (times (pos 0) (coeffs_of d r)) (coeffs_of d s) ∙ times_none (coeffs_of d s) (coeffs_of d r) (long d loaded s q) (long d loaded r p));
    value = refl;
    bound = omega arith;
  }

  pub walk_on : (r s : ℤ) (i : ℕ) (product last next v : ℤ) → IsNumber d r → IsNumber d s → IsWalked d n r s i product last → IsNumber d next × (coeffs_of d next ≡ plus (coeffs_of d r) (coeffs_of d last)) → v ≡ n r last → unsigned_abs v ≤ 128 → IsWalked d n r s (i + 1) (product *ℤ v) next
  walk_on r s i product last next v p q w h e l =
      let sum : IsSum d r last next = record { left = p; right = w.number; number = h.0; is = h.1 } in
      let more : i + 1 ≡ suc i = omega arith in
      record {
        number = h.0;
        coeffs = h.1 ∙ ap (plus (coeffs_of d r)) w.coeffs ∙ plus-times (coeffs_of d r) (coeffs_of d s) i (long d loaded r p) (long d loaded s q);
        value = ap (λ t. t *ℤ v) w.value ∙ ap (λ t. string_product d n (coeffs_of d r) (coeffs_of d s) i *ℤ t) (e ∙ sym (value_is r last (plus (times (pos i) (coeffs_of d r)) (coeffs_of d s)) p w.number w.coeffs (not_opposite d loaded r last next sum)))
            ∙ ap (string_product d n (coeffs_of d r) (coeffs_of d s)) (sym more);
        bound = let f = abs_mul product v (128 ^ i) 128 w.bound l in subst (λ t. unsigned_abs (product *ℤ v) ≤ t) (power i) f;
      }
    where
      power : (i : ℕ) → 128 ^ i * 128 ≡ 128 ^ (i + 1)
      power i = let more : i + 1 ≡ suc i = omega arith in sym (pow-suc 128 i) ∙ ap (λ t. 128 ^ t) (sym more)

  string_product_zero : (u v : Vector) (i m : ℕ) → string_product d n u v i ≡ pos 0 → string_product d n u v (i + m) ≡ pos 0
  string_product_zero u v i zero e = let f : i + 0 ≡ i = omega arith in ap (string_product d n u v) f ∙ e
  string_product_zero u v i (suc m) e =
      let f : i + suc m ≡ suc (i + m) = omega arith in
      ap (string_product d n u v) f ∙ ap (λ t. t *ℤ value_at d n u (plus (times (pos (i + m)) u) v)) (string_product_zero u v i m e) ∙ zero-*ℤ (value_at d n u (plus (times (pos (i + m)) u) v))

  -- where the next vector is no root, the product is 0
  pub walk_stops : (r s : ℤ) (i count : ℕ) (product last : ℤ) → HasSigns d n → IsNumber d r → IsWalked d n r s i product last → NamesRoot d (λ t. t.coeffs ≡ plus (coeffs_of d r) (coeffs_of d last)) None → i < count → pos 0 ≡ string_product d n (coeffs_of d r) (coeffs_of d s) count
  walk_stops r s i count product last signs p w none l =
      let more : suc i + (count - suc i) ≡ count = omega (arith, l) in
      let stop : string_product d n (coeffs_of d r) (coeffs_of d s) (suc i) ≡ pos 0 =
      ap (λ t. string_product d n (coeffs_of d r) (coeffs_of d s) i *ℤ t) (value_none r last (plus (times (pos i) (coeffs_of d r)) (coeffs_of d s)) signs p w.number w.coeffs (λ k h. none (root_of d k) (root_is d loaded k h.number) h.is))
      ∙ times_zero (string_product d n (coeffs_of d r) (coeffs_of d s) i) in
      sym (sym (ap (string_product d n (coeffs_of d r) (coeffs_of d s)) more) ∙ string_product_zero (coeffs_of d r) (coeffs_of d s) (suc i) (count - suc i) stop)
    where
      times_zero : (z : ℤ) → z *ℤ pos 0 ≡ pos 0
      times_zero z = omega (arith, ints)

-- the powers that come
pub small_power : (i : ℕ) → i ≤ 3 → 128 ^ i ≤ 128 ^ 3
small_power zero l = lit≤ tt
small_power (suc zero) l = lit≤ tt
small_power (suc (suc zero)) l = lit≤ tt
small_power (suc (suc (suc zero))) l = lit≤ tt
small_power (suc (suc (suc (suc i)))) l = absurd (omega (arith, l))
