-- The sign of a root by its test, and of the images of a simple root and its opposite.
use Rattle.std.proofs.Common.{◌≡◌, ℕ, zero, suc, ◌<◌, pos, ◌≤ℤ◌, ◌<ℤ◌, List, [], ◌∷◌, length, Bool, true, false, ◌||◌, refl, subst, arith, ◌⊎◌, inl, inr, ⊎_elim}
use Rattle.std.proofs.lemmas.Int.{ints}
use Rattle.std.proofs.lemmas.Bool.{false≢true, true≢false}
use Rattle.std.proofs.lemmas.List.{get_or_default}
use Rattle.std.specs.Int.RustNames.{int_lt}
use Rattle.std.specs.List.{list_any}
use Rattle.lie_datum.specs.declared.root_pair.Root.{Root}
use Rattle.lie_datum.specs.Vectors.{Vector, entry}
use Rattle.lie_datum.specs.RootDatum.{simple, reflected, IsSimpleIndex, IsRoot, IsPositive, IsNegative, is_simple}
use Rattle.lie_datum.specs.RootList.{RootDatum, IsLoaded}
use Rattle.lie_datum.proofs.LoadedLaws.{positive_or, not_both, simple_is_positive, at_entry}
use Rattle.lie_weyl.specs.WeylElement.{moved, is_negative}
use Rattle.lie_weyl.proofs.Words.{IsWord, IsRoot-moved}
use Rattle.lie_weyl.proofs.Linearity.{turned_entry}

-- a vector has a negative entry, or none
none_negative : (v : Vector) → list_any (λ c. int_lt c (pos 0)) v ≡ false → (k : ℕ) → pos 0 ≤ℤ entry v k
none_negative [] e k = omega (arith, ints)
none_negative (a ∷ v) e k = by (none_negative v) (int_lt a (pos 0)) refl e k
  where
    by : (list_any (λ c. int_lt c (pos 0)) v ≡ false → (k : ℕ) → pos 0 ≤ℤ entry v k) → (b : Bool) → int_lt a (pos 0) ≡ b → (b || list_any (λ c. int_lt c (pos 0)) v) ≡ false → (k : ℕ) → pos 0 ≤ℤ entry (a ∷ v) k
    by rest true h e k = absurd (true≢false e)
    by rest false h e zero = omega (arith, ints, h)
    by rest false h e (suc k) = rest e k

some_negative : (v : Vector) → list_any (λ c. int_lt c (pos 0)) v ≡ true → (k : ℕ) × (k < length v) × (entry v k <ℤ pos 0)
some_negative [] e = absurd (false≢true e)
some_negative (a ∷ v) e = by (some_negative v) (int_lt a (pos 0)) refl e
  where
    by : (list_any (λ c. int_lt c (pos 0)) v ≡ true → (k : ℕ) × (k < length v) × (entry v k <ℤ pos 0)) → (b : Bool) → int_lt a (pos 0) ≡ b → (b || list_any (λ c. int_lt c (pos 0)) v) ≡ true
        → (k : ℕ) × (k < length (a ∷ v)) × (entry (a ∷ v) k <ℤ pos 0)
    by rest true h e = (0, omega arith, omega (arith, ints, h))
    by rest false h e = let q = rest e in (suc q.0, (let l = q.1 in omega (arith, l)), q.2)

pub positive_entry : (r : Root) → IsPositive r → (k : ℕ) → pos 0 ≤ℤ entry r.coeffs k
positive_entry r h = at_entry (λ c. pos 0 ≤ℤ c) (omega (arith, ints)) r.coeffs h

negative_entry : (r : Root) → IsNegative r → (k : ℕ) → entry r.coeffs k ≤ℤ pos 0
negative_entry r h = at_entry (λ c. c ≤ℤ pos 0) (omega (arith, ints)) r.coeffs h

from_entries : (r : Root) → ((k : ℕ) → pos 0 ≤ℤ entry r.coeffs k) → IsPositive r
from_entries r h k e l = subst (λ t. pos 0 ≤ℤ t) (get_or_default r.coeffs k (pos 0) e l) (h k)

either : (b : Bool) → (b ≡ true) ⊎ (b ≡ false)
either true = inl refl
either false = inr refl

pub positive_test : (r : Root) → IsPositive r → is_negative r ≡ false
positive_test r h =
    ⊎_elim (λ e. (let q = some_negative r.coeffs e in let p = positive_entry r h q.0 in let n = q.2 in absurd (omega (arith, ints, p, n)))) (λ e. e) (either (is_negative r))

pub test_positive : (r : Root) → is_negative r ≡ false → IsPositive r
test_positive r e = from_entries r (none_negative r.coeffs e)

pub negative_test : (r : Root) → ¬ IsPositive r → is_negative r ≡ true
negative_test r h = ⊎_elim (λ e. e) (λ e. absurd (h (test_positive r e))) (either (is_negative r))

module _ (d : RootDatum) (loaded : IsLoaded d) where
  pub negative_from : (r : Root) → IsRoot d.base r → ¬ IsPositive r → IsNegative r
  negative_from r p n = ⊎_elim (λ h. absurd (n h)) (λ h. h) (positive_or d loaded r p)

  -- a word that keeps a_i positive makes -a_i negative
  pub turned_negative : (w : List ℕ) (i : ℕ) → IsWord d.base w → IsSimpleIndex d.base i → IsPositive (moved d.base w (simple i)) → ¬ IsPositive (moved d.base w (reflected d.base i (simple i)))
  turned_negative w i h s p q =
      let a = moved d.base w (simple i) in
      not_both d loaded a (IsRoot-moved d loaded w (simple i) h (is_simple i s))
      (λ k e l. subst (λ t. t ≤ℤ pos 0) (get_or_default a.coeffs k (pos 0) e l)
      (let t = turned_entry d loaded w i h s k in let u = positive_entry (moved d.base w (reflected d.base i (simple i))) q k in omega (arith, ints, t, u))) p

  -- and one that makes a_i negative keeps -a_i positive
  pub turned_positive : (w : List ℕ) (i : ℕ) → IsWord d.base w → IsSimpleIndex d.base i → ¬ IsPositive (moved d.base w (simple i)) → IsPositive (moved d.base w (reflected d.base i (simple i)))
  turned_positive w i h s n =
      let a = moved d.base w (simple i) in
      from_entries (moved d.base w (reflected d.base i (simple i)))
      (λ k. let t = turned_entry d loaded w i h s k in let u = negative_entry a (negative_from a (IsRoot-moved d loaded w (simple i) h (is_simple i s)) n) k in omega (arith, ints, t, u))

  -- simple roots are positive
  pub simple_up : (i : ℕ) → IsSimpleIndex d.base i → IsPositive (simple i)
  simple_up zero s = absurd (omega (arith, s.0))
  simple_up (suc i) s = simple_is_positive d loaded i s
