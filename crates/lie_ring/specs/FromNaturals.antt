-- A homomorphism from the natural numbers to a ring is one from the integers.
-- For proofs: no public clause cites it.
use Rattle.std.proofs.Common.{◌≡◌, ℕ, suc, ◌+◌, ◌*◌, sym, ap, ap₂, ◌∙◌, subst, arith}
use Rattle.std.proofs.lemmas.Int.{ints}
use Rattle.std.specs.Prelude.{ℤ, pos, negsuc, ◌+ℤ◌, ◌*ℤ◌, neg_ℤ}
use Rattle.std.proofs.Math.IntN.{pos-*ℤ-pos, pos-*ℤ-negsuc, negsuc-*ℤ-pos, negsuc-*ℤ-negsuc}
use Rattle.lie_ring.specs.Rings.{RingOn, IsElem, IsCommutativeRing, IsFromIntegers}
use Rattle.lie_ring.specs.RingLemmas.{zero_add, add_cancel, add_middle, neg_only, neg_neg, mul_neg, neg_mul}

-- h of a natural number, and the negative of h of its absolute value
abbrev pub from_naturals : {A : Type 0} → RingOn A → (ℕ → A) → ℤ → A
from_naturals R h (pos n) = h n
from_naturals R h (negsuc n) = R.neg (h (suc n))

module _ {A : Type 0} (R : RingOn A) (laws : IsCommutativeRing R) where
  module _ (h : ℕ → A) (elem : (n : ℕ) → IsElem R (h n)) (none : h 0 ≡ R.zero) (one : h 1 ≡ R.one)
      (sum : (m n : ℕ) → h (m + n) ≡ R.add (h m) (h n)) (product : (m n : ℕ) → h (m * n) ≡ R.mul (h m) (h n)) where
    -- the map from the integers
    abbrev int : ℤ → A
    int = from_naturals R h

    -- it gives elements
    int_elem : (n : ℤ) → IsElem R (int n)
    int_elem (pos n) = elem n
    int_elem (negsuc n) = laws.neg_elem (h (suc n)) (elem (suc n))

    -- z = a - b
    difference : (z : ℤ) (a b : ℕ) → z +ℤ pos b ≡ pos a → R.add (int z) (h b) ≡ h a
    difference (pos n) a b e = let s : n + b ≡ a = omega (arith, ints, e) in sym (sum n b) ∙ ap h s
    difference (negsuc n) a b e =
        let s : b ≡ suc n + a = omega (arith, ints, e) in
        let x = h (suc n) in
        let p = elem (suc n) in
        let m = laws.neg_elem x p in
        ap (λ k. R.add (R.neg x) (h k)) s
        ∙ ap (R.add (R.neg x)) (sum (suc n) a)
        ∙ sym (laws.add_assoc (R.neg x) x (h a) m p (elem a))
        ∙ ap (λ y. R.add y (h a)) (laws.add_comm (R.neg x) x m p ∙ laws.add_neg x p)
        ∙ zero_add R laws (h a) (elem a)

    -- z = high z - low z
    abbrev low : ℤ → ℕ
    low (pos n) = 0
    low (negsuc n) = suc n

    -- and 0 where it is negative, else z
    abbrev high : ℤ → ℕ
    high (pos n) = n
    high (negsuc n) = 0

    -- z is the difference of the two
    parts : (z : ℤ) → z +ℤ pos (low z) ≡ pos (high z)
    parts (pos n) = let e : pos n +ℤ pos 0 ≡ pos n = omega (arith, ints) in e
    parts (negsuc n) = let e : negsuc n +ℤ pos (suc n) ≡ pos 0 = omega (arith, ints) in e

    -- it carries sums to sums
    int_add : (m n : ℤ) → int (m +ℤ n) ≡ R.add (int m) (int n)
    int_add m n =
        let a = high m in
        let b = low m in
        let c = high n in
        let d = low n in
        let whole : (m +ℤ n) +ℤ pos (b + d) ≡ pos (a + c) = omega (arith, ints, parts m, parts n) in
        let p = int_elem m in
        let q = int_elem n in
        add_cancel R laws (int (m +ℤ n)) (R.add (int m) (int n)) (h (b + d)) (int_elem (m +ℤ n)) (laws.add_elem (int m) (int n) p q) (elem (b + d))
        (difference (m +ℤ n) (a + c) (b + d) whole
        ∙ sum a c
        ∙ ap₂ R.add (sym (difference m a b (parts m))) (sym (difference n c d (parts n)))
        ∙ add_middle R laws (int m) (h b) (int n) (h d) p (elem b) q (elem d)
        ∙ ap (R.add (R.add (int m) (int n))) (sym (sum b d)))

    -- it carries negatives to negatives
    int_neg : (z : ℤ) → int (neg_ℤ z) ≡ R.neg (int z)
    int_neg z =
        let cancels : z +ℤ neg_ℤ z ≡ pos 0 = omega (arith, ints) in
        neg_only R laws (int z) (int (neg_ℤ z)) (int_elem z) (int_elem (neg_ℤ z)) (sym (int_add z (neg_ℤ z)) ∙ ap int cancels ∙ none)

    -- it carries products to products
    int_mul : (m n : ℤ) → int (m *ℤ n) ≡ R.mul (int m) (int n)
    int_mul (pos m) (pos n) = ap int (pos-*ℤ-pos m n) ∙ product m n
    int_mul (pos m) (negsuc n) =
        ap int (pos-*ℤ-negsuc m n) ∙ int_neg (pos (m * suc n)) ∙ ap R.neg (product m (suc n))
        ∙ sym (mul_neg R laws (h m) (h (suc n)) (elem m) (elem (suc n)))
    int_mul (negsuc m) (pos n) =
        ap int (negsuc-*ℤ-pos m n) ∙ int_neg (pos (suc m * n)) ∙ ap R.neg (product (suc m) n)
        ∙ sym (neg_mul R laws (h (suc m)) (h n) (elem (suc m)) (elem n))
    int_mul (negsuc m) (negsuc n) =
        let x = h (suc m) in
        let y = h (suc n) in
        let p = elem (suc m) in
        let q = elem (suc n) in
        ap int (negsuc-*ℤ-negsuc m n) ∙ product (suc m) (suc n)
        ∙ sym (neg_neg R laws (R.mul x y) (laws.mul_elem x y p q))
        ∙ ap R.neg (sym (mul_neg R laws x y p q)) ∙ sym (neg_mul R laws x (R.neg y) p (laws.neg_elem y q))

    -- where `of_int` is this map, it is the homomorphism from the integers
    pub integers_from_naturals : ((n : ℤ) → R.of_int n ≡ int n) → IsFromIntegers R
    integers_from_naturals is = record {
      int_elem = λ n. subst (IsElem R) (sym (is n)) (int_elem n);
      int_one = is (pos 1) ∙ one;
      int_add = λ m n. is (m +ℤ n) ∙ int_add m n ∙ ap₂ R.add (sym (is m)) (sym (is n));
      int_mul = λ m n. is (m *ℤ n) ∙ int_mul m n ∙ ap₂ R.mul (sym (is m)) (sym (is n));
    }
