-- Sums of the terms below a number, `sum_below R n f` = f 0 + .. + f (n - 1).
-- For proofs: no public clause cites it.
use Rattle.std.proofs.Common.{◌≡◌, ◌≢◌, ℕ, zero, suc, ◌+◌, ◌*◌, ◌/◌, ◌%◌, ◌<◌, refl, sym, ap, ap₂, ◌∙◌, inl, inr, subst, arith}
use Rattle.std.proofs.lemmas.Bool.{cases_lt}
use Rattle.std.proofs.lemmas.Nat.{div-mul-add, mod-mul-add, div_below, mod_below}
use Rattle.lie_ring.specs.Rings.{RingOn, IsElem, IsCommutativeRing, sum_below}
use Rattle.lie_ring.specs.RingLemmas.{zero_add, mul_zero, zero_mul, add_mul, add_middle}

-- a product above a number has a second factor
pub factor_positive : (a b n : ℕ) → n < a * b → 0 < b
factor_positive a zero n h = absurd (let never : ⊥ = omega (arith, h) in never)
factor_positive a (suc b) n h = omega arith

-- sums of equal terms are equal
pub sum-same : {A : Type 0} (R : RingOn A) (n : ℕ) (f g : ℕ → A) → ((k : ℕ) → k < n → f k ≡ g k) → sum_below R n f ≡ sum_below R n g
sum-same R zero f g h = refl
sum-same R (suc n) f g h = ap₂ R.add (sum-same R n f g (λ k p. h k (omega arith))) (h n (omega arith))

module _ {A : Type 0} (R : RingOn A) (laws : IsCommutativeRing R) where
  -- a sum of elements is an element
  pub sum-elem : (n : ℕ) (f : ℕ → A) → ((k : ℕ) → k < n → IsElem R (f k)) → IsElem R (sum_below R n f)
  sum-elem zero f p = laws.zero_elem
  sum-elem (suc n) f p = laws.add_elem (sum_below R n f) (f n) (sum-elem n f (λ k h. p k (omega arith))) (p n (omega arith))

  -- a sum of zeros is zero
  pub sum-zeros : (n : ℕ) (f : ℕ → A) → ((k : ℕ) → k < n → f k ≡ R.zero) → sum_below R n f ≡ R.zero
  sum-zeros zero f z = refl
  sum-zeros (suc n) f z = ap₂ R.add (sum-zeros n f (λ k h. z k (omega arith))) (z n (omega arith)) ∙ laws.add_zero R.zero laws.zero_elem

  -- the sum of the sums is the sum of two sums
  pub sum-add : (n : ℕ) (f g : ℕ → A) → ((k : ℕ) → k < n → IsElem R (f k)) → ((k : ℕ) → k < n → IsElem R (g k)) →
      sum_below R n (λ k. R.add (f k) (g k)) ≡ R.add (sum_below R n f) (sum_below R n g)
  sum-add zero f g p q = sym (laws.add_zero R.zero laws.zero_elem)
  sum-add (suc n) f g p q =
      let p' = λ (k : ℕ) (h : k < n). p k (omega (arith, h)) in
      let q' = λ (k : ℕ) (h : k < n). q k (omega (arith, h)) in
      ap (λ s. R.add s (R.add (f n) (g n))) (sum-add n f g p' q')
      ∙ add_middle R laws (sum_below R n f) (sum_below R n g) (f n) (g n) (sum-elem n f p') (sum-elem n g q') (p n (omega arith)) (q n (omega arith))

  -- a product with a sum is the sum of the products
  pub mul-sum : (n : ℕ) (a : A) (f : ℕ → A) → IsElem R a → ((k : ℕ) → k < n → IsElem R (f k)) →
      R.mul a (sum_below R n f) ≡ sum_below R n (λ k. R.mul a (f k))
  mul-sum zero a f e p = mul_zero R laws a e
  mul-sum (suc n) a f e p =
      let p' = λ (k : ℕ) (h : k < n). p k (omega (arith, h)) in
      laws.mul_add a (sum_below R n f) (f n) e (sum-elem n f p') (p n (omega arith))
      ∙ ap (λ s. R.add s (R.mul a (f n))) (mul-sum n a f e p')

  -- and so on the left
  pub sum-mul : (n : ℕ) (f : ℕ → A) (a : A) → IsElem R a → ((k : ℕ) → k < n → IsElem R (f k)) →
      R.mul (sum_below R n f) a ≡ sum_below R n (λ k. R.mul (f k) a)
  sum-mul zero f a e p = zero_mul R laws a e
  sum-mul (suc n) f a e p =
      let p' = λ (k : ℕ) (h : k < n). p k (omega (arith, h)) in
      add_mul R laws (sum_below R n f) (f n) a (sum-elem n f p') (p n (omega arith)) e
      ∙ ap (λ s. R.add s (R.mul (f n) a)) (sum-mul n f a e p')

  -- the order of two sums does not matter
  pub sum-swap : (m n : ℕ) (f : ℕ → ℕ → A) → ((i j : ℕ) → i < m → j < n → IsElem R (f i j)) →
      sum_below R m (λ i. sum_below R n (f i)) ≡ sum_below R n (λ j. sum_below R m (λ i. f i j))
  sum-swap zero n f p = sym (sum-zeros n (λ j. R.zero) (λ j h. refl))
  sum-swap (suc m) n f p =
      let p' = λ (i j : ℕ) (g : i < m) (h : j < n). p i j (omega (arith, g)) h in
      ap (λ s. R.add s (sum_below R n (f m))) (sum-swap m n f p')
      ∙ sym (sum-add n (λ j. sum_below R m (λ i. f i j)) (f m) (λ j h. sum-elem m (λ i. f i j) (λ i g. p' i j g h)) (λ j h. p m j (omega arith) h))

  -- one term taken out, where g has 0 in its place
  pub sum-one_out : (n i : ℕ) (f g : ℕ → A) → i < n → ((k : ℕ) → k < n → IsElem R (f k)) → g i ≡ R.zero → ((k : ℕ) → k < n → k ≢ i → g k ≡ f k) → sum_below R n f ≡ R.add (sum_below R n g) (f i)
  sum-one_out zero i f g h p zero_at same = absurd (omega arith)
  sum-one_out (suc n) i f g h p zero_at same = elim (cases_lt i n) [
    | inl low ↦
        let before = sum-one_out n i f g low (λ k q. p k (omega arith)) zero_at (λ k q r. same k (omega arith) r) in
        let last : g n ≡ f n = same n (omega arith) (λ e. absurd (omega arith)) in
        let elem_g : IsElem R (sum_below R n g) = sum-elem n g (λ k q. elim (cases_lt k i) [
          | inl less ↦ subst (IsElem R) (sym (same k (omega arith) (λ e. absurd (omega arith)))) (p k (omega arith))
          | inr rest ↦ elim (cases_lt i k) [
            | inl more ↦ subst (IsElem R) (sym (same k (omega arith) (λ e. absurd (omega arith)))) (p k (omega arith))
            | inr less ↦ let e : i ≡ k = omega arith in subst (λ m. IsElem R (g m)) e (subst (IsElem R) (sym zero_at) laws.zero_elem)
          ]
        ]) in
        ap (λ s. R.add s (f n)) before
        ∙ laws.add_assoc (sum_below R n g) (f i) (f n) elem_g (p i (omega arith)) (p n (omega arith))
        ∙ ap (R.add (sum_below R n g)) (laws.add_comm (f i) (f n) (p i (omega arith)) (p n (omega arith)))
        ∙ sym (laws.add_assoc (sum_below R n g) (f n) (f i) elem_g (p n (omega arith)) (p i (omega arith)))
        ∙ ap (λ x. R.add (R.add (sum_below R n g) x) (f i)) (sym last)
    | inr high ↦
        let e : i ≡ n = omega arith in
        let front = sum-same R n f g (λ k q. sym (same k (omega arith) (λ r. absurd (omega arith)))) in
        let s = sum_below R n g in
        let elem_s : IsElem R s = subst (IsElem R) front (sum-elem n f (λ k q. p k (omega arith))) in
        let none : g n ≡ R.zero = ap g (sym e) ∙ zero_at in
        ap (λ x. R.add x (f n)) (front ∙ sym (laws.add_zero s elem_s) ∙ ap (R.add s) (sym none))
        ∙ ap (λ m. R.add (R.add s (g n)) (f m)) (sym e)
  ]

  -- a sum with one term that is not zero is that term
  pub sum-only : (n i : ℕ) (f : ℕ → A) → i < n → ((k : ℕ) → k < n → IsElem R (f k)) → ((k : ℕ) → k < n → k ≢ i → f k ≡ R.zero) → sum_below R n f ≡ f i
  sum-only n i f h p z =
      sum-one_out n i f (λ k. R.zero) h p refl (λ k q r. sym (z k q r))
      ∙ ap (λ s. R.add s (f i)) (sum-zeros n (λ k. R.zero) (λ k q. refl))
      ∙ zero_add R laws (f i) (p i h)

  -- a sum in two parts
  pub sum-split : (m n : ℕ) (f : ℕ → A) → ((k : ℕ) → k < m + n → IsElem R (f k)) → sum_below R (m + n) f ≡ R.add (sum_below R m f) (sum_below R n (λ k. f (m + k)))
  sum-split m zero f p =
      let none : m + zero ≡ m = omega arith in
      ap (λ k. sum_below R k f) none ∙ sym (laws.add_zero (sum_below R m f) (sum-elem m f (λ k h. p k (omega arith))))
  sum-split m (suc n) f p =
      let one_more : m + suc n ≡ suc (m + n) = omega arith in
      ap (λ k. sum_below R k f) one_more
      ∙ ap (λ s. R.add s (f (m + n))) (sum-split m n f (λ k h. p k (omega arith)))
      ∙ laws.add_assoc (sum_below R m f) (sum_below R n (λ k. f (m + k))) (f (m + n))
      (sum-elem m f (λ k h. p k (omega arith))) (sum-elem n (λ k. f (m + k)) (λ k h. p (m + k) (omega arith))) (p (m + n) (omega arith))

  -- the sum over all pairs, the second number running first
  pub sum-pairs : (m n : ℕ) (f : ℕ → ℕ → A) → ((a b : ℕ) → a < m → b < n → IsElem R (f a b)) → sum_below R (m * n) (λ k. f (k / n) (k % n)) ≡ sum_below R m (λ a. sum_below R n (f a))
  sum-pairs zero n f p = let none : zero * n ≡ 0 = omega arith in ap (λ k. sum_below R k (λ k. f (k / n) (k % n))) none
  sum-pairs (suc m) n f p =
      let one_more : suc m * n ≡ m * n + n = omega arith in
      ap (λ k. sum_below R k (λ k. f (k / n) (k % n))) one_more
      ∙ sum-split (m * n) n (λ k. f (k / n) (k % n)) (λ k h.
      let within : k < suc m * n = omega (arith, one_more, h) in
      let some = factor_positive (suc m) n k within in
      p (k / n) (k % n) (div_below k n (suc m) some within) (mod_below k n some))
      ∙ ap₂ R.add (sum-pairs m n f (λ a b h k. p a b (omega arith) k))
      (sum-same R n (λ b. f ((m * n + b) / n) ((m * n + b) % n)) (f m) (λ b h. ap₂ f (div-mul-add m n b h) (mod-mul-add m n b h)))

  -- (sum of f k) (sum of g l) = sum of all f k g l
  pub sum-product : (m n : ℕ) (f g : ℕ → A) → ((k : ℕ) → k < m → IsElem R (f k)) → ((k : ℕ) → k < n → IsElem R (g k)) →
      sum_below R m (λ a. sum_below R n (λ b. R.mul (f a) (g b))) ≡ R.mul (sum_below R m f) (sum_below R n g)
  sum-product m n f g p q =
      sum-same R m _ (λ a. R.mul (f a) (sum_below R n g)) (λ a h. sym (mul-sum n (f a) g (p a h) q))
      ∙ sym (sum-mul m f (sum_below R n g) (sum-elem n g q) p)

  -- a sum of products with sums, on the left and on the right
  pub sum_products-assoc : (m n : ℕ) (f : ℕ → A) (g : ℕ → ℕ → A) (h : ℕ → A)
      → ((l : ℕ) → l < m → IsElem R (f l)) → ((l k : ℕ) → l < m → k < n → IsElem R (g l k)) → ((k : ℕ) → k < n → IsElem R (h k))
      → sum_below R n (λ k. R.mul (sum_below R m (λ l. R.mul (f l) (g l k))) (h k)) ≡ sum_below R m (λ l. R.mul (f l) (sum_below R n (λ k. R.mul (g l k) (h k))))
  sum_products-assoc m n f g h p q r =
      sum-same R n _ (λ k. sum_below R m (λ l. R.mul (f l) (R.mul (g l k) (h k)))) (λ k b.
      sum-mul m (λ l. R.mul (f l) (g l k)) (h k) (r k b) (λ l a. laws.mul_elem (f l) (g l k) (p l a) (q l k a b))
      ∙ sum-same R m _ _ (λ l a. laws.mul_assoc (f l) (g l k) (h k) (p l a) (q l k a b) (r k b)))
      ∙ sum-swap n m (λ k l. R.mul (f l) (R.mul (g l k) (h k))) (λ k l b a. laws.mul_elem (f l) (R.mul (g l k) (h k)) (p l a) (laws.mul_elem (g l k) (h k) (q l k a b) (r k b)))
      ∙ sum-same R m _ _ (λ l a. sym (mul-sum n (f l) (λ k. R.mul (g l k) (h k)) (p l a) (λ k b. laws.mul_elem (g l k) (h k) (q l k a b) (r k b))))
