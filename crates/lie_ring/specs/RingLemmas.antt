-- What follows from the laws of a ring.
-- For proofs: no public clause cites it.
use Rattle.std.proofs.Common.{◌≡◌, sym, ap, ap₂, ◌∙◌, arith}
use Rattle.std.proofs.lemmas.Int.{ints}
use Rattle.std.specs.Prelude.{ℤ, pos, ◌+ℤ◌, neg_ℤ}
use Rattle.lie_ring.specs.Rings.{RingOn, IsElem, IsCommutativeRing, IsRing}

module _ {A : Type 0} (R : RingOn A) (laws : IsCommutativeRing R) where
  -- zero plus a is a
  pub zero_add : (a : A) → IsElem R a → R.add R.zero a ≡ a
  zero_add a p = laws.add_comm R.zero a laws.zero_elem p ∙ laws.add_zero a p

  -- a sum cancels on the right
  pub add_cancel : (a b c : A) → IsElem R a → IsElem R b → IsElem R c → R.add a c ≡ R.add b c → a ≡ b
  add_cancel a b c p q r e =
      let n = R.neg c in
      let s = laws.neg_elem c r in
      let drop = λ (x : A) (h : IsElem R x). laws.add_assoc x c n h r s ∙ ap (R.add x) (laws.add_neg c r) ∙ laws.add_zero x h in
      sym (drop a p) ∙ ap (λ x. R.add x n) e ∙ drop b q

  -- a product with zero is zero
  pub mul_zero : (a : A) → IsElem R a → R.mul a R.zero ≡ R.zero
  mul_zero a p =
      let z = laws.zero_elem in
      let m = laws.mul_elem a R.zero p z in
      let twice : R.add (R.mul a R.zero) (R.mul a R.zero) ≡ R.mul a R.zero = sym (laws.mul_add a R.zero R.zero p z z) ∙ ap (R.mul a) (laws.add_zero R.zero z) in
      add_cancel (R.mul a R.zero) R.zero (R.mul a R.zero) m z m (twice ∙ sym (laws.add_comm R.zero (R.mul a R.zero) z m ∙ laws.add_zero (R.mul a R.zero) m))

  -- a product with zero on the left is zero
  pub zero_mul : (a : A) → IsElem R a → R.mul R.zero a ≡ R.zero
  zero_mul a p = laws.mul_comm R.zero a laws.zero_elem p ∙ mul_zero a p

  -- products distribute over sums on the left
  pub add_mul : (a b c : A) → IsElem R a → IsElem R b → IsElem R c → R.mul (R.add a b) c ≡ R.add (R.mul a c) (R.mul b c)
  add_mul a b c p q r =
      laws.mul_comm (R.add a b) c (laws.add_elem a b p q) r ∙ laws.mul_add c a b r p q
      ∙ ap₂ R.add (laws.mul_comm c a r p) (laws.mul_comm c b r q)

  -- (a + b) + (c + d) = (a + c) + (b + d)
  pub add_middle : (a b c d : A) → IsElem R a → IsElem R b → IsElem R c → IsElem R d → R.add (R.add a b) (R.add c d) ≡ R.add (R.add a c) (R.add b d)
  add_middle a b c d p q r s =
      laws.add_assoc a b (R.add c d) p q (laws.add_elem c d r s)
      ∙ ap (R.add a) (sym (laws.add_assoc b c d q r s) ∙ ap (λ x. R.add x d) (laws.add_comm b c q r) ∙ laws.add_assoc c b d r q s)
      ∙ sym (laws.add_assoc a c (R.add b d) p r (laws.add_elem b d q s))

  -- a + (b + c) = b + (a + c)
  pub add_swap : (a b c : A) → IsElem R a → IsElem R b → IsElem R c → R.add a (R.add b c) ≡ R.add b (R.add a c)
  add_swap a b c p q r = sym (laws.add_assoc a b c p q r) ∙ ap (λ x. R.add x c) (laws.add_comm a b p q) ∙ laws.add_assoc b a c q p r

  -- the negative is the only one
  pub neg_only : (a b : A) → IsElem R a → IsElem R b → R.add a b ≡ R.zero → b ≡ R.neg a
  neg_only a b p q e =
      let n = laws.neg_elem a p in
      add_cancel b (R.neg a) a q n p (laws.add_comm b a q p ∙ e ∙ sym (laws.add_neg a p) ∙ laws.add_comm a (R.neg a) p n)

  -- the negative of the negative is the element itself
  pub neg_neg : (a : A) → IsElem R a → R.neg (R.neg a) ≡ a
  neg_neg a p =
      let n = laws.neg_elem a p in
      sym (neg_only (R.neg a) a n p (laws.add_comm (R.neg a) a n p ∙ laws.add_neg a p))

  -- a product with a negative is the negative of the product
  pub mul_neg : (a b : A) → IsElem R a → IsElem R b → R.mul a (R.neg b) ≡ R.neg (R.mul a b)
  mul_neg a b p q =
      let n = laws.neg_elem b q in
      neg_only (R.mul a b) (R.mul a (R.neg b)) (laws.mul_elem a b p q) (laws.mul_elem a (R.neg b) p n)
      (sym (laws.mul_add a b (R.neg b) p q n) ∙ ap (R.mul a) (laws.add_neg b q) ∙ mul_zero a p)

  -- and so on the left
  pub neg_mul : (a b : A) → IsElem R a → IsElem R b → R.mul (R.neg a) b ≡ R.neg (R.mul a b)
  neg_mul a b p q =
      laws.mul_comm (R.neg a) b (laws.neg_elem a p) q ∙ mul_neg b a q p ∙ ap R.neg (laws.mul_comm b a q p)

  -- the negative of zero is zero
  pub neg_zero : R.neg R.zero ≡ R.zero
  neg_zero = sym (neg_only R.zero R.zero laws.zero_elem laws.zero_elem (laws.add_zero R.zero laws.zero_elem))

  -- the negative of a sum is the sum of the negatives
  pub neg_add : (a b : A) → IsElem R a → IsElem R b → R.neg (R.add a b) ≡ R.add (R.neg a) (R.neg b)
  neg_add a b p q =
      let m = laws.neg_elem a p in
      let n = laws.neg_elem b q in
      sym (neg_only (R.add a b) (R.add (R.neg a) (R.neg b)) (laws.add_elem a b p q) (laws.add_elem (R.neg a) (R.neg b) m n)
      (add_middle a b (R.neg a) (R.neg b) p q m n ∙ ap₂ R.add (laws.add_neg a p) (laws.add_neg b q) ∙ laws.add_zero R.zero laws.zero_elem))

  -- one times a is a
  pub one_mul : (a : A) → IsElem R a → R.mul R.one a ≡ a
  one_mul a p = laws.mul_comm R.one a laws.one_elem p ∙ laws.mul_one a p

  -- the negative is the product with the negative of one
  pub neg_one_mul : (a : A) → IsElem R a → R.mul (R.neg R.one) a ≡ R.neg a
  neg_one_mul a p = neg_mul R.one a laws.one_elem p ∙ ap R.neg (one_mul a p)

  -- a (b c) = b (a c)
  pub mul_swap : (a b c : A) → IsElem R a → IsElem R b → IsElem R c → R.mul a (R.mul b c) ≡ R.mul b (R.mul a c)
  mul_swap a b c p q r = sym (laws.mul_assoc a b c p q r) ∙ ap (λ x. R.mul x c) (laws.mul_comm a b p q) ∙ laws.mul_assoc b a c q p r

  -- (a b) (c d) = (a c) (b d)
  pub mul_middle : (a b c d : A) → IsElem R a → IsElem R b → IsElem R c → IsElem R d → R.mul (R.mul a b) (R.mul c d) ≡ R.mul (R.mul a c) (R.mul b d)
  mul_middle a b c d p q r s =
      laws.mul_assoc a b (R.mul c d) p q (laws.mul_elem c d r s)
      ∙ ap (R.mul a) (mul_swap b c d q r s)
      ∙ sym (laws.mul_assoc a c (R.mul b d) p r (laws.mul_elem b d q s))

module _ {A : Type 0} (R : RingOn A) (ring : IsRing R) where
  -- the integer 0 is zero
  pub int_zero : R.of_int (pos 0) ≡ R.zero
  int_zero =
      let laws = ring.laws in
      let n = R.of_int (pos 0) in
      let p = ring.integers.int_elem (pos 0) in
      add_cancel R laws n R.zero n p laws.zero_elem p (sym (ring.integers.int_add (pos 0) (pos 0)) ∙ sym (zero_add R laws n p))

  -- a negative integer is the negative of its opposite
  pub int_neg : (n : ℤ) → R.of_int (neg_ℤ n) ≡ R.neg (R.of_int n)
  int_neg n =
      let laws = ring.laws in
      let elem = ring.integers.int_elem in
      let cancels : n +ℤ neg_ℤ n ≡ pos 0 = omega (arith, ints) in
      neg_only R laws (R.of_int n) (R.of_int (neg_ℤ n)) (elem n) (elem (neg_ℤ n)) (sym (ring.integers.int_add n (neg_ℤ n)) ∙ ap R.of_int cancels ∙ int_zero)
