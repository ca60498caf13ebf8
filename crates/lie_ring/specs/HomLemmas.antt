-- What a homomorphism keeps besides, and the homomorphism from the integers.
-- For proofs: no public clause cites it.
use Rattle.std.proofs.Common.{◌≡◌, ℕ, zero, suc, ◌<◌, sym, ap, ap₂, ◌∙◌, arith}
use Rattle.std.proofs.lemmas.Int.{ints}
use Rattle.std.specs.Prelude.{ℤ, pos, negsuc, ◌+ℤ◌, IsTrue}
use Rattle.lie_ring.specs.Rings.{RingOn, IsElem, Fits, IsRing, IsHom, sum_below}
use Rattle.lie_ring.specs.Integers.{integers}
use Rattle.lie_ring.specs.RingLemmas.{add_cancel, int_zero}
use Rattle.lie_ring.specs.SumLemmas.{sum-elem}

-- an element of a roomy ring fits
pub roomy-fits : {A : Type 0} (R : RingOn A) → IsRing R → IsTrue R.roomy → (a : A) → IsElem R a → Fits R a
roomy-fits R ring roomy a p = let none = ring.sized.roomy_size roomy a p in (p, omega (arith, none))

-- `of_int` of a ring is a homomorphism from the integers
pub of_int_is_hom : {A : Type 0} (R : RingOn A) → IsRing R → IsHom integers R R.of_int
of_int_is_hom R ring = record {
  elem = λ n _. ring.integers.int_elem n;
  zero = int_zero R ring;
  one = ring.integers.int_one;
  add = λ m n _ _. ring.integers.int_add m n;
  mul = λ m n _ _. ring.integers.int_mul m n;
}

module _ {A B : Type 0} (R : RingOn A) (S : RingOn B) (h : A → B) (ring : IsRing R) (target : IsRing S) (hom : IsHom R S h) where
  -- the image of a negative is the negative of the image
  pub hom_neg : (a : A) → IsElem R a → h (R.neg a) ≡ S.neg (h a)
  hom_neg a p =
      let n = ring.laws.neg_elem a p in
      let m = target.laws.neg_elem (h a) (hom.elem a p) in
      let left : S.add (h (R.neg a)) (h a) ≡ S.zero = sym (hom.add (R.neg a) a n p) ∙ ap h (ring.laws.add_comm (R.neg a) a n p ∙ ring.laws.add_neg a p) ∙ hom.zero in
      let right : S.add (S.neg (h a)) (h a) ≡ S.zero = target.laws.add_comm (S.neg (h a)) (h a) m (hom.elem a p) ∙ target.laws.add_neg (h a) (hom.elem a p) in
      add_cancel S target.laws (h (R.neg a)) (S.neg (h a)) (h a) (hom.elem (R.neg a) n) m (hom.elem a p) (left ∙ sym right)

  -- the image of a natural number is that number
  hom_pos : (n : ℕ) → h (R.of_int (pos n)) ≡ S.of_int (pos n)
  hom_pos zero = ap h (int_zero R ring) ∙ hom.zero ∙ sym (int_zero S target)
  hom_pos (suc n) =
      let one_more : pos n +ℤ pos 1 ≡ pos (suc n) = omega (arith, ints) in
      ap (λ k. h (R.of_int k)) (sym one_more)
      ∙ ap h (ring.integers.int_add (pos n) (pos 1)) ∙ hom.add (R.of_int (pos n)) (R.of_int (pos 1)) (ring.integers.int_elem (pos n)) (ring.integers.int_elem (pos 1))
      ∙ ap₂ S.add (hom_pos n) (ap h ring.integers.int_one ∙ hom.one ∙ sym target.integers.int_one)
      ∙ sym (target.integers.int_add (pos n) (pos 1)) ∙ ap S.of_int one_more

  -- the image of an integer is the integer
  pub hom_int : (n : ℤ) → h (R.of_int n) ≡ S.of_int n
  hom_int (pos n) = hom_pos n
  hom_int (negsuc n) =
      let p = ring.integers.int_elem in
      let q = target.integers.int_elem in
      let none : negsuc n +ℤ pos (suc n) ≡ pos 0 = omega (arith, ints) in
      let left : S.add (h (R.of_int (negsuc n))) (h (R.of_int (pos (suc n)))) ≡ h (R.of_int (pos 0)) = sym (hom.add (R.of_int (negsuc n)) (R.of_int (pos (suc n))) (p (negsuc n)) (p (pos (suc n)))) ∙ ap h (sym (ring.integers.int_add (negsuc n) (pos (suc n))) ∙ ap R.of_int none) in
      let right : S.add (S.of_int (negsuc n)) (S.of_int (pos (suc n))) ≡ S.of_int (pos 0) = sym (target.integers.int_add (negsuc n) (pos (suc n))) ∙ ap S.of_int none in
      add_cancel S target.laws (h (R.of_int (negsuc n))) (S.of_int (negsuc n)) (S.of_int (pos (suc n))) (hom.elem (R.of_int (negsuc n)) (p (negsuc n))) (q (negsuc n)) (q (pos (suc n)))
      (ap (S.add (h (R.of_int (negsuc n)))) (sym (hom_pos (suc n))) ∙ left ∙ hom_pos 0 ∙ sym right)

-- the image of a sum is the sum of the images
pub hom-sum : {A B : Type 0} (R : RingOn A) (S : RingOn B) (h : A → B) → IsRing R → IsHom R S h → (n : ℕ) (f : ℕ → A) → ((k : ℕ) → k < n → IsElem R (f k)) → h (sum_below R n f) ≡ sum_below S n (λ k. h (f k))
hom-sum R S h ring hom zero f p = hom.zero
hom-sum R S h ring hom (suc n) f p =
    hom.add (sum_below R n f) (f n) (sum-elem R ring.laws n f (λ k q. p k (omega arith))) (p n (omega arith))
    ∙ ap (λ s. S.add s (h (f n))) (hom-sum R S h ring hom n f (λ k q. p k (omega arith)))
