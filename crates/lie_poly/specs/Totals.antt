-- Sums over terms, in a ring.
-- For proofs: no public clause cites it.
use Rattle.std.proofs.Common.{◌≡◌, [], ◌∷◌, ◌++◌, refl, sym, ap, ap₂, ◌∙◌, cond, Less, Equal, Greater}
use Rattle.std.specs.Prelude.{pos, ◌+ℤ◌, true, false}
use Rattle.std.specs.Ordering.{int_eq, match_ordering}
use Rattle.lie_poly.specs.Canonical.{exact_exponents, zero_is}
use Rattle.lie_ring.specs.Rings.{RingOn, IsElem, IsRing}
use Rattle.lie_ring.specs.RingLemmas.{zero_add, zero_mul, mul_zero, add_mul, add_middle, add_swap, int_zero}
use Rattle.lie_poly.specs.Terms.{Exponents, Term, Terms, term, exponents_cmp, shift, keep, plus_term, collect, times, products, total_over}

module _ {A : Type 0} (R : RingOn A) (ring : IsRing R) (f : Exponents → A) (elem : (e : Exponents) → IsElem R (f e)) where
  -- the value of a term is an element
  one_elem : (x : Term) → IsElem R (R.mul (R.of_int x.coefficient) (f x.exponents))
  one_elem x = ring.laws.mul_elem (R.of_int x.coefficient) (f x.exponents) (ring.integers.int_elem x.coefficient) (elem x.exponents)

  -- a sum is an element
  pub total-elem : (xs : Terms) → IsElem R (total_over R f xs)
  total-elem [] = ring.laws.zero_elem
  total-elem (x ∷ xs) = ring.laws.add_elem (R.mul (R.of_int x.coefficient) (f x.exponents)) (total_over R f xs) (one_elem x) (total-elem xs)

  -- the sum over two lists
  pub total-append : (xs ys : Terms) → total_over R f (xs ++ ys) ≡ R.add (total_over R f xs) (total_over R f ys)
  total-append [] ys = sym (zero_add R ring.laws (total_over R f ys) (total-elem ys))
  total-append (x ∷ xs) ys =
      ap (R.add (R.mul (R.of_int x.coefficient) (f x.exponents))) (total-append xs ys)
      ∙ sym (ring.laws.add_assoc (R.mul (R.of_int x.coefficient) (f x.exponents)) (total_over R f xs) (total_over R f ys) (one_elem x) (total-elem xs) (total-elem ys))

  -- the sum where a term is kept
  total-keep : (x : Term) (xs : Terms) → total_over R f (keep x xs) ≡ R.add (R.mul (R.of_int x.coefficient) (f x.exponents)) (total_over R f xs)
  total-keep x xs = elim (int_eq x.coefficient (pos 0)) as (λ b. int_eq x.coefficient (pos 0) ≡ b → total_over R f (cond b xs (x ∷ xs)) ≡ R.add (R.mul (R.of_int x.coefficient) (f x.exponents)) (total_over R f xs)) [
    | true ↦ λ is. sym (ap (λ z. R.add (R.mul z (f x.exponents)) (total_over R f xs)) (ap R.of_int (zero_is x.coefficient is) ∙ int_zero R ring)
        ∙ ap (λ z. R.add z (total_over R f xs)) (zero_mul R ring.laws (f x.exponents) (elem x.exponents))
        ∙ zero_add R ring.laws (total_over R f xs) (total-elem xs))
    | false ↦ λ _. refl
  ] refl

  -- the sum where a term is added
  pub total-plus_term : (x : Term) (ys : Terms) → total_over R f (plus_term x ys) ≡ R.add (R.mul (R.of_int x.coefficient) (f x.exponents)) (total_over R f ys)
  total-plus_term x [] = total-keep x []
  total-plus_term x (y ∷ ys) =
      let c = R.of_int x.coefficient in
      let d = R.of_int y.coefficient in
      let rest = total_over R f ys in
      elim (exponents_cmp x.exponents y.exponents) as (λ o. exponents_cmp x.exponents y.exponents ≡ o → total_over R f (match_ordering o (keep x (y ∷ ys)) (keep (term y.exponents (x.coefficient +ℤ y.coefficient)) ys) (y ∷ plus_term x ys)) ≡ R.add (R.mul c (f x.exponents)) (total_over R f (y ∷ ys))) [
        | Less ↦ λ _. total-keep x (y ∷ ys)
        | Equal ↦ λ is.
            let here = ap f (exact_exponents x.exponents y.exponents is) in
            total-keep (term y.exponents (x.coefficient +ℤ y.coefficient)) ys
            ∙ ap (λ z. R.add (R.mul z (f y.exponents)) rest) (ring.integers.int_add x.coefficient y.coefficient)
            ∙ ap (λ z. R.add z rest) (add_mul R ring.laws c d (f y.exponents) (ring.integers.int_elem x.coefficient) (ring.integers.int_elem y.coefficient) (elem y.exponents))
            ∙ ring.laws.add_assoc (R.mul c (f y.exponents)) (R.mul d (f y.exponents)) rest (one_elem (term y.exponents x.coefficient)) (one_elem y) (total-elem ys)
            ∙ ap (λ z. R.add (R.mul c z) (R.add (R.mul d (f y.exponents)) rest)) (sym here)
        | Greater ↦ λ _.
            ap (R.add (R.mul d (f y.exponents))) (total-plus_term x ys)
            ∙ add_swap R ring.laws (R.mul d (f y.exponents)) (R.mul c (f x.exponents)) rest (one_elem y) (one_elem x) (total-elem ys)
      ] refl

  -- a list and its canonical list have the same sums
  pub total-collect : (xs : Terms) → total_over R f (collect xs) ≡ total_over R f xs
  total-collect [] = refl
  total-collect (x ∷ xs) = total-plus_term x (collect xs) ∙ ap (R.add (R.mul (R.of_int x.coefficient) (f x.exponents))) (total-collect xs)

module _ {A : Type 0} (R : RingOn A) (ring : IsRing R) where
  -- a factor of each term
  pub total-scale : (c : A) (f : Exponents → A) (xs : Terms) → IsElem R c → ((e : Exponents) → IsElem R (f e)) → total_over R (λ e. R.mul c (f e)) xs ≡ R.mul c (total_over R f xs)
  total-scale c f [] p elem = sym (mul_zero R ring.laws c p)
  total-scale c f (x ∷ xs) p elem =
      let laws = ring.laws in
      let n = R.of_int x.coefficient in
      let q = ring.integers.int_elem x.coefficient in
      let inner = laws.mul_elem n (f x.exponents) q (elem x.exponents) in
      ap₂ R.add
      (sym (laws.mul_assoc n c (f x.exponents) q p (elem x.exponents)) ∙ ap (λ z. R.mul z (f x.exponents)) (laws.mul_comm n c q p) ∙ laws.mul_assoc c n (f x.exponents) p q (elem x.exponents))
      (total-scale c f xs p elem)
      ∙ sym (laws.mul_add c (R.mul n (f x.exponents)) (total_over R f xs) p inner (total-elem R ring f elem xs))

  -- a sum in each term
  pub total-add : (f g : Exponents → A) (xs : Terms) → ((e : Exponents) → IsElem R (f e)) → ((e : Exponents) → IsElem R (g e)) → total_over R (λ e. R.add (f e) (g e)) xs ≡ R.add (total_over R f xs) (total_over R g xs)
  total-add f g [] p q = sym (ring.laws.add_zero R.zero ring.laws.zero_elem)
  total-add f g (x ∷ xs) p q =
      let n = R.of_int x.coefficient in
      let i = ring.integers.int_elem x.coefficient in
      ap₂ R.add (ring.laws.mul_add n (f x.exponents) (g x.exponents) i (p x.exponents) (q x.exponents)) (total-add f g xs p q)
      ∙ add_middle R ring.laws (R.mul n (f x.exponents)) (R.mul n (g x.exponents)) (total_over R f xs) (total_over R g xs) (one_elem R ring f p x) (one_elem R ring g q x) (total-elem R ring f p xs) (total-elem R ring g q xs)

  -- the sum of zeros
  pub total-zero : (xs : Terms) → total_over R (λ _. R.zero) xs ≡ R.zero
  total-zero [] = refl
  total-zero (x ∷ xs) = ap₂ R.add (mul_zero R ring.laws (R.of_int x.coefficient) (ring.integers.int_elem x.coefficient)) (total-zero xs) ∙ ring.laws.add_zero R.zero ring.laws.zero_elem

  -- two sums change places
  pub total-swap : (f : Exponents → Exponents → A) (xs ys : Terms) → ((d e : Exponents) → IsElem R (f d e)) → total_over R (λ d. total_over R (f d) ys) xs ≡ total_over R (λ e. total_over R (λ d. f d e) xs) ys
  total-swap f [] ys p = sym (total-zero ys)
  total-swap f (x ∷ xs) ys p =
      let n = R.of_int x.coefficient in
      let i = ring.integers.int_elem x.coefficient in
      ap₂ R.add (sym (total-scale n (f x.exponents) ys i (p x.exponents))) (total-swap f xs ys p)
      ∙ sym (total-add (λ e. R.mul n (f x.exponents e)) (λ e. total_over R (λ d. f d e) xs) ys (λ e. ring.laws.mul_elem n (f x.exponents e) i (p x.exponents e)) (λ e. total-elem R ring (λ d. f d e) (λ d. p d e) xs))

  -- the sum over multiples
  total-times : (f : Exponents → A) (x : Term) (ys : Terms) → ((e : Exponents) → IsElem R (f e)) → total_over R f (times x ys) ≡ R.mul (R.of_int x.coefficient) (total_over R (λ e. f (shift x.exponents e)) ys)
  total-times f x [] p = sym (mul_zero R ring.laws (R.of_int x.coefficient) (ring.integers.int_elem x.coefficient))
  total-times f x (y ∷ ys) p =
      let laws = ring.laws in
      let n = R.of_int x.coefficient in
      let m = R.of_int y.coefficient in
      let i = ring.integers.int_elem x.coefficient in
      let j = ring.integers.int_elem y.coefficient in
      let v = f (shift x.exponents y.exponents) in
      ap₂ R.add
      (ap (λ z. R.mul z v) (ring.integers.int_mul x.coefficient y.coefficient) ∙ laws.mul_assoc n m v i j (p (shift x.exponents y.exponents)))
      (total-times f x ys p)
      ∙ sym (laws.mul_add n (R.mul m v) (total_over R (λ e. f (shift x.exponents e)) ys) i (laws.mul_elem m v j (p (shift x.exponents y.exponents))) (total-elem R ring (λ e. f (shift x.exponents e)) (λ e. p (shift x.exponents e)) ys))

  -- the sum over the products is the double sum
  pub total-products : (f : Exponents → A) (xs ys : Terms) → ((e : Exponents) → IsElem R (f e)) → total_over R f (products xs ys) ≡ total_over R (λ d. total_over R (λ e. f (shift d e)) ys) xs
  total-products f [] ys p = refl
  total-products f (x ∷ xs) ys p =
      total-append R ring f p (times x ys) (products xs ys)
      ∙ ap₂ R.add (total-times f x ys p) (total-products f xs ys p)
