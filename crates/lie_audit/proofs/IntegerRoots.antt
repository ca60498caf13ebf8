-- On an audited module opposite root elements cancel over the integers, so N_i^-1 N_i = 1 there: S1 at t = -1, u = 1 and at t = 1, u = -1.
use Rattle.std.proofs.Common.{◌≡◌, ℕ, zero, suc, ℤ, pos, negsuc, neg_ℤ, ◌+ℤ◌, ◌*ℤ◌, refl, sym, ap, ap₂, ◌∙◌, arith}
use Rattle.std.proofs.lemmas.Int.{ints}
use Rattle.lie_ring.specs.RingLemmas.{mul_neg}
use Rattle.lie_ring.specs.Integers.{integers}
use Rattle.lie_ring.specs.IntegerLaws.{integers_ring}
use Rattle.lie_ring.specs.Matrices.{Matrix, identity, product, product_entry, AllElem}
use Rattle.lie_ring.specs.MatrixLemmas.{table-shaped}
use Rattle.lie_ring.specs.MatrixLaws.{product-assoc, one-product, product-one}
use Rattle.lie_poly.specs.Terms.{Exponents}
use Rattle.lie_poly.specs.Polynomials.{Polynomial, monomial}
use Rattle.lie_poly.specs.LaurentLaws.{laurent_ring, total, over_monomial}
use Rattle.lie_poly.specs.EvaluationLaws.{IsMonomial, total-hom}
use Rattle.lie_datum.specs.RootList.{RootDatum, IsNumber}
use Rattle.lie_const.specs.ConstantTables.{ConstantTable}
use Rattle.lie_const.specs.Modules.{Module, dimension, root_element, root_element_entry, weyl_element, weyl_inverse}
use Rattle.lie_const.specs.Signs.{Signs}
use Rattle.lie_identities.specs.declared.relations.Rel.TheVariants.{S1}
use Rattle.lie_identities.specs.Audit.{laurent_variables, MeetsIdentities, IsMet}
use Rattle.lie_identities.proofs.FactorLemmas.{polynomials}
use Rattle.lie_identities.proofs.SideImages.{relation_image}
use Rattle.lie_audit.proofs.ListedRelations.{listed-S1}
use Rattle.lie_audit.proofs.ZeroValues.{root_element-zero}

-- ---- powers of -1
-- (-1)^n
abbrev alternating : ℕ → ℤ
alternating zero = pos 1
alternating (suc n) = neg_ℤ (alternating n)

-- (-1)^i
abbrev sign_power : ℤ → ℤ
sign_power (pos n) = alternating n
sign_power (negsuc n) = alternating (suc n)

-- -(-a) = a
neg-twice : (a : ℤ) → neg_ℤ (neg_ℤ a) ≡ a
neg-twice a = omega (arith, ints)

-- one exponent further, and one before
sign-next : (i : ℤ) → sign_power (i +ℤ pos 1) ≡ neg_ℤ (sign_power i)
sign-next (pos n) = ap sign_power (let e : pos n +ℤ pos 1 ≡ pos (suc n) = omega (arith, ints) in e)
sign-next (negsuc zero) = refl
sign-next (negsuc (suc n)) =
    ap sign_power (let e : negsuc (suc n) +ℤ pos 1 ≡ negsuc n = omega (arith, ints) in e) ∙ sym (neg-twice (alternating (suc n)))

sign-before : (i : ℤ) → sign_power (i +ℤ negsuc 0) ≡ neg_ℤ (sign_power i)
sign-before i =
    let back : (i +ℤ negsuc 0) +ℤ pos 1 ≡ i = omega (arith, ints) in
    sym (neg-twice (sign_power (i +ℤ negsuc 0))) ∙ ap neg_ℤ (sym (sign-next (i +ℤ negsuc 0)) ∙ ap sign_power back)

-- (-1)^(i + j) = (-1)^i (-1)^j
sign-sum : (i j : ℤ) → sign_power (i +ℤ j) ≡ sign_power i *ℤ sign_power j
sign-sum i (pos zero) = ap sign_power (let e : i +ℤ pos 0 ≡ i = omega (arith, ints) in e) ∙ sym (integers_ring.laws.mul_one (sign_power i) refl)
sign-sum i (pos (suc n)) =
    ap sign_power (let e : i +ℤ pos (suc n) ≡ (i +ℤ pos n) +ℤ pos 1 = omega (arith, ints) in e)
    ∙ sign-next (i +ℤ pos n) ∙ ap neg_ℤ (sign-sum i (pos n)) ∙ sym (mul_neg integers integers_ring.laws (sign_power i) (alternating n) refl refl)
sign-sum i (negsuc zero) =
    sign-before i ∙ ap neg_ℤ (sym (integers_ring.laws.mul_one (sign_power i) refl)) ∙ sym (mul_neg integers integers_ring.laws (sign_power i) (pos 1) refl refl)
sign-sum i (negsuc (suc n)) =
    ap sign_power (let e : i +ℤ negsuc (suc n) ≡ (i +ℤ negsuc n) +ℤ negsuc 0 = omega (arith, ints) in e)
    ∙ sign-before (i +ℤ negsuc n) ∙ ap neg_ℤ (sign-sum i (negsuc n)) ∙ sym (mul_neg integers integers_ring.laws (sign_power i) (alternating (suc n)) refl refl)

-- ---- S1 at signs
all_elem : (M : Matrix ℤ) → AllElem integers M
all_elem M a b _ _ = refl

-- 1 x + 0 = x
once : (x : ℤ) → (pos 1 *ℤ x) +ℤ pos 0 ≡ x
once x = omega (arith, ints)

module _ (d : RootDatum) (c : ConstantTable) (eta : Signs) (v : Module) (meets : MeetsIdentities d c eta v) where
  -- X_r(a) over the integers
  X : ℤ → ℤ → Matrix ℤ
  X r a = root_element integers v r a

  -- X_r(a) X_r(b) = 1, where a and b are the values of t and u under a power of -1, and a + b = 0
  cancels : (sign : Exponents → ℤ) → IsMonomial integers sign → (r : ℤ) → IsNumber d r → (a b : ℤ) → sign (pos 1, pos 0) ≡ a → sign (pos 0, pos 1) ≡ b → a +ℤ b ≡ pos 0
      → product integers (X r a) (X r b) ≡ identity integers (dimension v)
  unfolding X root_element
  cancels sign mono r number a b is_a is_b none =
      let n = dimension v in
      let at = λ (p : Polynomial). total sign p.terms in
      let t = at (monomial (pos 1) (pos 1) (pos 0)) in
      let u = at (monomial (pos 1) (pos 0) (pos 1)) in
      let t_is : t ≡ a = over_monomial sign (pos 1) (pos 1) (pos 0) ∙ once (sign (pos 1, pos 0)) ∙ is_a in
      let u_is : u ≡ b = over_monomial sign (pos 1) (pos 0) (pos 1) ∙ once (sign (pos 0, pos 1)) ∙ is_b in
      let shaped = λ (x : ℤ). table-shaped (pos 0) n n (root_element_entry integers v r x) in
      ap₂ (λ x y. product integers (root_element integers v r x) (root_element integers v r y)) (sym t_is) (sym u_is)
      ∙ ap (product integers (root_element integers v r t)) (sym (product-one integers integers_ring (root_element integers v r u) (shaped u) (all_elem (root_element integers v r u))))
      ∙ relation_image laurent_variables integers at d c eta v (S1 r) laurent_ring integers_ring (total-hom integers sign integers_ring mono) polynomials
      (listed-S1 d (IsMet d c eta v) meets.relations r number).identity
      ∙ product-one integers integers_ring (root_element integers v r (t +ℤ u)) (shaped (t +ℤ u)) (all_elem (root_element integers v r (t +ℤ u)))
      ∙ ap (root_element integers v r) (ap₂ ◌+ℤ◌ t_is u_is ∙ none)
      ∙ root_element-zero integers integers_ring v r

  -- X_r(-1) X_r(1) = 1
  minus_first : (r : ℤ) → IsNumber d r → product integers (X r (negsuc 0)) (X r (pos 1)) ≡ identity integers (dimension v)
  minus_first r number = cancels (λ e. sign_power e.0) (record { elem = λ _. refl; one = refl; mul = λ x y. sign-sum x.0 y.0 }) r number (negsuc 0) (pos 1) refl refl refl

  -- X_r(1) X_r(-1) = 1
  minus_last : (r : ℤ) → IsNumber d r → product integers (X r (pos 1)) (X r (negsuc 0)) ≡ identity integers (dimension v)
  minus_last r number = cancels (λ e. sign_power e.1) (record { elem = λ _. refl; one = refl; mul = λ x y. sign-sum x.1 y.1 }) r number (pos 1) (negsuc 0) refl refl refl

  -- N_i^-1 N_i = 1
  pub weyl-cancels : (i : ℕ) → IsNumber d (pos i) → IsNumber d (neg_ℤ (pos i)) → product integers (weyl_inverse integers v i) (weyl_element integers v i) ≡ identity integers (dimension v)
  unfolding X weyl_inverse weyl_element root_element
  weyl-cancels i up down =
      let n = dimension v in
      let P = root_element integers v (pos i) (negsuc 0) in
      let Q = root_element integers v (neg_ℤ (pos i)) (pos 1) in
      let S = root_element integers v (pos i) (pos 1) in
      let T = root_element integers v (neg_ℤ (pos i)) (negsuc 0) in
      let TS = product integers T S in
      let N = product integers S TS in
      let shaped = λ (f : ℕ → ℕ → ℤ). table-shaped (pos 0) n n f in
      product-assoc integers integers_ring P (product integers Q P) N refl refl (all_elem P) (all_elem (product integers Q P)) (all_elem N)
      ∙ ap (product integers P) (
      product-assoc integers integers_ring Q P N refl refl (all_elem Q) (all_elem P) (all_elem N)
      ∙ ap (product integers Q) (
      sym (product-assoc integers integers_ring P S TS refl refl (all_elem P) (all_elem S) (all_elem TS))
      ∙ ap (λ M. product integers M TS) (minus_first (pos i) up)
      ∙ one-product integers integers_ring TS (shaped (product_entry integers T S)) (all_elem TS))
      ∙ sym (product-assoc integers integers_ring Q T S refl refl (all_elem Q) (all_elem T) (all_elem S))
      ∙ ap (λ M. product integers M S) (minus_last (neg_ℤ (pos i)) down)
      ∙ one-product integers integers_ring S (shaped (root_element_entry integers v (pos i) (pos 1))) (all_elem S))
      ∙ minus_first (pos i) up
