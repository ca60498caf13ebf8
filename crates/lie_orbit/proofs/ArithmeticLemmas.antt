-- The numbers of the code that are far from the ends of their type.
use Rattle.std.proofs.Common.{◌≡◌, ℕ, ◌+◌, ◌*◌, ◌<◌, ◌≤◌, ◌^◌, ℤ, ◌/◌, pos, negsuc, neg_ℤ, ◌+ℤ◌, ◌-ℤ◌, ◌*ℤ◌, ◌≤ℤ◌, [], ◌∷◌, refl, sym, ap, subst, ◌∙◌, arith, lit<, unsigned_abs, FitsSigned}
use Rattle.std.proofs.lemmas.Int.{ints, to_z-of_z}
use lib.Signed.{quot_z}
use mir.Val.{to_z, of_z}
use mir.Syntax.{w128}
use Rattle.lie_base.proofs.RingSolver.{ring, var, neg, ◌⊗◌}
use Rattle.lie_orbit.specs.Lowering.{IsHalf}
use Rattle.lie_datum.proofs.VectorLemmas.{abs_add, abs_mul, abs_neg, fits, plain, product_code}

module _ (a b : ℤ) (m n : ℕ) (p : unsigned_abs a ≤ m) (q : unsigned_abs b ≤ n) (m_fits : m < 2 ^ 127) (n_fits : n < 2 ^ 127) (both : m * n < 2 ^ 127) where
  product_plain : to_z w128 (of_z w128 a) *ℤ to_z w128 (of_z w128 b) ≡ a *ℤ b
  product_plain = ap (λ t. t *ℤ to_z w128 (of_z w128 b)) (plain a m p m_fits) ∙ ap (λ t. a *ℤ t) (plain b n q n_fits)

  pub product_fits : FitsSigned w128 (to_z w128 (of_z w128 a) *ℤ to_z w128 (of_z w128 b))
  product_fits = subst (FitsSigned w128) (sym product_plain) (fits (a *ℤ b) (m * n) (abs_mul a b m n p q) both)

  pub product_is : product_code a b ≡ a *ℤ b
  product_is = ap (λ t. to_z w128 (of_z w128 t)) product_plain ∙ plain (a *ℤ b) (m * n) (abs_mul a b m n p q) both

-- the step of a pairing
module _ (a b s : ℤ) (p : unsigned_abs a ≤ 25 * 10 ^ 31) (q : unsigned_abs b ≤ 80000) where
  pub factors_fit : FitsSigned w128 (to_z w128 (of_z w128 a) *ℤ to_z w128 (of_z w128 b))
  factors_fit = product_fits a b (25 * 10 ^ 31) 80000 p q (lit< tt) (lit< tt) (lit< tt)

  factors_are : product_code a b ≡ a *ℤ b
  factors_are = product_is a b (25 * 10 ^ 31) 80000 p q (lit< tt) (lit< tt) (lit< tt)

  pub step_bound : unsigned_abs (s +ℤ a *ℤ b) ≤ unsigned_abs s + 2 * 10 ^ 37
  step_bound = let k = abs_add s (a *ℤ b) in let h = abs_mul a b (25 * 10 ^ 31) 80000 p q in omega (arith, k, h)

  module _ (r : unsigned_abs s ≤ 14 * 10 ^ 37) where
    pub step_fits : FitsSigned w128 (s +ℤ product_code a b)
    step_fits = subst (λ t. FitsSigned w128 (s +ℤ t)) (sym factors_are) (fits (s +ℤ a *ℤ b) (16 * 10 ^ 37) (let k = step_bound in omega (arith, k, r)) (lit< tt))

    pub step_is : to_z w128 (of_z w128 (s +ℤ product_code a b)) ≡ s +ℤ a *ℤ b
    step_is = to_z-of_z w128 (s +ℤ product_code a b) step_fits ∙ ap (λ t. s +ℤ t) factors_are

-- the entry of a weight that a multiple of a root is taken from
less_product : (a n b : ℤ) → a -ℤ n *ℤ b ≡ a +ℤ neg_ℤ n *ℤ b
less_product a n b = let e = ring (n ∷ (b ∷ [])) (neg (var 0) ⊗ var 1) (neg (var 0 ⊗ var 1)) refl in omega (arith, ints, e)

abs_less : (a b : ℤ) → unsigned_abs (a -ℤ b) ≤ unsigned_abs a + unsigned_abs b
abs_less a b = let h = abs_add a (neg_ℤ b) in let e = abs_neg b in omega (arith, ints, h, e)

module _ (t a n b : ℤ) (e : t ≡ a) (p : unsigned_abs a ≤ 25 * 10 ^ 31) (q : unsigned_abs n ≤ 10 ^ 32) (r : unsigned_abs b ≤ 80000) where
  pub turn_factors_fit : FitsSigned w128 (to_z w128 (of_z w128 n) *ℤ to_z w128 (of_z w128 b))
  turn_factors_fit = product_fits n b (10 ^ 32) 80000 q r (lit< tt) (lit< tt) (lit< tt)

  inner : to_z w128 (of_z w128 t) -ℤ product_code n b ≡ a -ℤ n *ℤ b
  inner = ap (λ u. to_z w128 (of_z w128 u) -ℤ product_code n b) e ∙ ap (λ u. u -ℤ product_code n b) (plain a (25 * 10 ^ 31) p (lit< tt)) ∙ ap (λ u. a -ℤ u) (product_is n b (10 ^ 32) 80000 q r (lit< tt) (lit< tt) (lit< tt))

  bound : unsigned_abs (a -ℤ n *ℤ b) ≤ 9 * 10 ^ 36
  bound = let k = abs_less a (n *ℤ b) in let h = abs_mul n b (10 ^ 32) 80000 q r in omega (arith, k, h, p)

  pub turn_fits : FitsSigned w128 (to_z w128 (of_z w128 t) -ℤ product_code n b)
  turn_fits = subst (FitsSigned w128) (sym inner) (fits (a -ℤ n *ℤ b) (9 * 10 ^ 36) bound (lit< tt))

  pub turn_is : to_z w128 (of_z w128 (to_z w128 (of_z w128 t) -ℤ product_code n b)) ≡ a +ℤ neg_ℤ n *ℤ b
  turn_is = ap (λ u. to_z w128 (of_z w128 u)) inner ∙ plain (a -ℤ n *ℤ b) (9 * 10 ^ 36) bound (lit< tt) ∙ less_product a n b

-- half of a pairing
abbrev half_code : ℤ → ℤ
half_code m = to_z w128 (of_z w128 (quot_z (to_z w128 (of_z w128 m)) (pos 2)))

pub half_of : (m : ℤ) → pos 2 ≤ℤ m → m ≤ℤ pos (10 ^ 32) → (c : ℤ) × (half_code m ≡ c) × IsHalf m c × (unsigned_abs c ≤ 10 ^ 32)
half_of (negsuc n) p q = absurd (omega (arith, ints, p))
half_of (pos n) p q =
    let few : n ≤ 10 ^ 32 = omega (arith, ints, q) in
    let low : n / 2 ≤ 10 ^ 32 = omega (arith, few) in
    let inner = plain (pos n) (10 ^ 32) few (lit< tt) in
    (pos (n / 2), ap (λ t. to_z w128 (of_z w128 (quot_z t (pos 2)))) inner ∙ plain (pos (n / 2)) (10 ^ 32) low (lit< tt), (omega (arith, ints), omega (arith, ints)), low)
