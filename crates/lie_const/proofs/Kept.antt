-- Numbers of the code that are far from the ends of their type.
use Rattle.std.proofs.Common.{◌≡◌, ℕ, zero, suc, ◌*◌, ◌<◌, ◌≤◌, ℤ, pos, negsuc, neg_ℤ, ◌+ℤ◌, ◌*ℤ◌, ◌≤ℤ◌, ◌<ℤ◌, lit<, [], ◌∷◌, refl, sym, ap, subst, ◌∙◌, arith, unsigned_abs, ◌^◌}
use Rattle.std.proofs.Math.IntN.{zero-*ℤ}
use Rattle.lie_base.proofs.RingSolver.{ring, var, neg, ◌⊕◌, ◌⊗◌}
use Rattle.std.proofs.lemmas.Int.{ints, to_z-of_z, quot-rem, rem_below, unsigned_abs-mul}
use Rattle.std.specs.Int.RustNames.{FitsSigned, int_div, int_rem}
use mir.Val.{to_z, of_z}
use mir.Syntax.{w128}
use Rattle.lie_datum.proofs.VectorLemmas.{abs_add, abs_mul, plain, fits}

-- what the code keeps of a product
module _ (x y : ℤ) (m n : ℕ) (p : unsigned_abs x ≤ m) (q : unsigned_abs y ≤ n) (u : m < 2 ^ 127) (v : n < 2 ^ 127) (w : m * n < 2 ^ 127) where
  pub factors_kept : to_z w128 (of_z w128 x) *ℤ to_z w128 (of_z w128 y) ≡ x *ℤ y
  factors_kept = ap (λ t. t *ℤ to_z w128 (of_z w128 y)) (plain x m p u) ∙ ap (λ t. x *ℤ t) (plain y n q v)

  pub product_fits : FitsSigned w128 (to_z w128 (of_z w128 x) *ℤ to_z w128 (of_z w128 y))
  product_fits = subst (FitsSigned w128) (sym factors_kept) (fits (x *ℤ y) (m * n) (abs_mul x y m n p q) w)

  pub product_kept : to_z w128 (of_z w128 (to_z w128 (of_z w128 x) *ℤ to_z w128 (of_z w128 y))) ≡ x *ℤ y
  product_kept = ap (λ t. to_z w128 (of_z w128 t)) factors_kept ∙ plain (x *ℤ y) (m * n) (abs_mul x y m n p q) w

-- numbers that fit and have the same bits are equal
pub same_bits : (x y : ℤ) → FitsSigned w128 x → FitsSigned w128 y → of_z w128 x ≡ of_z w128 y → x ≡ y
same_bits x y f g e = sym (to_z-of_z w128 x f) ∙ ap (to_z w128) e ∙ to_z-of_z w128 y g

-- ---- quotients
small_factor : (z b : ℤ) → unsigned_abs (z *ℤ b) < unsigned_abs b → z ≡ pos 0
small_factor z b l = by z (let e = unsigned_abs-mul z b in omega (arith, e, l))
  where
    by : (z : ℤ) → unsigned_abs z * unsigned_abs b < unsigned_abs b → z ≡ pos 0
    by (pos zero) l = refl
    by (pos (suc n)) l = absurd (omega (arith, l))
    by (negsuc n) l = absurd (omega (arith, l))

-- a multiple leaves no rest
no_rest : (a b c : ℤ) → pos 0 <ℤ b → c *ℤ b ≡ a → int_rem a b ≡ pos 0
no_rest a b c p e =
    let q = int_div a b in
    let f = quot-rem a b in
    let g = ring (c ∷ (q ∷ (b ∷ []))) ((var 0 ⊕ neg (var 1)) ⊗ var 2) (var 0 ⊗ var 2 ⊕ neg (var 1 ⊗ var 2)) refl in
    let h : (c +ℤ neg_ℤ q) *ℤ b ≡ int_rem a b = omega (arith, ints, g, e, f) in
    let z = small_factor (c +ℤ neg_ℤ q) b (rw h (rem_below a b (some b p))) in
    sym h ∙ ap (λ t. t *ℤ b) z ∙ zero-*ℤ b
  where
    some : (b : ℤ) → pos 0 <ℤ b → 0 < unsigned_abs b
    some (pos n) l = omega (arith, ints, l)
    some (negsuc n) l = absurd (omega (arith, ints, l))

pub not_whole : (a b : ℤ) → FitsSigned w128 a → FitsSigned w128 b → pos 0 <ℤ b → (of_z w128 (int_rem (to_z w128 (of_z w128 a)) (to_z w128 (of_z w128 b))) ≡ 0 → ⊥) → (c : ℤ) → c *ℤ b ≡ a → ⊥
not_whole a b f g p h c e = h (ap (of_z w128) (ap (λ t. int_rem t (to_z w128 (of_z w128 b))) (to_z-of_z w128 a f) ∙ ap (int_rem a) (to_z-of_z w128 b g) ∙ no_rest a b c p e))

-- a norm
pub norm_bound : (z : ℤ) → pos 0 <ℤ z → z ≤ℤ pos 2160 → unsigned_abs z ≤ 2160
norm_bound (pos n) p q = omega (arith, ints, q)
norm_bound (negsuc n) p q = absurd (omega (arith, ints, p))

pub norm_kept : (z : ℤ) → pos 0 <ℤ z → z ≤ℤ pos 2160 → to_z w128 (of_z w128 z) ≡ z
norm_kept z p q = plain z 2160 (norm_bound z p q) (lit< tt)

-- ---- what the code keeps of the numbers of an equation
pub three_kept : (x y z x' y' z' v : ℤ) → unsigned_abs x ≤ 2160 → unsigned_abs y ≤ 2160 → unsigned_abs z ≤ 2160 →
    v ≡ to_z w128 (of_z w128 x) *ℤ to_z w128 (of_z w128 y) *ℤ to_z w128 (of_z w128 z) → x ≡ x' → y ≡ y' → z ≡ z' → v ≡ x' *ℤ y' *ℤ z'
three_kept x y z x' y' z' v p q r e f g h =
    e ∙ ap (λ t. t *ℤ to_z w128 (of_z w128 y) *ℤ to_z w128 (of_z w128 z)) (plain x 2160 p (lit< tt) ∙ f)
    ∙ ap (λ t. x' *ℤ t *ℤ to_z w128 (of_z w128 z)) (plain y 2160 q (lit< tt) ∙ g) ∙ ap (λ t. x' *ℤ y' *ℤ t) (plain z 2160 r (lit< tt) ∙ h)

-- l (a + b)
module _ (l a b : ℤ) (p : unsigned_abs l ≤ 2160) (q : unsigned_abs a ≤ 2 ^ 40) (r : unsigned_abs b ≤ 2 ^ 40) where
  sum_plain : to_z w128 (of_z w128 a) +ℤ to_z w128 (of_z w128 b) ≡ a +ℤ b
  sum_plain = ap (λ t. t +ℤ to_z w128 (of_z w128 b)) (plain a (2 ^ 40) q (lit< tt)) ∙ ap (λ t. a +ℤ t) (plain b (2 ^ 40) r (lit< tt))

  sum_bound : unsigned_abs (a +ℤ b) ≤ 2 ^ 41
  sum_bound = let h = abs_add a b in omega (arith, h, q, r)

  pub sum_fits : FitsSigned w128 (to_z w128 (of_z w128 a) +ℤ to_z w128 (of_z w128 b))
  sum_fits = subst (FitsSigned w128) (sym sum_plain) (fits (a +ℤ b) (2 ^ 41) sum_bound (lit< tt))

  sum_bits : of_z w128 (to_z w128 (of_z w128 a) +ℤ to_z w128 (of_z w128 b)) ≡ of_z w128 (a +ℤ b)
  sum_bits = ap (of_z w128) sum_plain

  pub scaled_fits : FitsSigned w128 (to_z w128 (of_z w128 l) *ℤ to_z w128 (of_z w128 (to_z w128 (of_z w128 a) +ℤ to_z w128 (of_z w128 b))))
  scaled_fits = subst (λ t. FitsSigned w128 (to_z w128 (of_z w128 l) *ℤ to_z w128 t)) (sym sum_bits) (product_fits l (a +ℤ b) 2160 (2 ^ 41) p sum_bound (lit< tt) (lit< tt) (lit< tt))

  pub scaled_kept : to_z w128 (of_z w128 (to_z w128 (of_z w128 l) *ℤ to_z w128 (of_z w128 (to_z w128 (of_z w128 a) +ℤ to_z w128 (of_z w128 b))))) ≡ l *ℤ (a +ℤ b)
  scaled_kept = ap (λ t. to_z w128 (of_z w128 (to_z w128 (of_z w128 l) *ℤ to_z w128 t))) sum_bits ∙ product_kept l (a +ℤ b) 2160 (2 ^ 41) p sum_bound (lit< tt) (lit< tt) (lit< tt)

-- a product with a factor that is kept already
module _ (x y : ℤ) (m n : ℕ) (p : unsigned_abs x ≤ m) (q : unsigned_abs y ≤ n) (v : n < 2 ^ 127) (w : m * n < 2 ^ 127) where
  right_plain : x *ℤ to_z w128 (of_z w128 y) ≡ x *ℤ y
  right_plain = ap (λ t. x *ℤ t) (plain y n q v)

  pub right_fits : FitsSigned w128 (x *ℤ to_z w128 (of_z w128 y))
  right_fits = subst (FitsSigned w128) (sym right_plain) (fits (x *ℤ y) (m * n) (abs_mul x y m n p q) w)

  pub right_kept : to_z w128 (of_z w128 (x *ℤ to_z w128 (of_z w128 y))) ≡ x *ℤ y
  right_kept = ap (λ t. to_z w128 (of_z w128 t)) right_plain ∙ plain (x *ℤ y) (m * n) (abs_mul x y m n p q) w

-- bounds of what is kept
pub kept_bounds : (a b : ℤ) (n : ℕ) → unsigned_abs a ≤ n → n ≤ 2 ^ 40 → (1 ≤ unsigned_abs b) × (unsigned_abs b ≤ 6) →
    (unsigned_abs (to_z w128 (of_z w128 a)) ≤ 2 ^ 40) × (1 ≤ unsigned_abs (to_z w128 (of_z w128 b))) × (unsigned_abs (to_z w128 (of_z w128 b)) ≤ 6)
kept_bounds a b n p q h =
    let e = plain a (2 ^ 40) (omega (arith, p, q)) (lit< tt) in
    let f = plain b 6 h.1 (lit< tt) in
    (subst (λ t. unsigned_abs t ≤ 2 ^ 40) (sym e) (omega (arith, p, q)), subst (λ t. 1 ≤ unsigned_abs t) (sym f) h.0, subst (λ t. unsigned_abs t ≤ 6) (sym f) h.1)
