-- The numbers of the code for a height after a simple reflection are those that are meant.
use Rattle.std.proofs.Common.{◌≡◌, zero, suc, ◌≤◌, ℤ, pos, negsuc, ◌+ℤ◌, ◌-ℤ◌, ◌*ℤ◌, unsigned_abs, sym, ap, subst, ◌∙◌, arith, lit<}
use Rattle.std.proofs.lemmas.Int.{ints, to_z-of_z, fits_signed_from_abs}
use Rattle.std.specs.Int.RustNames.{FitsSigned}
use mir.Val.{to_z, of_z}
use mir.Syntax.{w32, w128}
use Rattle.lie_datum.proofs.VectorLemmas.{abs_add, abs_mul, plain, fits}

abs_less : (f : ℤ) → unsigned_abs f ≤ 800 → unsigned_abs (f -ℤ pos 1) ≤ 801
abs_less (pos zero) p = omega arith
abs_less (pos (suc f)) p = omega (arith, ints, p)
abs_less (negsuc f) p = omega (arith, ints, p)

pub plain_small : (z : ℤ) → unsigned_abs z ≤ 800 → to_z w32 (of_z w32 z) ≡ z
plain_small z p = to_z-of_z w32 z (fits_signed_from_abs w32 z (omega (arith, p)))

module _ (f h t : ℤ) (p : unsigned_abs f ≤ 800) (q : unsigned_abs h ≤ 800) (r : unsigned_abs t ≤ 800) where
  -- what the code puts for f - 1, and for (f - 1) h
  abbrev factor_code : ℤ
  factor_code = to_z w128 (of_z w128 (to_z w128 (of_z w128 f) -ℤ pos 1))

  abbrev product_code : ℤ
  product_code = to_z w128 (of_z w128 (factor_code *ℤ to_z w128 (of_z w128 h)))

  factor_is : factor_code ≡ f -ℤ pos 1
  factor_is = ap (λ z. to_z w128 (of_z w128 (z -ℤ pos 1))) (plain f 800 p (lit< tt)) ∙ plain (f -ℤ pos 1) 801 (abs_less f p) (lit< tt)

  product_bound : unsigned_abs ((f -ℤ pos 1) *ℤ h) ≤ 640800
  product_bound = abs_mul (f -ℤ pos 1) h 801 800 (abs_less f p) q

  product_plain : factor_code *ℤ to_z w128 (of_z w128 h) ≡ (f -ℤ pos 1) *ℤ h
  product_plain = ap (λ z. z *ℤ to_z w128 (of_z w128 h)) factor_is ∙ ap (λ z. (f -ℤ pos 1) *ℤ z) (plain h 800 q (lit< tt))

  pub product_fits : FitsSigned w128 (factor_code *ℤ to_z w128 (of_z w128 h))
  product_fits = subst (FitsSigned w128) (sym product_plain) (fits ((f -ℤ pos 1) *ℤ h) 640800 product_bound (lit< tt))

  product_is : product_code ≡ (f -ℤ pos 1) *ℤ h
  product_is = ap (λ z. to_z w128 (of_z w128 z)) product_plain ∙ plain ((f -ℤ pos 1) *ℤ h) 640800 product_bound (lit< tt)

  sum_plain : to_z w128 (of_z w128 t) +ℤ product_code ≡ t +ℤ (f -ℤ pos 1) *ℤ h
  sum_plain = ap (λ z. z +ℤ product_code) (plain t 800 r (lit< tt)) ∙ ap (λ z. t +ℤ z) product_is

  sum_bound : unsigned_abs (t +ℤ (f -ℤ pos 1) *ℤ h) ≤ 641600
  sum_bound = let a = abs_add t ((f -ℤ pos 1) *ℤ h) in let b = product_bound in omega (arith, a, b, r)

  pub sum_fits : FitsSigned w128 (to_z w128 (of_z w128 t) +ℤ product_code)
  sum_fits = subst (FitsSigned w128) (sym sum_plain) (fits (t +ℤ (f -ℤ pos 1) *ℤ h) 641600 sum_bound (lit< tt))

  pub sum_is : to_z w128 (of_z w128 (to_z w128 (of_z w128 t) +ℤ product_code)) ≡ t +ℤ (f -ℤ pos 1) *ℤ h
  sum_is = ap (λ z. to_z w128 (of_z w128 z)) sum_plain ∙ plain (t +ℤ (f -ℤ pos 1) *ℤ h) 641600 sum_bound (lit< tt)
