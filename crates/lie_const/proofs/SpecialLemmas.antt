-- The special pair of a first root and a sum, from a name for the difference; and numbers of roots as the code tests them.
use Rattle.std.proofs.Common.{◌≡◌, ℕ, ◌≤◌, ℤ, neg_ℤ, length, Option, None, Some, ap, subst, ◌∙◌, arith, unsigned_abs}
use Rattle.lie_datum.specs.Vectors.{plus}
use Rattle.lie_datum.specs.RootList.{RootDatum, IsLoaded, IsNumber, NamesRoot, root_of}
use Rattle.lie_datum.proofs.SignedRoots.{root_is}
use Rattle.lie_datum.proofs.NumberLemmas.{place_within}
use Rattle.lie_const.specs.StructureConstants.{coeffs_of, IsSum, IsSpecial}
use Rattle.lie_const.proofs.SumLemmas.{neg_neg, neg_number, sum_swap, sum_turn}
use Rattle.lie_const.proofs.Decisions.{same_part}
use Rattle.lie_const.proofs.PlaceLemmas.{abs_neg}

-- the absolute value of a number is at most the number of positive roots
pub abs_number : (d : RootDatum) (m : ℕ) (k : ℤ) → m ≡ length d.positive → IsNumber d k → unsigned_abs k ≤ m
abs_number d m k e n = let l = (place_within d k n).1 in omega (arith, l, e)

pub abs_opposite : (d : RootDatum) (m : ℕ) (x k : ℤ) → m ≡ length d.positive → x ≡ neg_ℤ k → IsNumber d k → unsigned_abs x ≤ m
abs_opposite d m x k e f n = let l = (place_within d k n).1 in let g = ap unsigned_abs f ∙ abs_neg k in omega (arith, l, e, g)

module _ (d : RootDatum) (loaded : IsLoaded d) (r k : ℤ) (m : IsNumber d r) (n : IsNumber d k) where
  -- s = k + (-r)
  turned : (s : ℤ) → IsSum d r s k → IsSum d k (neg_ℤ r) s
  turned s h = sum_turn d loaded s r k (sum_swap d loaded r s k h)

  pub special_none : (o : Option ℤ) → o ≡ None → NamesRoot d (λ t. t.coeffs ≡ plus (coeffs_of d k) (coeffs_of d (neg_ℤ r))) o → (s : ℤ) → ¬ IsSpecial d r s k
  special_none None e h s g = h (root_of d s) (root_is d loaded s g.sum.right) (turned s g.sum).is
  special_none (Some t) e h s g = cc

  difference : (t : ℤ) → IsNumber d t × (coeffs_of d t ≡ plus (coeffs_of d k) (coeffs_of d (neg_ℤ r))) → IsSum d k (neg_ℤ r) t
  difference t h = record { left = n; right = neg_number d loaded r m; number = h.0; is = h.1 }

  pub special_some : (t : ℤ) → IsNumber d t × (coeffs_of d t ≡ plus (coeffs_of d k) (coeffs_of d (neg_ℤ r))) → IsSum d r t k
  special_some t h = sum_swap d loaded t r k (subst (λ x. IsSum d t x k) (neg_neg r) (sum_turn d loaded k (neg_ℤ r) t (difference t h)))

  pub special_only : (t : ℤ) → IsNumber d t × (coeffs_of d t ≡ plus (coeffs_of d k) (coeffs_of d (neg_ℤ r))) → (s : ℤ) → IsSpecial d r s k → s ≡ t
  special_only t h s g = same_part d loaded r k s t g.sum (difference t h)
