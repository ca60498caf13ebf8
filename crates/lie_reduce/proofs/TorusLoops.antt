-- What is kept while a vector is lowered and the values of the roots are multiplied.
use Rattle.std.proofs.Common.{◌≡◌, ℕ, zero, suc, ◌+◌, ◌-◌, false, ℤ, length, ap, subst, ◌∙◌, arith}
use Rattle.std.specs.Prelude.{pos, negsuc, neg_ℤ, nat_lt}
use Rattle.std.proofs.lemmas.Bool.Decides.{nat_tests}
use Rattle.lie_datum.specs.Numbers.{place, number_at}
use Rattle.lie_datum.proofs.NumberLemmas.{within}
use Rattle.std.proofs.lemmas.Int.{ints}
use Rattle.lie_datum.specs.Vectors.{Vector}
use Rattle.lie_datum.specs.RootList.{RootDatum, IsNumber}
use Rattle.lie_orbit.specs.Weights.{coroot_pairing}
use Rattle.lie_orbit.specs.Lowering.{IsHalf, IsFirstHigh, IsHighRoot, IsLow, less_root, Lowers, low, step}
use Rattle.lie_orbit.specs.Laws.{IsZero}
use Rattle.lie_orbit.proofs.WeightLemmas.{one_first}
use Rattle.lie_identities.specs.CoverParts.{LowersToZero}
use Rattle.lie_reduce.proofs.CoefficientLemmas.{place_number}

one_half : (m a b : ℤ) → IsHalf m a → IsHalf m b → a ≡ b
one_half m a b p q = let x = p.0 in let y = p.1 in let z = q.0 in let w = q.1 in omega (arith, ints, x, y, z, w)

one_high : (d : RootDatum) (x : Vector) (r s : ℤ) → IsFirstHigh d x r → IsFirstHigh d x s → r ≡ s
one_high d x r s a b = one_first d (IsHighRoot d x) r s a.number b.number a.high b.high a.before b.before

pub same_half : (d : RootDatum) (x : Vector) (r a b : ℤ) → IsHalf (coroot_pairing d x r) a → IsHalf (coroot_pairing d x r) b → a ≡ b
same_half d x r a b p q = one_half (coroot_pairing d x r) a b p q

-- what lowers to 0 goes on to lower to 0
pub lowered-on : (d : RootDatum) (x : Vector) (r c : ℤ) → IsFirstHigh d x r → IsHalf (coroot_pairing d x r) c → LowersToZero d x → LowersToZero d (less_root d x c r)
lowered-on d x r c first half h = (h.0, on x h.0 h.1 first half, h.2)
  where
    on : (x y : Vector) → Lowers d x y → IsFirstHigh d x r → IsHalf (coroot_pairing d x r) c → Lowers d (less_root d x c r) y
    on x y (low z l) first half = absurd (l r first.number first.high)
    on x y (step z u s b other share rest) first half =
        let same = one_high d z s r other first in
        let part = one_half (coroot_pairing d z r) b c (subst (λ t. IsHalf (coroot_pairing d z t) b) same share) half in
        subst (λ t. Lowers d t u) (ap (λ t. less_root d z b t) same ∙ ap (λ t. less_root d z t r) part) rest

-- what lowers to 0 and has no high root is 0
pub lowered-end : (d : RootDatum) (x : Vector) → IsLow d x → LowersToZero d x → IsZero x
lowered-end d x none h = end x h.0 h.1 none h.2
  where
    end : (x y : Vector) → Lowers d x y → IsLow d x → IsZero y → IsZero x
    end x y (low z l) none zero-y = zero-y
    end x y (step z u s b other share rest) none zero-y = absurd (none s other.number other.high)

-- the number at a place past the positive roots
pub number-high : (m k : ℕ) → number_at m (m + k) ≡ neg_ℤ (pos (suc k))
number-high m k =
    let t : nat_lt (m + k) m ≡ false = grind (arith, nat_tests) in
    let e : m + k - m ≡ k = omega arith in
    rw t (ap negsuc e)

-- the number at the place of a root is that of the root
pub number-placed : (d : RootDatum) (r : ℤ) → IsNumber d r → number_at (length d.positive) (place (length d.positive) r) ≡ r
number-placed d (pos zero) n = cc
number-placed d (pos (suc j)) n = let e : suc j - 1 ≡ j = omega arith in ap (number_at (length d.positive)) e ∙ place_number (length d.positive) j (within d.positive j n)
number-placed d (negsuc j) n = number-high (length d.positive) j
