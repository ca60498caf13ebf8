-- A weight lowers to one weight.
use Rattle.std.proofs.Common.{◌≡◌, ℤ, refl, ap, subst, ◌∙◌, arith}
use Rattle.std.proofs.lemmas.Int.{ints}
use Rattle.lie_datum.specs.Vectors.{Vector}
use Rattle.lie_datum.specs.RootList.{RootDatum}
use Rattle.lie_orbit.specs.Weights.{coroot_pairing}
use Rattle.lie_orbit.specs.Lowering.{IsHalf, IsHighRoot, IsFirstHigh, less_root, Lowers, low, step}
use Rattle.lie_orbit.specs.Laws.{LowersOneWay}
use Rattle.lie_orbit.proofs.WeightLemmas.{one_first}

one_half : (m a b : ℤ) → IsHalf m a → IsHalf m b → a ≡ b
one_half m a b p q = let x = p.0 in let y = p.1 in let z = q.0 in let w = q.1 in omega (arith, ints, x, y, z, w)

one_high : (d : RootDatum) (x : Vector) (r s : ℤ) → IsFirstHigh d x r → IsFirstHigh d x s → r ≡ s
one_high d x r s a b = one_first d (IsHighRoot d x) r s a.number b.number a.high b.high a.before b.before

pub lowers_once : LowersOneWay
lowers_once d x _ _ (low _ l) (low _ k) = refl
lowers_once d x _ z (low _ l) (step _ _ r c h e p) = absurd (l r h.number h.high)
lowers_once d x y _ (step _ _ r c h e p) (low _ l) = absurd (l r h.number h.high)
lowers_once d x y z (step _ _ r c h e p) (step _ _ s b k f q) =
    let same = one_high d x s r k h in
    let half = one_half (coroot_pairing d x r) b c (subst (λ t. IsHalf (coroot_pairing d x t) b) same f) e in
    lowers_once d (less_root d x c r) y z p (subst (λ t. Lowers d t z) (ap (λ t. less_root d x b t) same ∙ ap (λ t. less_root d x t r) half) q)
