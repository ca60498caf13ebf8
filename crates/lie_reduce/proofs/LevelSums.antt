-- The level of a weight as the sum of its pairings with the positive coroots, and how large it is.
use Rattle.std.proofs.Common.{◌≡◌, ℕ, suc, ◌+◌, ◌*◌, ◌<◌, ◌≤◌, [], ◌∷◌, length, get_or, map, take, sym, ap, ◌∙◌, arith, unsigned_abs}
use Rattle.std.specs.Prelude.{ℤ, ◌+ℤ◌, ◌*ℤ◌}
use Rattle.std.proofs.lemmas.List.{get_or_append_left}
use Rattle.lie_datum.specs.Vectors.{Vector, pairing, total}
use Rattle.lie_datum.specs.declared.root_pair.Root.{Root}
use Rattle.lie_datum.specs.Numbers.{number_at}
use Rattle.lie_datum.specs.RootDatum.{covector, opposite, IsWithin}
use Rattle.lie_datum.specs.RootList.{RootDatum, root_of}
use Rattle.lie_datum.proofs.NumberLemmas.{numbered_at}
use Rattle.lie_datum.proofs.TableFilling.{total_take_more}
use Rattle.lie_datum.proofs.VectorLemmas.{abs_add, abs_mul}

-- the pairing of a light weight with a small vector
pub light_pairing : (x y : Vector) → IsWithin 1000000 x → IsWithin 80000 y → unsigned_abs (pairing x y) ≤ 80000000000 * length x
light_pairing [] y p q = omega arith
light_pairing (a ∷ x) [] p q = omega arith
light_pairing (a ∷ x) (b ∷ y) p q =
    let s = abs_add (a *ℤ b) (pairing x y) in
    let h = abs_mul a b 1000000 80000 (p 0 a (omega arith)) (q 0 b (omega arith)) in
    let t = light_pairing x y (λ k d l. p (suc k) d (omega (arith, l))) (λ k d l. q (suc k) d (omega (arith, l))) in
    omega (arith, s, h, t)

-- one coroot more
pub level_next : (d : RootDatum) (x : Vector) (k : ℕ) → k < length d.positive → (r s : ℤ) → r ≡ number_at (length d.positive) k → s ≡ total (λ t. pairing x (covector d.base t)) (take k d.positive)
    → s +ℤ pairing x (covector d.base (root_of d r)) ≡ total (λ t. pairing x (covector d.base t)) (take (k + 1) d.positive)
level_next d x k inside r s at is =
    let none : Root = record { coeffs = []; co_coeffs = [] } in
    let root : root_of d r ≡ get_or d.positive k none = ap (root_of d) at ∙ sym ((numbered_at d k (omega (arith, inside))).root none) ∙ get_or_append_left d.positive (map opposite d.positive) none k inside in
    ap (λ t. t +ℤ pairing x (covector d.base (root_of d r))) is ∙ ap (λ t. total (λ u. pairing x (covector d.base u)) (take k d.positive) +ℤ pairing x (covector d.base t)) root
    ∙ sym (total_take_more (λ t. pairing x (covector d.base t)) d.positive k none inside)
