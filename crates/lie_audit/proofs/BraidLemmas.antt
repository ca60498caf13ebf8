-- Cartan integers by pairings, and signs along a braid.
use Rattle.std.proofs.Common.{◌≡◌, ℕ, zero, suc, ◌-◌, ◌≤◌, ℤ, pos, ◌*ℤ◌, [], length, unsigned_abs, Bool, sym, ap, ap₂, ◌∙◌, arith}
use mathlib.Core.Bool.{not, beq}
use Rattle.lie_base.proofs.Whole.{mul_assoc}
use Rattle.lie_datum.specs.Vectors.{pairing}
use Rattle.lie_datum.specs.RootDatum.{simple, vector, covector, simple_root, simple_coroot, cartan, IsSimpleIndex, IsWithin}
use Rattle.lie_datum.specs.RootList.{RootDatum, IsLoaded, root_of}
use Rattle.lie_orbit.proofs.WeightLemmas.{abs_pairing, simple_is, simple_small, vector-simple, pairing-simple}
use Rattle.lie_const.specs.Signs.{Signs, image}
use Rattle.lie_letters.specs.Braids.{carried_sign, alternating}
use Rattle.lie_audit.specs.SignParts.{unit}
use Rattle.lie_audit.proofs.EntrySums.{unit-other}

-- the pairing of a_i with a_j^, and its size
module _ (d : RootDatum) (loaded : IsLoaded d) (i j : ℕ) (left : IsSimpleIndex d.base i) (right : IsSimpleIndex d.base j) where
  pub cartan_is : (r s : ℤ) → r ≡ pos i → s ≡ pos j → pairing (vector d.base (root_of d r)) (covector d.base (root_of d s)) ≡ cartan d.base i j
  cartan_is r s e f =
      ap (λ t. pairing (vector d.base (root_of d t)) (covector d.base (root_of d s))) e ∙ ap (λ t. pairing (vector d.base (root_of d (pos i))) (covector d.base (root_of d t))) f
      ∙ ap (λ t. pairing (vector d.base t) (covector d.base (root_of d (pos j)))) (simple_is d loaded i left) ∙ ap (λ t. pairing (vector d.base (simple i)) (covector d.base t)) (simple_is d loaded j right)
      ∙ pairing-simple d loaded j (vector d.base (simple i)) right ∙ ap (λ v. pairing v (simple_coroot d.base j)) (vector-simple d loaded i left)

  pub cartan_small : unsigned_abs (cartan d.base i j) ≤ 80000
  cartan_small =
      let y = coroot j right in
      let b = abs_pairing 100 100 (simple_root d.base i) (simple_coroot d.base j) (simple_small d loaded i left) y.1 in
      omega (arith, b, y.0)
    where
      coroot : (j : ℕ) → IsSimpleIndex d.base j → (length (simple_coroot d.base j) ≡ 8) × IsWithin 100 (simple_coroot d.base j)
      coroot zero s = absurd (let p = s.0 in omega (arith, p))
      coroot (suc k) s =
          let e : suc k - 1 ≡ k = omega arith in
          let c = loaded.axioms.input.coroots k [] (let p = s.1 in let q = loaded.axioms.input.corank in omega (arith, p, q)) in
          rw e (c.0.0, c.1)

-- one letter of a braid
pub carried-next : (d : RootDatum) (eta : Signs) (a b k j : ℕ) (s t : ℤ) (m e : Bool) → k ≡ suc j → t ≡ image d a s → unit e ≡ eta a s →
    unit (not (beq m e)) *ℤ carried_sign d eta (alternating b a j) t ≡ unit m *ℤ carried_sign d eta (alternating a b k) s
carried-next d eta a b k j s t m e p q r =
    ap₂ (λ x y. x *ℤ carried_sign d eta (alternating b a j) y) (unit-other m e ∙ ap (λ x. unit m *ℤ x) r) q
    ∙ mul_assoc (unit m) (eta a s) (carried_sign d eta (alternating b a j) (image d a s))
    ∙ ap (λ n. unit m *ℤ carried_sign d eta (alternating a b n) s) (sym p)
