-- On a graded module an entry of E_r^(k) that is not 0 raises weights by k r.
use Rattle.std.proofs.Common.{◌≡◌, ◌≢◌, ℕ, ◌<◌, ◌≤◌, pos, ℤ, true, false, Bool, [], refl, sym, ap, ◌∙◌, get_or}
use Rattle.lie_ring.specs.Matrices.{entry}
use Rattle.lie_datum.specs.Vectors.{Vector, plus, times}
use Rattle.lie_datum.specs.RootDatum.{vector}
use Rattle.lie_datum.specs.RootList.{RootDatum, IsNumber, root_of}
use Rattle.lie_const.specs.StructureConstants.{same_vector}
use Rattle.lie_const.specs.Modules.{Module, dimension, divided_power}
use Rattle.lie_letters.proofs.NameLemmas.{same_vector-true, same_vector-self}
use Rattle.lie_identities.specs.Audit.{IsGraded}

-- the weight of the row is that of the column and k r
pub raised : (d : RootDatum) (v : Module) → IsGraded d v → (r : ℤ) → IsNumber d r → (k a b : ℕ) → 1 ≤ k → a < dimension v → b < dimension v
    → entry (pos 0) (divided_power v r k) a b ≢ pos 0 → get_or v.weights a [] ≡ plus (get_or v.weights b []) (times (pos k) (vector d.base (root_of d r)))
raised d v graded r number k a b first p q nonzero = by_test (same_vector x y) refl
  where
    x : Vector
    x = get_or v.weights a []

    y : Vector
    y = plus (get_or v.weights b []) (times (pos k) (vector d.base (root_of d r)))

    true_false : ¬ (true ≡ false)
    true_false e = cc

    by_test : (t : Bool) → same_vector x y ≡ t → x ≡ y
    by_test true e = same_vector-true x y e
    by_test false e = absurd (graded r k a b (record { number = number; first = first; row = p; col = q; nonzero = nonzero; weights = λ h. true_false (sym (same_vector-self y) ∙ ap (λ z. same_vector z y) (sym h) ∙ e) }))
