-- Roots with the same pairings are equal.
use Rattle.std.proofs.Common.{◌≡◌, ◌≤◌, [], ◌∷◌, length, refl, sym, ap₂, ◌∙◌, arith}
use Rattle.std.specs.Prelude.{pos}
use Rattle.std.proofs.lemmas.Int.{ints}
use Rattle.lie_datum.specs.Vectors.{Vector, pairing}
use Rattle.lie_datum.specs.declared.root_pair.Root.{Root}
use Rattle.lie_datum.specs.RootDatum.{Base, vector, IsRoot, rank, is_simple, is_reflected}
use Rattle.lie_datum.specs.RootList.{RootDatum, IsLoaded}
use Rattle.lie_datum.proofs.VectorLemmas.{length-combination}
use Rattle.lie_weyl.proofs.Words.{lengths}
use Rattle.lie_audit.specs.WeylWeights.{SameWeight}

-- vectors of one length with the same pairings are equal
pub same_in_X : (x y : Vector) → length x ≡ length y → SameWeight x y → x ≡ y
same_in_X [] [] long same = refl
same_in_X [] (b ∷ y) long same = absurd (let never : ⊥ = omega (arith, long) in never)
same_in_X (a ∷ x) [] long same = absurd (let never : ⊥ = omega (arith, long) in never)
same_in_X (a ∷ x) (b ∷ y) long same =
    let first : a ≡ b = (let h = same (pos 1 ∷ []) in let p = none x in let q = none y in omega (arith, ints, h, p, q)) in
    let rest : SameWeight x y = λ c. (let h = same (pos 0 ∷ c) in omega (arith, ints, h)) in
    ap₂ ◌∷◌ first (same_in_X x y (omega (arith, long)) rest)
  where
    none : (z : Vector) → pairing z [] ≡ pos 0
    none [] = refl
    none (e ∷ z) = refl

-- a datum with a root has a simple root
some_simple : (b : Base) (r : Root) → IsRoot b r → 1 ≤ rank b
some_simple b r (is_simple i h) = omega (arith, h.0, h.1)
some_simple b r (is_reflected i s h p) = omega (arith, h.0, h.1)

-- the vector of a root has 8 entries
pub vector-long : (d : RootDatum) → IsLoaded d → (t : Root) → IsRoot d.base t → length (vector d.base t) ≡ 8
vector-long d loaded t h = length-combination t.coeffs d.base.roots (let e = (lengths d loaded t h).0 in omega (arith, e)) (some_simple d.base t h) (λ k z l. (loaded.axioms.input.roots k z l).0.0)

-- roots with the same pairings are equal
pub roots_apart : (d : RootDatum) → IsLoaded d → (r s : Root) → IsRoot d.base r → IsRoot d.base s → SameWeight (vector d.base r) (vector d.base s) → r ≡ s
roots_apart d loaded r s p q same = loaded.axioms.apart r s p q (same_in_X (vector d.base r) (vector d.base s) (vector-long d loaded r p ∙ sym (vector-long d loaded s q)) same)
