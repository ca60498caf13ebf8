-- Norms are positive.
use Rattle.std.proofs.Common.{◌≡◌, ℤ, pos, ◌+ℤ◌, ◌*ℤ◌, neg_ℤ, ◌<ℤ◌, List, [], ◌∷◌, Bool, true, false, cond, Option, None, Some, refl, subst, arith}
use Rattle.std.proofs.lemmas.Int.{ints}
use Rattle.std.specs.List.{find}
use Rattle.std.specs.Option.{option_map_or}
use Rattle.lie_datum.specs.Vectors.{Vector}
use Rattle.lie_datum.specs.declared.root_pair.Root.{Root}
use Rattle.lie_datum.specs.RootDatum.{IsRoot}
use Rattle.lie_datum.specs.RootList.{RootDatum, IsLoaded, IsNumber, root_of, all_roots, length2}
use Rattle.lie_base.proofs.RingSolver.{ring, var, neg, ◌⊕◌, ◌⊗◌}
use Rattle.lie_base.proofs.Members.{In, here, there}
use Rattle.lie_datum.proofs.Squares.{factor_not_negative}
use Rattle.lie_datum.proofs.NormBound.{length_positive}
use Rattle.lie_datum.proofs.LoadedLaws.{all_only}
use Rattle.lie_datum.proofs.SignedRoots.{root_is}
use Rattle.lie_const.specs.StructureConstants.{norm, norm_or_one, same_vector}

found : (test : Root → Bool) (rs : List Root) → (o : Option Root) → find test rs ≡ o → (P : Root → Type 0) → ((r : Root) → In r rs → P r) → (Q : Option Root → Type 0) → ((r : Root) → P r → Q (Some r)) → Q None → Q o
found test [] o e P h Q some none = subst Q e none
found test (r ∷ rs) o e P h Q some none = by (test r) refl e (λ f. found test rs o f P (λ s p. h s (there p)) Q some none)
  where
    by : (t : Bool) → test r ≡ t → cond t (Some r) (find test rs) ≡ o → (find test rs ≡ o → Q o) → Q o
    by true g f k = subst Q f (some r (h r (here refl)))
    by false g f k = k f

module _ (d : RootDatum) (loaded : IsLoaded d) where
  pub norm_positive : (k : ℤ) → IsNumber d k → pos 0 <ℤ norm d k
  norm_positive k n = length_positive d loaded (root_of d k) (root_is d loaded k n)

  pub gap_positive : (v : Vector) → pos 0 <ℤ norm_or_one d v
  gap_positive v = found (λ r. same_vector r.coeffs v) (all_roots d) (find (λ r. same_vector r.coeffs v) (all_roots d)) refl (IsRoot d.base) (all_only d loaded)
      (λ o. pos 0 <ℤ option_map_or (length2 d) o (pos 1)) (λ r p. length_positive d loaded r p) (omega (arith, ints))

pub cancel : (x y a : ℤ) → pos 0 <ℤ a → x *ℤ a ≡ y *ℤ a → x ≡ y
cancel x y a p e =
    let up = ring (x ∷ (y ∷ (a ∷ []))) ((var 0 ⊕ neg (var 1)) ⊗ var 2) (var 0 ⊗ var 2 ⊕ neg (var 1 ⊗ var 2)) refl in
    let down = ring (x ∷ (y ∷ (a ∷ []))) ((var 1 ⊕ neg (var 0)) ⊗ var 2) (var 1 ⊗ var 2 ⊕ neg (var 0 ⊗ var 2)) refl in
    let f = factor_not_negative (x +ℤ neg_ℤ y) a p (omega (arith, ints, up, e)) in
    let g = factor_not_negative (y +ℤ neg_ℤ x) a p (omega (arith, ints, down, e)) in
    omega (arith, ints, f, g)
