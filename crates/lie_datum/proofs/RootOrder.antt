-- The order of the roots, and of vectors.
use Rattle.std.proofs.Common.{◌≡◌, ◌≢◌, ◌<ℤ◌, [], ◌∷◌, true, refl, ap}
use Rattle.std.proofs.lemmas.Bool.{and_parts, and_from}
use Rattle.std.proofs.lemmas.Cmp.{int_cmp_total, int_ranked, on_total, then_total, back_total, lists_total, tied_itself}
use Rattle.std.specs.Cmp.{IsTotalOrder, Equal-is}
use Rattle.std.specs.Ordering.{int_cmp, is_eq, ordering_then, MatchOrdering}
use Rattle.std.specs.Cmp.Lexicographic.{slice_cmp}
use Rattle.std.specs.declared.cmp.Ordering.{Ordering}
use Rattle.std.specs.declared.cmp.Ordering.TheVariants.{Less, Equal, Greater}
use Rattle.lie_datum.specs.Vectors.{Vector, same_vector}
use Rattle.lie_datum.specs.RootDatum.{Root, same_root}
use Rattle.lie_datum.specs.RootList.{height, root_cmp}
use Rattle.lie_datum.proofs.Roots.{same_root as same_pair}

-- vectors and roots are in a total order
pub slices_total : IsTotalOrder (slice_cmp int_cmp)
slices_total = lists_total int_cmp_total

pub root_total : IsTotalOrder root_cmp
root_total = then_total (on_total height int_cmp_total) (then_total (on_total (λ r. r.coeffs) (back_total slices_total)) (on_total (λ r. r.co_coeffs) (back_total slices_total)))

-- a root ties with itself
pub same_order : (r : Root) → root_cmp r r ≡ Equal
same_order r = tied_itself root_total r

-- vectors that tie are equal
pub equal_slices : (v w : Vector) → slice_cmp int_cmp v w ≡ Equal → v ≡ w
equal_slices [] [] e = refl
equal_slices [] (b ∷ w) e = cc
equal_slices (a ∷ v) [] e = cc
equal_slices (a ∷ v) (b ∷ w) e = by (int_cmp a b) e (int_ranked a b (int_cmp a b) refl) (equal_slices v w)
  where
    by : (o : Ordering) → ordering_then o (slice_cmp int_cmp v w) ≡ Equal → MatchOrdering o (a <ℤ b) (a ≡ b) (b <ℤ a) → (slice_cmp int_cmp v w ≡ Equal → v ≡ w) → a ∷ v ≡ b ∷ w
    by Less e m f = cc
    by Equal e m f = let g = f e in cc
    by Greater e m f = cc

-- what is not above v is not above w, where v isn't
pub not_above : (u v w : Vector) → slice_cmp int_cmp u v ≢ Greater → slice_cmp int_cmp v w ≢ Greater → slice_cmp int_cmp u w ≢ Greater
not_above u v w p q e = by (slice_cmp int_cmp u v) refl (slice_cmp int_cmp v w) refl p q
  where
    by : (o : Ordering) → slice_cmp int_cmp u v ≡ o → (k : Ordering) → slice_cmp int_cmp v w ≡ k → slice_cmp int_cmp u v ≢ Greater → slice_cmp int_cmp v w ≢ Greater → ⊥
    by Greater f k g p q = absurd (p f)
    by Less f Greater g p q = absurd (q g)
    by Equal f Greater g p q = absurd (q g)
    by Less f Less g p q = let h = slices_total.trans u v w f g in cc
    by Less f Equal g p q = let h = equal_slices v w g in let k = ap (slice_cmp int_cmp u) h in cc
    by Equal f Less g p q = let h = equal_slices u v f in let k = ap (λ t. slice_cmp int_cmp t w) h in cc
    by Equal f Equal g p q = let h = equal_slices u v f in let k = ap (λ t. slice_cmp int_cmp t w) h in cc

-- vectors and roots that the tests find equal are, and each is found equal to itself
pub same_vector-true : (x y : Vector) → same_vector x y ≡ true → x ≡ y
same_vector-true x y e = equal_slices x y ((Equal-is (slice_cmp int_cmp x y)).0 e)

pub same_vector-self : (x : Vector) → same_vector x x ≡ true
same_vector-self x = ap is_eq (tied_itself slices_total x)

pub same_root-true : (r s : Root) → same_root r s ≡ true → r ≡ s
same_root-true r s e =
    let p = and_parts (same_vector r.coeffs s.coeffs) (same_vector r.co_coeffs s.co_coeffs) e in
    same_pair r s (same_vector-true r.coeffs s.coeffs p.0) (same_vector-true r.co_coeffs s.co_coeffs p.1)

pub same_root-self : (r : Root) → same_root r r ≡ true
same_root-self r = and_from (same_vector r.coeffs r.coeffs) (same_vector r.co_coeffs r.co_coeffs) (same_vector-self r.coeffs) (same_vector-self r.co_coeffs)
