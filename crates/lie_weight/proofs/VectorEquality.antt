-- What the code's test of two vectors says.
use Rattle.std.proofs.Common.{◌≡◌, Bool, true, false, refl, sym, ap, subst}
use Rattle.std.specs.Ordering.{int_eq, int_cmp, is_eq}
use Rattle.std.specs.Cmp.Lexicographic.{slice_cmp}
use Rattle.std.specs.declared.cmp.Ordering.{Ordering}
use Rattle.std.specs.declared.cmp.Ordering.TheVariants.{Less, Equal, Greater}
use Rattle.std.proofs.lemmas.Cmp.{tied_itself}
use Rattle.std.specs.Cmp.Rules.{signed_items}
use Rattle.lie_const.specs.StructureConstants.{same_vector}
use Rattle.lie_datum.proofs.RootOrder.{slices_total, equal_slices}
use Rattle.lie_datum.specs.Vectors.{Vector}
use lib.Pointwise.{pointwise}

same_bools : (a b : Bool) → (a ≡ true → b ≡ true) → (b ≡ true → a ≡ true) → a ≡ b
same_bools true b f g = sym (f refl)
same_bools false true f g = g refl
same_bools false false f g = refl

pub same_vector_is : (x y : Vector) → same_vector x y ≡ true → x ≡ y
same_vector_is x y e = equal_slices x y (by (slice_cmp int_cmp x y) e)
  where
    by : (o : Ordering) → is_eq o ≡ true → o ≡ Equal
    by Less e = absurd (cc)
    by Equal e = refl
    by Greater e = absurd (cc)

pub same_vector_itself : (x : Vector) → same_vector x x ≡ true
same_vector_itself x = ap is_eq (tied_itself slices_total x)

pub same_test : (x y : Vector) → pointwise int_eq x y ≡ same_vector x y
same_test x y = same_bools (pointwise int_eq x y) (same_vector x y)
    (λ e. let h = (signed_items x y).0 e in subst (λ t. same_vector x t ≡ true) h (same_vector_itself x))
    (λ e. (signed_items x y).1 (same_vector_is x y e))
