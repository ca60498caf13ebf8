-- Whether a vector is in a list, by the test of the set that the orbit grows in.
use Rattle.std.proofs.Common.{◌≡◌, Bool, true, false, ◌||◌, List, [], ◌∷◌, ◌++◌, refl, sym, ap, ◌∙◌, if◌then◌else◌}
use Rattle.std.specs.List.{Contains, list_any}
use Rattle.std.specs.Ordering.{int_eq}
use Rattle.std.specs.Cmp.Rules.{signed_items}
use Rattle.indexmap.specs.IndexSet.{insert_key}
use lib.Pointwise.{pointwise}
use Rattle.lie_datum.specs.Vectors.{Vector}
use Rattle.lie_datum.proofs.ClosureLemmas.{in_from_contains, contains_from_in}
use Rattle.lie_base.proofs.Members.{In, here, there}

any_in : (x : Vector) (ws : List Vector) → list_any (pointwise int_eq x) ws ≡ true → In x ws
any_in x [] e = absurd (cc)
any_in x (y ∷ ws) e = by (pointwise int_eq x y) refl e (any_in x ws)
  where
    by : (t : Bool) → pointwise int_eq x y ≡ t → (t || list_any (pointwise int_eq x) ws) ≡ true → (list_any (pointwise int_eq x) ws ≡ true → In x ws) → In x (y ∷ ws)
    by true f g h = here ((signed_items x y).0 f)
    by false f g h = there (h g)

in_any : (x : Vector) (ws : List Vector) → In x ws → list_any (pointwise int_eq x) ws ≡ true
in_any x [] p = elim p [ ]
in_any x (y ∷ ws) (here e) = ap (λ t. t || list_any (pointwise int_eq x) ws) ((signed_items x y).1 e)
in_any x (y ∷ ws) (there p) = last (pointwise int_eq x y) (in_any x ws p)
  where
    last : (t : Bool) → list_any (pointwise int_eq x) ws ≡ true → (t || list_any (pointwise int_eq x) ws) ≡ true
    last true e = refl
    last false e = e

module _ (test : Vector → Vector → Bool) (is : (x y : Vector) → test x y ≡ pointwise int_eq x y) where
  any_is : (x : Vector) (ws : List Vector) → list_any (test x) ws ≡ list_any (pointwise int_eq x) ws
  any_is x [] = refl
  any_is x (y ∷ ws) = ap (λ t. t || list_any (test x) ws) (is x y) ∙ ap (λ t. pointwise int_eq x y || t) (any_is x ws)

  pub found_vector : (x : Vector) (ws : List Vector) → list_any (test x) ws ≡ true → Contains ws x
  found_vector x ws e = contains_from_in ws x (any_in x ws (sym (any_is x ws) ∙ e))

  pub fresh_vector : (x : Vector) (ws : List Vector) → list_any (test x) ws ≡ false → ¬ Contains ws x
  fresh_vector x ws e c = let t = any_is x ws ∙ in_any x ws (in_from_contains ws x c) in cc

  pub inserted_vector : (x : Vector) (ws : List Vector) → list_any (test x) ws ≡ false → insert_key test ws x ≡ ws ++ x ∷ []
  inserted_vector x ws e = ap (λ t. if t then ws else ws ++ x ∷ []) e
