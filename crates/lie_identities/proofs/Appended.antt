-- Lists that grow at their end.
use Rattle.std.proofs.Common.{◌≡◌, List, [], ◌∷◌, ◌++◌, map, sym, ap, subst, ◌∙◌}
use Rattle.std.specs.List.{All}
use Rattle.std.proofs.lemmas.List.{append_assoc, map-append}
use Rattle.std.proofs.lemmas.List.Elements.{All-push}

-- a list that has xs behind it, with ys behind that
pub appended : {A : Type 0} (a b xs ys : List A) → b ≡ a ++ xs → b ++ ys ≡ a ++ (xs ++ ys)
appended a b xs ys e = ap (λ l. l ++ ys) e ∙ append_assoc a xs ys

-- one more in a list and in the list of its images
pub images-pushed : {A B : Type 0} (f : A → B) (xs ys : List A) (ws zs : List B) (x : A) (n : B) → ys ≡ xs ++ x ∷ [] → zs ≡ ws ++ n ∷ [] → n ≡ f x → ws ≡ map f xs → zs ≡ map f ys
images-pushed f xs ys ws zs x n p q e h =
    q ∙ ap (λ l. l ++ n ∷ []) h ∙ ap (λ y. map f xs ++ y ∷ []) e ∙ sym (ap (map f) p ∙ map-append f xs (x ∷ []))

-- one more in a list whose members all have a property
pub all-pushed : {A : Type 0} (P : A → Type 0) (xs ys : List A) (x : A) → ys ≡ xs ++ x ∷ [] → All P xs → P x → All P ys
all-pushed P xs ys x e a p = subst (All P) (sym e) (All-push P xs x a p)
