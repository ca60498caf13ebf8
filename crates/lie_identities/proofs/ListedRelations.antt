-- The list of relations, one relation further, and what its members are about.
use Rattle.std.proofs.Common.{◌≡◌, ℕ, ◌+◌, List, [], ◌∷◌, ◌++◌, map, cond, true, false, Bool, refl, sym, ap, ◌∙◌, arith}
use Rattle.std.specs.List.{filter, flat_map, range_with_len}
use Rattle.std.proofs.lemmas.List.{append-nil, map-append}
use Rattle.std.proofs.lemmas.List.Concat.{flat_map-append}
use Rattle.std.proofs.lemmas.List.FromFn.{map-range_with_len_more, filter_of_map_range_with_len_more}
use Rattle.lie_identities.proofs.Appended.{appended}

module _ {A X : Type 0} (g : X → A) (f : ℕ → X) where
  -- one more in a list of images
  pub images-more : (old now : List A) (a n j : ℕ) → a + n ≡ j → now ≡ old ++ map g (map f (range_with_len a n)) → now ++ g (f j) ∷ [] ≡ old ++ map g (map f (range_with_len a (n + 1)))
  images-more old now a n j e h =
      appended old now (map g (map f (range_with_len a n))) (g (f j) ∷ []) h
      ∙ ap (λ l. old ++ l) (sym (ap (map g) (map-range_with_len_more f a n j e) ∙ map-append g (map f (range_with_len a n)) (f j ∷ [])))

  -- one more in a list of images that pass a test
  pub kept-more : (p : X → Bool) (old now : List A) (n : ℕ) (b : Bool) → b ≡ p (f n) → now ≡ old ++ map g (filter p (map f (range_with_len 0 n))) → now ++ cond b (g (f n) ∷ []) [] ≡ old ++ map g (filter p (map f (range_with_len 0 (n + 1))))
  kept-more p old now n b same h =
      appended old now (map g (filter p (map f (range_with_len 0 n)))) (cond b (g (f n) ∷ []) []) h
      ∙ ap (λ l. old ++ (map g (filter p (map f (range_with_len 0 n))) ++ l)) (image_of b same)
      ∙ ap (λ l. old ++ l) (sym (ap (map g) (filter_of_map_range_with_len_more p f 0 n n (omega arith)) ∙ map-append g (filter p (map f (range_with_len 0 n))) (cond (p (f n)) (f n ∷ []) [])))
    where
      image_of : (b : Bool) → b ≡ p (f n) → cond b (g (f n) ∷ []) [] ≡ map g (cond (p (f n)) (f n ∷ []) [])
      image_of true e = ap (λ b. map g (cond b (f n ∷ []) [])) e
      image_of false e = ap (λ b. map g (cond b (f n ∷ []) [])) e

module _ {A X : Type 0} (h : X → List A) (f : ℕ → X) where
  -- one more in a list of lists
  pub lists-more : (old now : List A) (a n j : ℕ) → a + n ≡ j → now ≡ old ++ flat_map h (map f (range_with_len a n)) → now ++ h (f j) ≡ old ++ flat_map h (map f (range_with_len a (n + 1)))
  lists-more old now a n j e g =
      appended old now (flat_map h (map f (range_with_len a n))) (h (f j)) g
      ∙ ap (λ l. old ++ l) (sym (ap (flat_map h) (map-range_with_len_more f a n j e) ∙ flat_map-append h (map f (range_with_len a n)) (f j ∷ []) ∙ ap (λ l. flat_map h (map f (range_with_len a n)) ++ l) (append-nil (h (f j)))))

-- a range is the list of its numbers
pub range-self : (xs : List ℕ) → map (λ n. n) xs ≡ xs
range-self [] = refl
range-self (x ∷ xs) = ap (λ l. x ∷ l) (range-self xs)
