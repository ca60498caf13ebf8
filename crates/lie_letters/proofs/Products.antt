-- The torus part of a word, the product of its torus letters: a chain keeps it, and a word of torus letters is joined to its letter.
use Rattle.std.proofs.Common.{◌≡◌, ℕ, List, [], ◌∷◌, ◌++◌, map, refl, sym, ◌∙◌, ap, subst}
use Rattle.std.specs.Prelude.{◌↔◌}
use Rattle.lie_letters.specs.declared.letter.Letter.{Letter as CodeLetter}
use Rattle.lie_letters.specs.declared.letter.Letter.TheVariants.{H as CodeH}
use Rattle.lie_letters.specs.Torus.{Torus, torus_one, torus_mul}
use Rattle.lie_letters.proofs.TorusLaws.{torus_assoc, torus_comm, torus_mul_one}
use Rattle.lie_field.specs.Elements.{Elem}
use Rattle.lie_letters.specs.Names.{RootName}
use Rattle.lie_letters.specs.Setting.{Term}
use Rattle.lie_letters.specs.Entries.{ones, times_each}
use Rattle.lie_letters.specs.Frames.{FrameData, setting, dim, terms_at}
use Rattle.lie_letters.specs.Letters.{Letter, Word, X, H, N, Ninv}
use Rattle.lie_letters.specs.Chains.{StepBy, forward, backward, same, next}
use Rattle.lie_letters.specs.Relations.{Relation, Joined, term_letters, S0-root, S0-torus, S1, S2, S3, S4}
use Rattle.lie_letters.specs.Spelled.{numbers, spelled, JoinedSpelled, IsWordOver}
use Rattle.lie_letters.proofs.TorusLemmas.{ones_joined, product_joined}
use Rattle.lie_letters.proofs.SpelledLemmas.{JoinedSpelled-refl, JoinedSpelled-trans, JoinedSpelled-flip, JoinedSpelled-append, JoinedSpelled-over}

module _ (f : FrameData) where
  -- the torus part of a letter: t for h(t), and 1 for each other letter
  abbrev part : Letter (setting f) → Torus f.field (dim f)
  part (X r a) = torus_one f.field (dim f)
  part (H t) = t
  part (N i) = torus_one f.field (dim f)
  part (Ninv i) = torus_one f.field (dim f)

  -- the torus part of a word
  abbrev product : Word (setting f) → Torus f.field (dim f)
  product [] = torus_one f.field (dim f)
  product (a ∷ w) = torus_mul f.field (dim f) (part a) (product w)

  -- one on the left, as on the right
  one_mul : (t : Torus f.field (dim f)) → torus_mul f.field (dim f) (torus_one f.field (dim f)) t ≡ t
  one_mul t = torus_comm f.field (dim f) (torus_one f.field (dim f)) t ∙ torus_mul_one f.field (dim f) t

  product-append : (u v : Word (setting f)) → product (u ++ v) ≡ torus_mul f.field (dim f) (product u) (product v)
  product-append [] v = sym (one_mul (product v))
  product-append (a ∷ u) v =
      ap (torus_mul f.field (dim f) (part a)) (product-append u v) ∙ sym (torus_assoc f.field (dim f) (part a) (product u) (product v))

  -- term letters have the torus part 1
  product-terms : (cs : List (Term (RootName f.datum) (Elem f.field))) (t u : Elem f.field) → product (term_letters (setting f) cs t u) ≡ torus_one f.field (dim f)
  product-terms [] t u = refl
  product-terms (c ∷ cs) t u = one_mul (product (term_letters (setting f) cs t u)) ∙ product-terms cs t u

  -- the two sides of a relation have one torus part
  relation_keeps : (l r : Word (setting f)) → Relation (setting f) l r → product l ≡ product r
  relation_keeps l r (S0-root s) = one_mul (torus_one f.field (dim f))
  relation_keeps l r S0-torus = torus_mul_one f.field (dim f) (torus_one f.field (dim f))
  relation_keeps l r (S1 s a b) = one_mul (product (X s b ∷ []))
  relation_keeps l r (S2 q s t u before apart) =
      let one = torus_one f.field (dim f) in
      ap (λ z. torus_mul f.field (dim f) one (torus_mul f.field (dim f) one z)) (sym (product-terms (terms_at f q s) t u))
  relation_keeps l r (S4 t s a) =
      ap (torus_mul f.field (dim f) t) (one_mul (torus_one f.field (dim f))) ∙ sym (one_mul (torus_mul f.field (dim f) t (torus_one f.field (dim f))))
  relation_keeps l r (S3 t u) = sym (torus_assoc f.field (dim f) t u (torus_one f.field (dim f)))

  inside_keeps : (p q l r : Word (setting f)) → product l ≡ product r → product (p ++ (l ++ q)) ≡ product (p ++ (r ++ q))
  inside_keeps p q l r e =
      simp product-append (ap (λ x. torus_mul f.field (dim f) (product p) (torus_mul f.field (dim f) x (product q))) e)

  step_keeps : (u v : Word (setting f)) → StepBy (Relation (setting f)) u v → product u ≡ product v
  step_keeps u v (forward {l = l} {r = r} p q e) = inside_keeps p q l r (relation_keeps l r e)
  step_keeps u v (backward {l = l} {r = r} p q e) = inside_keeps p q r l (sym (relation_keeps l r e))

  -- joined words have one product
  joined_keeps : (u v : Word (setting f)) → Joined (setting f) u v → product u ≡ product v
  joined_keeps u v same = refl
  joined_keeps u v (next {v = w} s d) = step_keeps u w s ∙ joined_keeps w v d

  -- a word of torus letters is joined to one torus letter
  pub joined_to_letter : (ts : List (List ℕ)) → IsWordOver f (map (λ t. CodeH t) ts) → (t : List ℕ) × JoinedSpelled f (CodeH t ∷ []) (map (λ t. CodeH t) ts)
  joined_to_letter [] h = (ones (dim f), ones_joined f)
  joined_to_letter (t ∷ ts) h =
      let (u, d) = joined_to_letter ts h.1 in
      let over = (JoinedSpelled-over f (CodeH u ∷ []) (map (λ t. CodeH t) ts) d).0 in
      let merged = product_joined f t u h.0.1 over.1 h.0.0 over.0 in
      let first = JoinedSpelled-refl f (CodeH t ∷ []) (h.0, tt) in (
        times_each f.field t u,
        JoinedSpelled-trans f (CodeH (times_each f.field t u) ∷ []) (CodeH t ∷ CodeH u ∷ []) (map (λ t. CodeH t) (t ∷ ts))
            (JoinedSpelled-flip f (CodeH t ∷ CodeH u ∷ []) (CodeH (times_each f.field t u) ∷ []) merged)
            (JoinedSpelled-append f (CodeH t ∷ []) (CodeH t ∷ []) (CodeH u ∷ []) (map (λ t. CodeH t) ts) first d),
      )

  -- a word that is spelled by one torus letter
  letter_of : (w : Word (setting f)) (t : List ℕ) → map (spelled f) w ≡ CodeH t ∷ [] → numbers f.field (product w).entries ≡ t
  letter_of [] t e = cc
  letter_of (X r a ∷ []) t e = cc
  letter_of (H x ∷ []) t e =
      let entries : numbers f.field x.entries ≡ t = cc in
      ap (λ y. numbers f.field y.entries) (torus_mul_one f.field (dim f) x) ∙ entries
  letter_of (N i ∷ []) t e = cc
  letter_of (Ninv i ∷ []) t e = cc
  letter_of (a ∷ b ∷ w) t e = cc

  -- torus letters that are joined are the same
  letters_same : (t s : List ℕ) → JoinedSpelled f (CodeH t ∷ []) (CodeH s ∷ []) → t ≡ s
  letters_same t s d =
      sym (letter_of d.left t d.left_spelled)
      ∙ ap (λ (y : Torus f.field (dim f)). numbers f.field y.entries) (joined_keeps d.left d.right d.joined)
      ∙ letter_of d.right s d.right_spelled

  -- torus letters decide which words are joined
  pub torus_letters_decide : (u v : List CodeLetter) (t s : List ℕ) → JoinedSpelled f (CodeH t ∷ []) u → JoinedSpelled f (CodeH s ∷ []) v
      → ((t ≡ s) ↔ JoinedSpelled f u v)
  torus_letters_decide u v t s d e =
      let back = JoinedSpelled-flip f (CodeH t ∷ []) u d in (
        λ same_vector. JoinedSpelled-trans f u (CodeH t ∷ []) v back (subst (λ z. JoinedSpelled f (CodeH z ∷ []) v) (sym same_vector) e),
        λ joined.
            letters_same t s
            (JoinedSpelled-trans f (CodeH t ∷ []) v (CodeH s ∷ []) (JoinedSpelled-trans f (CodeH t ∷ []) u v d joined)
            (JoinedSpelled-flip f (CodeH s ∷ []) v e)),
      )
