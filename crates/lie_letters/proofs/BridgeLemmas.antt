-- Words of positive root letters that are joined over the field's ring are joined in the frame.
use Rattle.std.proofs.Common.{◌≡◌, ℕ, zero, suc, ◌<◌, ◌≤◌, pos, ◌<ℤ◌, List, [], ◌∷◌, ◌++◌, map, length, sym, ap, ap₂, subst, ◌∙◌, arith}
use Rattle.std.proofs.lemmas.Int.{ints}
use Rattle.std.proofs.lemmas.List.{map-append}
use Rattle.std.proofs.lemmas.Bool.{ltb-true}
use Rattle.lie_base.specs.Below.{at_number}
use Rattle.lie_field.specs.FieldRing.{field_ring}
use Rattle.lie_field.specs.Quotient.{order}
use Rattle.lie_datum.specs.Numbers.{place}
use Rattle.lie_datum.specs.RootList.{IsNumber}
use Rattle.lie_datum.proofs.NumberLemmas.{some_within}
use Rattle.lie_letters.specs.declared.letter.Letter.{Letter as CodeLetter}
use Rattle.lie_letters.specs.declared.letter.Letter.TheVariants.{X as CodeX}
use Rattle.lie_letters.specs.Chains.{StepBy, forward, backward, same, next}
use Rattle.lie_letters.specs.Names.{RootName, signed_number}
use Rattle.lie_letters.specs.Frames.{FrameData, setting, terms_at, IsLawfulFrame}
use Rattle.lie_letters.specs.Letters.{X}
use Rattle.lie_letters.specs.Relations.{S2, term_letters}
use Rattle.lie_letters.specs.RingLetters.{RingLetter, IsRingWord, term_word}
use Rattle.lie_letters.specs.RingRelations.{RingRelation, RingJoined}
use Rattle.lie_letters.specs.RingRelations.{S0-root as S0-ring, S1 as S1-ring, S2 as S2-ring}
use Rattle.lie_letters.specs.PositiveTerms.{positive_term, positive_terms}
use Rattle.lie_const.specs.ConstantTables.{terms_of}
use Rattle.lie_letters.specs.Spelled.{JoinedSpelled, IsWordOver, root_letters}
use Rattle.lie_letters.proofs.ChainLemmas.{by_relation}
use Rattle.lie_letters.proofs.NameLemmas.{name_of_number, named_is}
use Rattle.lie_letters.proofs.PositiveRootLemmas.{positive_of_number}
use Rattle.lie_letters.proofs.RootLetterLemmas.{zero_joined, sum_joined}
use Rattle.lie_letters.proofs.CollectingLemmas.{collect_laws, terms_spelled}
use Rattle.lie_letters.proofs.SpelledLemmas.{JoinedSpelled-refl, JoinedSpelled-trans, JoinedSpelled-flip, JoinedSpelled-append, JoinedSpelled-over}

-- a letter over the field's ring, by numbers
abbrev root_letter : RingLetter ℕ → CodeLetter
root_letter x = CodeX (pos x.0) x.1

-- the parts of a word of the frame are words of the frame
pub IsWordOver-append : (f : FrameData) (u v : List CodeLetter) → IsWordOver f (u ++ v) → IsWordOver f u × IsWordOver f v
IsWordOver-append f [] v h = (tt, h)
IsWordOver-append f (a ∷ u) v h = let p = IsWordOver-append f u v h.1 in ((h.0, p.0), p.1)

-- numbers up to m are those of roots
number_within : (f : FrameData) (r : ℕ) → 1 ≤ r → r ≤ length f.datum.positive → IsNumber f.datum (pos r)
number_within f zero l h = absurd (omega (arith, l))
number_within f (suc k) l h = some_within f.datum.positive k (omega (arith, h))

-- a word of letters over the field's ring is a word of the frame
pub IsWordOver-ring : (f : FrameData) (w : List (RingLetter ℕ)) → IsRingWord (field_ring f.field) (length f.datum.positive) w → IsWordOver f (root_letters w)
IsWordOver-ring f [] h = tt
IsWordOver-ring f (x ∷ w) h =
    ((number_within f x.0 h.1.0 h.1.1, ltb-true x.1 (order f.field.given) h.0.0), IsWordOver-ring f w (h.0.1, h.1.2))

module _ (f : FrameData) (lawful : IsLawfulFrame f) where
  -- S2 for two positive roots
  pub commutator_joined : (r s t u : ℕ) → 1 ≤ r → r < s → s ≤ length f.datum.positive → t < order f.field.given → u < order f.field.given
      → JoinedSpelled f (CodeX (pos s) u ∷ CodeX (pos r) t ∷ [])
      (CodeX (pos r) t ∷ CodeX (pos s) u ∷ root_letters (term_word (field_ring f.field) (positive_terms f.constants r s) t u))
  commutator_joined r s t u low before high p q =
      let x = name_of_number f.datum (pos r) (number_within f r low (omega (arith, before, high))) in
      let y = name_of_number f.datum (pos s) (number_within f s (omega (arith, low, before)) high) in
      let a = at_number (order f.field.given) t p in
      let b = at_number (order f.field.given) u q in
      let positive_x = positive_of_number f.datum lawful.loaded x.0 (subst (λ k. pos 0 <ℤ k) (sym x.1) (omega (arith, ints, low))) in
      let positive_y = positive_of_number f.datum lawful.loaded y.0 (subst (λ k. pos 0 <ℤ k) (sym y.1) (omega (arith, ints, low, before))) in
      let at_x : place (length f.datum.positive) (pos r) ≡ x.0.number = ap (place (length f.datum.positive)) (sym x.1) ∙ (named_is f.datum x.0).place in
      let at_y : place (length f.datum.positive) (pos s) ≡ y.0.number = ap (place (length f.datum.positive)) (sym y.1) ∙ (named_is f.datum y.0).place in
      let ordered : x.0.number < y.0.number = omega (arith, at_x, at_y, low, before) in
      let laws = collect_laws f lawful in
      let apart : ¬ (x.0 ≡ y.0) = λ e. (let n = ap (λ (z : RootName f.datum). z.number) e in omega (arith, ordered, n)) in
      record {
        left = X y.0 b ∷ X x.0 a ∷ [];
        right = X x.0 a ∷ X y.0 b ∷ term_letters (setting f) (terms_at f x.0 y.0) a b;
        left_spelled = ap₂ (λ i j. CodeX j u ∷ CodeX i t ∷ []) x.1 y.1;
        right_spelled =
            ap (λ w. CodeX (signed_number f.datum x.0) t ∷ CodeX (signed_number f.datum y.0) u ∷ w) (terms_spelled f lawful x.0 y.0 positive_x positive_y apart a b)
            ∙ ap₂ (λ i j. CodeX i t ∷ CodeX j u ∷ root_letters (term_word (field_ring f.field) (map positive_term (terms_of f.constants i j)) t u)) x.1 y.1;
        joined = by_relation _ _ (S2 x.0 y.0 a b ordered (laws.apart x.0 y.0 positive_x positive_y));
      }

  -- the two sides of a relation over the ring
  relation_joined : (l r : List (RingLetter ℕ)) → RingRelation (field_ring f.field) (length f.datum.positive) (positive_terms f.constants) l r
      → JoinedSpelled f (root_letters l) (root_letters r)
  relation_joined l r (S0-ring q low high) = zero_joined f (pos q) (number_within f q low high)
  relation_joined l r (S1-ring q a b low high p s) =
      sum_joined f (pos q) a b (number_within f q low high) (ltb-true a (order f.field.given) p) (ltb-true b (order f.field.given) s)
  relation_joined l r (S2-ring q s t u low before high p o) =
      commutator_joined q s t u low before high (ltb-true t (order f.field.given) p) (ltb-true u (order f.field.given) o)

  -- and inside a word of the frame
  inside_joined : (p q l r : List (RingLetter ℕ)) → JoinedSpelled f (root_letters l) (root_letters r) → IsWordOver f (root_letters (p ++ (l ++ q)))
      → JoinedSpelled f (root_letters (p ++ (l ++ q))) (root_letters (p ++ (r ++ q)))
  inside_joined p q l r d over =
      let split = λ (w : List (RingLetter ℕ)). map-append root_letter p (w ++ q) ∙ ap (λ z. root_letters p ++ z) (map-append root_letter w q) in
      let parts = IsWordOver-append f (root_letters p) (root_letters l ++ root_letters q) (subst (IsWordOver f) (split l) over) in
      let rest = IsWordOver-append f (root_letters l) (root_letters q) parts.1 in
      let inner = JoinedSpelled-append f (root_letters l) (root_letters r) (root_letters q) (root_letters q) d (JoinedSpelled-refl f (root_letters q) rest.1) in
      let whole = JoinedSpelled-append f (root_letters p) (root_letters p) (root_letters l ++ root_letters q) (root_letters r ++ root_letters q) (JoinedSpelled-refl f (root_letters p) parts.0) inner in
      subst (λ z. JoinedSpelled f z (root_letters (p ++ (r ++ q)))) (sym (split l)) (subst (λ z. JoinedSpelled f (root_letters p ++ (root_letters l ++ root_letters q)) z) (sym (split r)) whole)

  step_joined : (u v : List (RingLetter ℕ)) → StepBy (RingRelation (field_ring f.field) (length f.datum.positive) (positive_terms f.constants)) u v
      → IsWordOver f (root_letters u) → JoinedSpelled f (root_letters u) (root_letters v)
  step_joined u v (forward {l = l} {r = r} p q e) over = inside_joined p q l r (relation_joined l r e) over
  step_joined u v (backward {l = l} {r = r} p q e) over =
      inside_joined p q r l (JoinedSpelled-flip f (root_letters l) (root_letters r) (relation_joined l r e)) over

  -- what is joined over the field's ring is joined in the frame
  pub joined_over_ring : (u v : List (RingLetter ℕ)) → RingJoined (field_ring f.field) (length f.datum.positive) (positive_terms f.constants) u v
      → IsWordOver f (root_letters u) → JoinedSpelled f (root_letters u) (root_letters v)
  joined_over_ring u v same over = JoinedSpelled-refl f (root_letters u) over
  joined_over_ring u v (next {v = w} s d) over =
      let first = step_joined u w s over in
      let there = JoinedSpelled-over f (root_letters w) (root_letters u) (JoinedSpelled-flip f (root_letters u) (root_letters w) first) in
      JoinedSpelled-trans f (root_letters u) (root_letters w) (root_letters v) first (joined_over_ring w v d there)
