-- The facts that the Bruhat product rests on, from the laws of the roots and from the collector's splits.
use Rattle.std.proofs.Common.{◌≡◌, ℕ, ◌<◌, List, [], ◌∷◌, ◌++◌, Bool, true, false, refl, sym, ◌∙◌, ap, subst, length, arith, ◌⊎◌, inl, inr, Some}
use Rattle.std.proofs.Math.IntN.{ℤ}
use Rattle.lie_letters.specs.Setting.{Setting}
use Rattle.lie_letters.specs.Laws.{Laws}
use Rattle.lie_bruhat.specs.WeylWords.{n_word, carried, carried_sign}
use Rattle.lie_letters.specs.SignedFrames.{Sign}
use Rattle.lie_letters.specs.GroupRelations.{GroupJoined}
use Rattle.lie_letters.specs.RootSystems.{RootSystem, RootLaws}
use Rattle.lie_bruhat.proofs.InTurn.{along}
use Rattle.lie_bruhat.proofs.InTurn.{alternating, last_in_turn}
use Rattle.lie_bruhat.proofs.RankTwoLemmas.{IsTurn}
use Rattle.lie_bruhat.proofs.ProductLemmas
use Rattle.lie_letters.specs.RootSystems.{PositiveLaws}
use Rattle.lie_bruhat.proofs.LengthLemmas.{first_of_list}
use Rattle.lie_bruhat.proofs.LengthLemmas
use Rattle.lie_bruhat.proofs.RightLemmas
use Rattle.lie_bruhat.proofs.LeastWordLemmas.{roots_of}
use Rattle.lie_bruhat.proofs.LeastWordLemmas
use Rattle.lie_bruhat.specs.SignLaws.{SignLaws}
use Rattle.lie_bruhat.proofs.ShapeLemmas.{BruhatFacts, IsShort}
use Rattle.lie_letters.proofs.ChainLemmas.{before}
use Rattle.lie_bruhat.proofs.SplitLemmas.{Splits, split_first, split_last}

module _ (S : Setting) (sign : Sign S) (laws : Laws S) (signs : SignLaws S sign) (coefficient : S.Root → S.Index → ℤ) (pairing : S.Root → S.Root → ℤ)
    (rl : RootLaws (roots_of S coefficient pairing))
    (pl : PositiveLaws (roots_of S coefficient pairing) S.opposite S.is_negative S.positives)
    (indices : List S.Index)
    (complete : (test : S.Index → Bool) (i : S.Index) → test i ≡ true → (j : S.Index) × (first_of_list test indices ≡ Some j))
    (rank_two : (i j : S.Index) → ¬ (i ≡ j)
    → (m : ℕ) × IsTurn (roots_of S coefficient pairing) rl m i j × IsTurn (roots_of S coefficient pairing) rl m j i
    × ((carried_sign S sign (alternating m i j) (S.simple (last_in_turn m i j)) ≡ S.one)
    ⊎ (carried_sign S sign (alternating m j i) (S.simple (last_in_turn m j i)) ≡ S.one)))
    (splits : Splits S sign)
    (zero_or_not : (a : S.Elem) → (a ≡ S.zero) ⊎ (¬ (a ≡ S.zero)))
    (reflect_positive : (i : S.Index) (r : S.Root) → S.is_negative r ≡ false → ¬ (r ≡ S.simple i) → S.is_negative (S.reflect i r) ≡ false)
    (depth : S.Root → ℕ)
    (nearer : (r : S.Root) → S.is_negative r ≡ true
    → (i : S.Index) × ((r ≡ S.opposite (S.simple i)) ⊎ ((S.is_negative (S.reflect i r) ≡ true) × (depth (S.reflect i r) < depth r)))) where
  abbrev D : RootSystem
  D = roots_of S coefficient pairing

  -- w s_i sends a_i to the opposite of what w sends it to
  turned : (p : List S.Index) (i : S.Index) → along D (p ++ (i ∷ [])) (S.simple i) ≡ S.opposite (along D p (S.simple i))
  turned p i =
      ProductLemmas.along_append D rl p (i ∷ []) (S.simple i) ∙ ap (along D p) (pl.reflect_simple i)
      ∙ LengthLemmas.along_opposite D rl S.opposite S.is_negative S.positives pl p (S.simple i)

  up_or_down : (i : S.Index) (p : List S.Index) (b : Bool) → S.is_negative (along D p (S.simple i)) ≡ b
      → (S.is_negative (along D p (S.simple i)) ≡ false) ⊎ (S.is_negative (along D (p ++ (i ∷ [])) (S.simple i)) ≡ false)
  up_or_down i p false e = inl e
  up_or_down i p true e = inr (ap S.is_negative (turned p i) ∙ pl.negative_opposite (along D p (S.simple i)) e)

  down : (i : S.Index) (p : List S.Index) → S.is_negative (along D (p ++ (i ∷ [])) (S.simple i)) ≡ false
      → S.is_negative (along D p (S.simple i)) ≡ true
  down i p e =
      let r = along D p (S.simple i) in
      let back : r ≡ S.opposite (along D (p ++ (i ∷ [])) (S.simple i)) = sym (pl.opposite_twice r) ∙ ap S.opposite (sym (turned p i)) in
      ap S.is_negative back ∙ pl.positive_opposite (along D (p ++ (i ∷ [])) (S.simple i)) e

  abbrev best : List S.Index → List S.Index
  best = LeastWordLemmas.best S sign laws signs coefficient pairing rl pl indices complete rank_two

  abbrev long : List S.Index → ℕ
  long = LeastWordLemmas.long S sign laws signs coefficient pairing rl pl indices complete rank_two

  along_carried : (p : List S.Index) (r : S.Root) → along D p r ≡ carried S p r
  along_carried = LeastWordLemmas.along_carried S sign laws signs coefficient pairing rl pl indices complete rank_two

  -- a short word has as many letters as its length
  short_long : (q : List S.Index) → IsShort S q → length q ≡ long q
  short_long q short =
      let (v, same, size) = LengthLemmas.reduced D rl S.opposite S.is_negative S.positives pl q in
      let below = LengthLemmas.length_le D rl S.opposite S.is_negative S.positives pl q in
      let above = short v (λ r. sym (along_carried v r) ∙ sym (same r) ∙ along_carried q r) in
      omega (arith, below, above, size)

  pub bruhat_facts : BruhatFacts S sign
  bruhat_facts = record {
    best = best;
    best_none =
        let none = LengthLemmas.length_le D rl S.opposite S.is_negative S.positives pl [] in
        let zero : long [] ≡ 0 = omega (arith, none) in
        ap (λ k. LengthLemmas.greedy D rl S.opposite S.is_negative S.positives pl indices complete k []) zero;
    best_product = λ p r.
        sym (along_carried (best p) r)
        ∙ (LeastWordLemmas.best_is S sign laws signs coefficient pairing rl pl indices complete rank_two (long p) p refl).0 r ∙ along_carried p r;
    n_best = λ p q same short w.
        let alike = LengthLemmas.word_same D rl S.opposite S.is_negative S.positives pl indices complete q p (λ r. along_carried q r ∙ sym (same r) ∙ sym (along_carried p r)) in
        subst (λ k. GroupJoined S sign (n_word S q ++ w) (n_word S k ++ w)) alike
        (before w (LeastWordLemmas.n_any_least S sign laws signs coefficient pairing rl pl indices complete rank_two q (short_long q short)));
    Up = λ i p. S.is_negative (along D p (S.simple i)) ≡ false;
    up_or_down = λ i p. up_or_down i p (S.is_negative (along D p (S.simple i))) refl;
    up_positive = λ i p up.
        let (product, size) = LeastWordLemmas.best_is S sign laws signs coefficient pairing rl pl indices complete rank_two
        (LeastWordLemmas.long S sign laws signs coefficient pairing rl pl indices complete rank_two p) p refl in
        ap S.is_negative (sym (LeastWordLemmas.along_carried S sign laws signs coefficient pairing rl pl indices complete rank_two
        (LeastWordLemmas.best S sign laws signs coefficient pairing rl pl indices complete rank_two p) (S.simple i)) ∙ product (S.simple i)) ∙ up;
    n_up = λ i p up w. LeastWordLemmas.n_up S sign laws signs coefficient pairing rl pl indices complete rank_two p i w
        (RightLemmas.changes D rl S.opposite S.is_negative S.positives pl i p false up);
    n_down = λ i p up w. LeastWordLemmas.n_down S sign laws signs coefficient pairing rl pl indices complete rank_two p i w
        (RightLemmas.changes D rl S.opposite S.is_negative S.positives pl i p true (down i p up));
    split_first = λ i. split_first S sign laws pl.same_root splits (S.simple i);
    split_last = λ i. split_last S sign laws pl.same_root splits (S.simple i);
    reflect_positive = reflect_positive;
    simple_positive = pl.simple_positive;
    reflect_twice = rl.reflect_twice;
    reflect_simple = pl.reflect_simple;
    character_inv = λ r t. sym (laws.character_mul r t (S.torus_inv t)) ∙ ap (S.character r) (laws.torus_mul_inv t) ∙ laws.character_one r;
    depth = depth;
    nearer = nearer;
    zero_or_not = zero_or_not;
  }
