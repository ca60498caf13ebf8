-- n along any word of least length: the theorem for the roots of a setting.
use Rattle.std.proofs.Common.{◌≡◌, ℕ, suc, zero, List, [], ◌∷◌, ◌++◌, Bool, true, false, refl, sym, ◌∙◌, ap, ◌⊎◌, inl, inr, Some, length, arith, subst, append_assoc, length-append}
use Rattle.std.proofs.Math.IntN.{ℤ}
use Rattle.lie_letters.specs.Setting.{Setting}
use Rattle.lie_letters.specs.Laws.{Laws}
use Rattle.lie_letters.specs.Letters.{Word, N, H}
use Rattle.lie_bruhat.specs.WeylWords.{n_word, carried, carried_sign, moved_torus}
use Rattle.lie_letters.specs.SignedFrames.{Sign}
use Rattle.lie_bruhat.specs.SignLaws.{SignLaws}
use Rattle.lie_letters.specs.GroupRelations.{GroupJoined}
use Rattle.lie_letters.specs.Chains.{same}
use Rattle.lie_letters.proofs.ChainLemmas.{trans, flip, behind, before}
use Rattle.lie_bruhat.proofs.MoveLemmas
use Rattle.lie_bruhat.proofs.WeylLetterLemmas
use Rattle.lie_bruhat.proofs.RuleLemmas.{cons}
use Rattle.lie_letters.specs.RootSystems.{RootSystem, RootLaws}
use Rattle.lie_bruhat.proofs.InTurn.{along, backwards, IsDescent}
use Rattle.lie_bruhat.proofs.InTurn.{alternating, last_in_turn, lowered}
use Rattle.lie_bruhat.proofs.BraidLemmas.{Reduction}
use Rattle.lie_bruhat.proofs.BraidLemmas
use Rattle.lie_bruhat.proofs.RankTwoLemmas.{IsTurn}
use Rattle.lie_bruhat.proofs.ProductLemmas
use Rattle.lie_letters.specs.RootSystems.{PositiveLaws}
use Rattle.lie_bruhat.proofs.LengthLemmas.{first_of_list}
use Rattle.lie_bruhat.proofs.LengthLemmas

abbrev pub roots_of : (S : Setting) → (S.Root → S.Index → ℤ) → (S.Root → S.Root → ℤ) → RootSystem
roots_of S coefficient pairing = record {
  Root = S.Root;
  Index = S.Index;
  simple = S.simple;
  reflect = S.reflect;
  coefficient = coefficient;
  pairing = pairing;
}

module _ (S : Setting) (sign : Sign S) (laws : Laws S) (signs : SignLaws S sign) (coefficient : S.Root → S.Index → ℤ) (pairing : S.Root → S.Root → ℤ)
    (rl : RootLaws (roots_of S coefficient pairing))
    (pl : PositiveLaws (roots_of S coefficient pairing) S.opposite S.is_negative S.positives)
    (indices : List S.Index)
    (complete : (test : S.Index → Bool) (i : S.Index) → test i ≡ true → (j : S.Index) × (first_of_list test indices ≡ Some j))
    (rank_two : (i j : S.Index) → ¬ (i ≡ j)
    → (m : ℕ) × IsTurn (roots_of S coefficient pairing) rl m i j × IsTurn (roots_of S coefficient pairing) rl m j i
    × ((carried_sign S sign (alternating m i j) (S.simple (last_in_turn m i j)) ≡ S.one)
    ⊎ (carried_sign S sign (alternating m j i) (S.simple (last_in_turn m j i)) ≡ S.one))) where
  abbrev pub D : RootSystem
  D = roots_of S coefficient pairing

  pub along_carried : (p : List S.Index) (r : S.Root) → along D p r ≡ carried S p r
  along_carried [] r = refl
  along_carried (i ∷ p) r = ap (S.reflect i) (along_carried p r)

  lowered_back : (m : ℕ) (i j : S.Index) (w : List S.Index) (r : S.Root)
      → along D (backwards (lowered (λ k p. k ∷ p) m i j w)) r ≡ along D (backwards w) (along D (alternating m i j) r)
  lowered_back zero i j w r = refl
  lowered_back (suc m) i j w r =
      lowered_back m j i (i ∷ w) r
      ∙ ProductLemmas.along_append D rl (backwards w) (i ∷ []) (along D (alternating m j i) r)

  meet : (m : ℕ) (i j : S.Index) (w : List S.Index) → IsTurn D rl m i j → (r : S.Root)
      → along D (lowered (λ k p. k ∷ p) (suc m) i j w) r ≡ along D (lowered (λ k p. k ∷ p) (suc m) j i w) r
  meet m i j w turn r =
      let p : List S.Index = lowered (λ k p. k ∷ p) (suc m) i j w in
      let q : List S.Index = lowered (λ k p. k ∷ p) (suc m) j i w in
      let s = along D q r in
      let back : along D (backwards p) s ≡ along D (backwards q) s =
      lowered_back (suc m) i j w s ∙ ap (along D (backwards w)) (ProductLemmas.turns_agree D rl m i j turn s)
      ∙ sym (lowered_back (suc m) j i w s) in
      ap (along D p) (sym (ProductLemmas.back_along D rl q r)) ∙ ap (along D p) (sym back) ∙ ProductLemmas.along_back D rl p s

  -- the braid relation, by the product of signs that begins at the one root or at the other
  braided : (m : ℕ) (i j : S.Index) → IsTurn D rl m i j → IsTurn D rl m j i
      → (carried_sign S sign (alternating m i j) (S.simple (last_in_turn m i j)) ≡ S.one) ⊎ (carried_sign S sign (alternating m j i) (S.simple (last_in_turn m j i)) ≡ S.one)
      → (v : Word S) → GroupJoined S sign (n_word S (alternating (suc m) i j) ++ v) (n_word S (alternating (suc m) j i) ++ v)
  braided m i j turn turn' (inl one) v =
      BraidLemmas.braid S sign laws signs m i j v (sym (along_carried (alternating m i j) (S.simple (last_in_turn m i j))) ∙ turn.ends) one
  braided m i j turn turn' (inr one) v =
      flip (BraidLemmas.braid S sign laws signs m j i v (sym (along_carried (alternating m j i) (S.simple (last_in_turn m j i))) ∙ turn'.ends) one)

  pub reduction : Reduction S sign (List S.Index)
  reduction = record {
    left = λ i p. i ∷ p;
    length_of = LengthLemmas.length_of D rl S.opposite S.is_negative S.positives pl;
    Descent = IsDescent D;
    word = LengthLemmas.word_of D rl S.opposite S.is_negative S.positives pl indices complete;
    shorter = LengthLemmas.shorter D rl S.opposite S.is_negative S.positives pl;
    word_begins = LengthLemmas.word_begins D rl S.opposite S.is_negative S.positives pl indices complete;
    two = λ i j w di dj. elim (rl.same_index i j) [
      | inl e ↦ inl e
      | inr apart ↦
          let (m, turn, turn', one) = rank_two i j apart in
          inr (
            m,
            ProductLemmas.lowers_in_turn D rl m i j w turn di dj,
            ProductLemmas.lowers_in_turn D rl m j i w turn' dj di,
            LengthLemmas.word_same D rl S.opposite S.is_negative S.positives pl indices complete (lowered (λ k p. k ∷ p) (suc m) i j w) (lowered (λ k p. k ∷ p) (suc m) j i w) (meet m i j w turn),
            λ v. braided m i j turn turn' one v,
          )
    ];
  }

  abbrev pub long : List S.Index → ℕ
  long = LengthLemmas.length_of D rl S.opposite S.is_negative S.positives pl

  abbrev pub best : List S.Index → List S.Index
  best = LengthLemmas.word_of D rl S.opposite S.is_negative S.positives pl indices complete

  -- n along any word of least length is n along the greedy word of its product
  pub n_any_least : (p : List S.Index) → length p ≡ long p → GroupJoined S sign (n_word S p) (n_word S (best p))
  unfolding reduction
  n_any_least [] size =
      let e : best [] ≡ [] = ap (λ k. LengthLemmas.greedy D rl S.opposite S.is_negative S.positives pl indices complete k []) (sym size) in
      rw (ap (n_word S) e) same
  n_any_least (i ∷ p) size =
      step (n_any_least p) (S.is_negative (along D (backwards (i ∷ p)) (S.simple i))) refl
    where
      again : long (i ∷ i ∷ p) ≡ long p
      again = LengthLemmas.length_same D rl S.opposite S.is_negative S.positives pl (i ∷ i ∷ p) p (λ r. rl.reflect_twice i (along D p r))

      step : (length p ≡ long p → GroupJoined S sign (n_word S p) (n_word S (best p)))
          → (b : Bool) → S.is_negative (along D (backwards (i ∷ p)) (S.simple i)) ≡ b
          → GroupJoined S sign (N i ∷ n_word S p) (n_word S (best (i ∷ p)))
      step known false high =
          absurd (omega (
            arith,
            size,
            again,
            LengthLemmas.longer D rl S.opposite S.is_negative S.positives pl i (i ∷ p) high,
            LengthLemmas.length_le D rl S.opposite S.is_negative S.positives pl p,
          ))
      step known true low =
          let descent = pl.negative_is (along D (backwards (i ∷ p)) (S.simple i)) low in
          let short = LengthLemmas.shorter D rl S.opposite S.is_negative S.positives pl i (i ∷ p) descent in
          let rest = known (omega (arith, again)) in
          let e : best (i ∷ i ∷ p) ≡ best p =
          LengthLemmas.word_same D rl S.opposite S.is_negative S.positives pl indices complete (i ∷ i ∷ p) p
          (λ r. rl.reflect_twice i (along D p r)) in
          let whole = BraidLemmas.descends S sign (List S.Index) reduction (i ∷ p) i descent in
          trans (cons (N i) (rw (ap (n_word S) e) rest)) whole

  -- the greedy word has the product, and its length
  pub best_is : (n : ℕ) (p : List S.Index) → long p ≡ n
      → ((r : S.Root) → along D (best p) r ≡ along D p r) × (length (best p) ≡ n)
  best_is zero p e =
      let empty : best p ≡ [] = ap (λ k. LengthLemmas.greedy D rl S.opposite S.is_negative S.positives pl indices complete k p) e in
      let (q, alike, size) = LengthLemmas.reduced D rl S.opposite S.is_negative S.positives pl p in
      rw empty (trivial q alike (size ∙ e))
    where
      trivial : (q : List S.Index) → ((r : S.Root) → along D p r ≡ along D q r) → length q ≡ 0
          → ((r : S.Root) → r ≡ along D p r) × (◌≡◌ {A = ℕ} 0 0)
      trivial [] alike size = ((λ r. sym (alike r)), refl)
      trivial (i ∷ q) alike size = absurd (omega arith)
  best_is (suc n) p e =
      let (i, descent, begins) = LengthLemmas.word_begins D rl S.opposite S.is_negative S.positives pl indices complete p n e in
      let short = LengthLemmas.shorter D rl S.opposite S.is_negative S.positives pl i p descent in
      let (product, size) = best_is n (i ∷ p) (omega arith) in
      rw begins ((λ r. ap (S.reflect i) (product r) ∙ rl.reflect_twice i (along D p r)), ap suc size)

  -- n_w n_i = n_(w s_i), where w s_i is longer
  pub n_up : (p : List S.Index) (i : S.Index) (w : Word S) → long (p ++ (i ∷ [])) ≡ suc (long p)
      → GroupJoined S sign (n_word S (best p) ++ (N i ∷ w)) (n_word S (best (p ++ (i ∷ []))) ++ w)
  n_up p i w up =
      let (product, size) = best_is (long p) p refl in
      let q = best p ++ (i ∷ []) in
      let alike : (r : S.Root) → along D q r ≡ along D (p ++ (i ∷ [])) r = λ r.
      ProductLemmas.along_append D rl (best p) (i ∷ []) r ∙ product (S.reflect i r) ∙ sym (ProductLemmas.along_append D rl p (i ∷ []) r) in
      let size' : length q ≡ long q =
      length-append (best p) (i ∷ []) ∙ omega (arith, size, up, LengthLemmas.length_same D rl S.opposite S.is_negative S.positives pl q (p ++ (i ∷ [])) alike) in
      let best_same : best q ≡ best (p ++ (i ∷ [])) =
      LengthLemmas.word_same D rl S.opposite S.is_negative S.positives pl indices complete q (p ++ (i ∷ [])) alike in
      let whole = before w (n_any_least q size') in
      let left : n_word S q ++ w ≡ n_word S (best p) ++ (N i ∷ w) =
      ap (λ u. u ++ w) (BraidLemmas.n_word-append S (best p) (i ∷ [])) ∙ append_assoc (n_word S (best p)) (N i ∷ []) w in
      subst (λ u. GroupJoined S sign u (n_word S (best (p ++ (i ∷ []))) ++ w)) left
      (subst (λ k. GroupJoined S sign (n_word S q ++ w) (n_word S k ++ w)) best_same whole)

  -- n_w n_i = h n_(w s_i), where w s_i is shorter
  pub n_down : (p : List S.Index) (i : S.Index) (w : Word S) → long p ≡ suc (long (p ++ (i ∷ [])))
      → GroupJoined S sign (n_word S (best p) ++ (N i ∷ w))
      (H (moved_torus S (best (p ++ (i ∷ []))) (S.coroot i (S.neg S.one))) ∷ (n_word S (best (p ++ (i ∷ []))) ++ w))
  n_down p i w down =
      let q = p ++ (i ∷ []) in
      let alike : (r : S.Root) → along D (q ++ (i ∷ [])) r ≡ along D p r = λ r.
      ProductLemmas.along_append D rl q (i ∷ []) r ∙ ProductLemmas.along_append D rl p (i ∷ []) (S.reflect i r) ∙ ap (along D p) (rl.reflect_twice i r) in
      let up : long (q ++ (i ∷ [])) ≡ suc (long q) =
      LengthLemmas.length_same D rl S.opposite S.is_negative S.positives pl (q ++ (i ∷ [])) p alike ∙ down in
      let best_same : best (q ++ (i ∷ [])) ≡ best p =
      LengthLemmas.word_same D rl S.opposite S.is_negative S.positives pl indices complete (q ++ (i ∷ [])) p alike in
      let open_up = subst (λ k. GroupJoined S sign (n_word S (best q) ++ (N i ∷ N i ∷ w)) (n_word S k ++ (N i ∷ w))) best_same (n_up q i (N i ∷ w) up) in
      trans (flip open_up)
      (trans (behind (n_word S (best q)) (WeylLetterLemmas.n_n S sign laws i w)) (MoveLemmas.n_past_torus S sign laws (best q) (S.coroot i (S.neg S.one)) w))
