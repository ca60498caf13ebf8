-- What an equation of the order of determination reads: values at places before its own. So two tables that agree there have
-- the same equation, and where it holds in both, the same value.
use Rattle.std.proofs.Common.{◌≡◌, ◌≢◌, ◌+◌, ℤ, pos, neg_ℤ, ◌+ℤ◌, ◌*ℤ◌, ◌≤ℤ◌, ◌<ℤ◌, refl, sym, ap, subst, ◌∙◌, arith, ◌⊎◌, inl, inr, ⊎_elim}
use Rattle.std.proofs.lemmas.Int.{ints, by_lt_z}
use Rattle.lie_datum.specs.Vectors.{plus}
use Rattle.lie_datum.specs.RootList.{RootDatum, IsLoaded, IsNumber, root_of}
use Rattle.lie_base.proofs.Whole.{mul-one}
use Rattle.lie_datum.proofs.NormBound.{product_positive}
use Rattle.lie_datum.proofs.SignedRoots.{root_is, number_is}
use Rattle.lie_const.specs.StructureConstants.{Table, coeffs_of, IsSum, IsSpecial, IsExtraspecial, norm, gap, Place, Precedes, at_part, IsForced, extra, own, right, left, HasSigns, HoldsAt}
use Rattle.lie_const.specs.Filling.{IsPairAt, own_pair, right_pair, left_pair}
use Rattle.lie_const.proofs.SumLemmas.{neg_neg, neg_number, sum_swap, sum_turn, left_before, compare_numbers}
use Rattle.lie_const.proofs.Triples.{IsClosed, HoldsOn, mixed_pair}
use Rattle.lie_const.proofs.Decisions.{root_or, string_exists, extraspecial_exists, same_part}
use Rattle.lie_const.proofs.Norms.{norm_positive, gap_positive, cancel}
use Rattle.lie_const.proofs.PlaceLemmas.{Precedes-trans, place_induction, special_positive, second_before}

module _ (d : RootDatum) (loaded : IsLoaded d) where
  -- a sum, or none
  pub sum_or : (p q : ℤ) → IsNumber d p → IsNumber d q → ((k : ℤ) × IsSum d p q k) ⊎ ((k : ℤ) → ¬ IsSum d p q k)
  sum_or p q m n = ⊎_elim
      (λ f. (let t = number_is d loaded f.0 f.1 in inl (t.0, record { left = m; right = n; number = t.1; is = ap (λ z. z.coeffs) t.2 ∙ f.2 })))
      (λ f. inr (λ k h. f (root_of d k, root_is d loaded k h.number, h.is))) (root_or d loaded (plus (coeffs_of d p) (coeffs_of d q)))

  -- a sum has one extraspecial pair
  pub one_extraspecial : (r s r' s' k : ℤ) → IsExtraspecial d r s k → IsExtraspecial d r' s' k → (r ≡ r') × (s ≡ s')
  one_extraspecial r s r' s' k x y =
      let l = x.first r' s' y.special in
      let m = y.first r s x.special in
      let e : r ≡ r' = omega (arith, ints, l, m) in
      (e, second_of r s s' k x.special.sum (subst (λ t. IsSum d t s' k) (sym e) y.special.sum))
    where
      second_of : (r s s' k : ℤ) → IsSum d r s k → IsSum d r s' k → s ≡ s'
      second_of r s s' k h g = same_part d loaded r k s s' h (sum_turn d loaded s' r k (sum_swap d loaded r s' k g))

  -- the special pair of a first root and a sum
  pub one_second : (r s s' k : ℤ) → IsSpecial d r s k → IsSpecial d r s' k → s ≡ s'
  one_second r s s' k h g = same_part d loaded r k s s' h.sum (sum_turn d loaded s' r k (sum_swap d loaded r s' k g.sum))

  -- a special pair is the extraspecial one, or another
  pub extraspecial_or : (r s k : ℤ) → IsSpecial d r s k → IsExtraspecial d r s k ⊎ ((r0 : ℤ) × (s0 : ℤ) × IsExtraspecial d r0 s0 k × (r0 <ℤ r))
  extraspecial_or r s k h =
      let x = extraspecial_exists d loaded r s k h in
      ⊎_elim (λ l. inr (x.0, x.1, x.2, l))
      (λ f. ⊎_elim (λ l. absurd (let g = x.2.first r s h in omega (arith, ints, l, g)))
      (λ e. inl (record { special = h; first = λ r' s' g. subst (λ t. t ≤ℤ r') e (x.2.first r' s' g) })) f) (compare_numbers x.0 r)

  module _ (m n : Table) (ms : HasSigns d m) (ns : HasSigns d n) where
    abbrev pub Agree : ℤ → ℤ → Type 0
    Agree r s = m r s ≡ n r s

    -- the tables agree at the pair of a place
    abbrev pub AgreeAt : Place → Type 0
    AgreeAt at = (p q : ℤ) → IsPairAt d at p q → Agree p q

    pub agree_closed : IsClosed d Agree
    agree_closed = record {
      swapped = λ r s a b o e. ms.swapped r s a b ∙ ap neg_ℤ e ∙ sym (ns.swapped r s a b);
      opposite = λ r s a b o e. ms.opposite r s a b ∙ ap neg_ℤ e ∙ sym (ns.opposite r s a b);
    }

    -- where they agree at a special pair and its mixed pairs, they agree
    agree_special : (at : Place) → ((c : Place) → Precedes c at → AgreeAt c) → (r s j : ℤ) → IsSpecial d r s j → j <ℤ at.sum → HoldsOn Agree r s j
    agree_special at before r s j h l = record {
      own = before (at_part j r 0) (inl l) r s (own_pair r s j h);
      right = before (at_part j r 1) (inl l) s (neg_ℤ j) (right_pair r s j h);
      left = before (at_part j r 2) (inl l) (neg_ℤ j) r (left_pair r s j h);
    }

    -- a positive and a negative root, where the sums in question are known
    agree_mixed : (known : ℤ → Type 0) → ((r s k : ℤ) → IsSpecial d r s k → known k → HoldsOn Agree r s k) → (p q : ℤ) → IsNumber d p → IsNumber d q → q ≢ neg_ℤ p → pos 0 <ℤ p → q <ℤ pos 0 → known p → known (neg_ℤ q) → Agree p q
    agree_mixed known special p q a b o l h u v = ⊎_elim (λ f. mixed_pair d loaded Agree agree_closed known special p q f.0 f.1 l h u v) (λ f. ms.none p q a b f ∙ sym (ns.none p q a b f)) (sum_or p q a b)

    -- what the equation of a special pair beside the extraspecial one reads
    module _ (k : ℤ) (before : (r s j : ℤ) → IsSpecial d r s j → j <ℤ k → HoldsOn Agree r s j) where
      -- a root before the sum, and another that is taken away
      mixed : (u v : ℤ) → IsNumber d u → IsNumber d v → v ≢ u → pos 0 <ℤ u → pos 0 <ℤ v → u <ℤ k → v <ℤ k → Agree u (neg_ℤ v)
      mixed u v a b o p q l h = agree_mixed (λ j. j <ℤ k) before u (neg_ℤ v) a (neg_number d loaded v b) (λ e. o (sym (neg_neg v) ∙ ap neg_ℤ e ∙ neg_neg u)) p (omega (arith, ints, q)) l (subst (λ t. t <ℤ k) (sym (neg_neg v)) h)

      mixed_back : (v u : ℤ) → IsNumber d v → IsNumber d u → v ≢ u → pos 0 <ℤ v → pos 0 <ℤ u → v <ℤ k → u <ℤ k → Agree (neg_ℤ v) u
      mixed_back v u b a o q p h l = agree_closed.swapped u (neg_ℤ v) a (neg_number d loaded v b) (λ e. o (sym (neg_neg v) ∙ ap neg_ℤ e ∙ neg_neg u)) (mixed u v a b o p q l h)

      pub own_same : (r s r0 s0 : ℤ) → IsSpecial d r s k → IsExtraspecial d r0 s0 k → r0 ≢ r →
          norm d k *ℤ (m s (neg_ℤ r0) *ℤ m r (neg_ℤ s0) *ℤ gap d r r0 +ℤ m (neg_ℤ r0) r *ℤ m s (neg_ℤ s0) *ℤ gap d s r0)
          ≡ norm d k *ℤ (n s (neg_ℤ r0) *ℤ n r (neg_ℤ s0) *ℤ gap d r r0 +ℤ n (neg_ℤ r0) r *ℤ n s (neg_ℤ s0) *ℤ gap d s r0)
      own_same r s r0 s0 h x o =
          let e = x.special in
          let first : r0 <ℤ r = let l = x.first r s h in by_lt_z r0 r (λ f. f) (λ f. absurd (o (omega (arith, ints, l, f)))) in
          let rs = h.before in
          let r_positive = h.positive in
          let s_positive = special_positive d loaded r s k h in
          let s0_positive = special_positive d loaded r0 s0 k e in
          let a = mixed s r0 h.sum.right e.sum.left (λ f. absurd (omega (arith, ints, f, first, rs))) s_positive e.positive (second_before d loaded r s k h) (left_before d loaded r0 s0 k e.sum e.positive s0_positive) in
          let b = mixed r s0 h.sum.left e.sum.right (λ f. (let same = same_part d loaded r k s r0 h.sum (sum_turn d loaded r0 r k (subst (λ t. IsSum d r0 t k) f e.sum)) in absurd (omega (arith, ints, same, first, rs)))) r_positive s0_positive (left_before d loaded r s k h.sum r_positive s_positive) (second_before d loaded r0 s0 k e) in
          let c = mixed_back r0 r e.sum.left h.sum.left (λ f. absurd (omega (arith, ints, f, first))) e.positive r_positive (left_before d loaded r0 s0 k e.sum e.positive s0_positive) (left_before d loaded r s k h.sum r_positive s_positive) in
          let f = mixed s s0 h.sum.right e.sum.right (λ g. (let same = same_part d loaded s k r r0 (sum_swap d loaded r s k h.sum) (sum_turn d loaded r0 s k (subst (λ t. IsSum d r0 t k) g e.sum)) in absurd (omega (arith, ints, same, first)))) s_positive s0_positive (second_before d loaded r s k h) (second_before d loaded r0 s0 k e) in
          let big = gap d s r0 in
          let small = gap d r r0 in
          ap (λ t. norm d k *ℤ (t *ℤ m r (neg_ℤ s0) *ℤ small +ℤ m (neg_ℤ r0) r *ℤ m s (neg_ℤ s0) *ℤ big)) a
          ∙ ap (λ t. norm d k *ℤ (n s (neg_ℤ r0) *ℤ t *ℤ small +ℤ m (neg_ℤ r0) r *ℤ m s (neg_ℤ s0) *ℤ big)) b
          ∙ ap (λ t. norm d k *ℤ (n s (neg_ℤ r0) *ℤ n r (neg_ℤ s0) *ℤ small +ℤ t *ℤ m s (neg_ℤ s0) *ℤ big)) c
          ∙ ap (λ t. norm d k *ℤ (n s (neg_ℤ r0) *ℤ n r (neg_ℤ s0) *ℤ small +ℤ n (neg_ℤ r0) r *ℤ t *ℤ big)) f

    -- tables that agree before a place have one equation there
    pub forced_same : (at : Place) (r s a e : ℤ) → IsForced d n at r s a e → ((c : Place) → Precedes c at → AgreeAt c) → IsForced d m at r s a e
    forced_same _ _ _ _ _ (extra r s k p q x t) before = extra r s k p q x t
    forced_same _ _ _ _ _ (own r s k r0 s0 h x o) before =
        let l = x.first r s h in
        let first : r0 <ℤ r = by_lt_z r0 r (λ f. f) (λ f. absurd (o (omega (arith, ints, l, f)))) in
        let g = before (at_part k r0 0) (inr (inl (refl, first))) r0 s0 (own_pair r0 s0 k x.special) in
        let big = gap d s r0 in
        let small = gap d r r0 in
        subst (λ t. IsForced d m (at_part k r 0) r s t (norm d k *ℤ (n s (neg_ℤ r0) *ℤ n r (neg_ℤ s0) *ℤ small +ℤ n (neg_ℤ r0) r *ℤ n s (neg_ℤ s0) *ℤ big))) (ap (λ t. t *ℤ big *ℤ small) g)
        (subst (λ t. IsForced d m (at_part k r 0) r s (m r0 s0 *ℤ big *ℤ small) t) (own_same k (agree_special (at_part k r 0) before) r s r0 s0 h x o) (own r s k r0 s0 h x o))
    forced_same _ _ _ _ _ (right r s k h) before =
        subst (λ t. IsForced d m (at_part k r 1) s (neg_ℤ k) (norm d k) (t *ℤ norm d r)) (before (at_part k r 0) (inr (inr (refl, refl, omega arith))) r s (own_pair r s k h)) (right r s k h)
    forced_same _ _ _ _ _ (left r s k h) before =
        subst (λ t. IsForced d m (at_part k r 2) (neg_ℤ k) r (norm d k) (t *ℤ norm d s)) (before (at_part k r 0) (inr (inr (refl, refl, omega arith))) r s (own_pair r s k h)) (left r s k h)

  -- the value of an extraspecial pair is positive
  pub extra_positive : (n : Table) (r s k : ℤ) → IsExtraspecial d r s k → HoldsAt d n (at_part k r 0) → pos 0 <ℤ n r s
  extra_positive n r s k x h =
      let t = string_exists d loaded r s x.special.sum.left x.special.sum.right in
      let e = sym (mul-one (n r s)) ∙ (h r s (pos 1) (pos (t.0 + 1)) (extra r s k t.0 t.1 x t.2)).0 in
      omega (arith, ints, e)

  -- the pair of a place has an equation there, with a positive factor where the places before hold
  pub forced_exists : (n : Table) (at : Place) (p q : ℤ) → IsPairAt d at p q → ((c : Place) → Precedes c at → HoldsAt d n c) → (a : ℤ) × (e : ℤ) × (pos 0 <ℤ a) × IsForced d n at p q a e
  forced_exists n _ _ _ (own_pair r s k h) before =
      ⊎_elim (λ x. (let t = string_exists d loaded r s h.sum.left h.sum.right in (pos 1, pos (t.0 + 1), omega (arith, ints), extra r s k t.0 t.1 x t.2)))
      (λ x. (let l = x.3 in
      let g = extra_positive n x.0 x.1 k x.2 (before (at_part k x.0 0) (inr (inl (refl, l)))) in (
        n x.0 x.1 *ℤ gap d s x.0 *ℤ gap d r x.0,
        norm d k *ℤ (n s (neg_ℤ x.0) *ℤ n r (neg_ℤ x.1) *ℤ gap d r x.0 +ℤ n (neg_ℤ x.0) r *ℤ n s (neg_ℤ x.1) *ℤ gap d s x.0),
        product_positive (n x.0 x.1 *ℤ gap d s x.0) (gap d r x.0) (product_positive (n x.0 x.1) (gap d s x.0) g (gap_positive d loaded _)) (gap_positive d loaded _),
        own r s k x.0 x.1 h x.2 (λ e. absurd (omega (arith, ints, l, e))),
      ))) (extraspecial_or r s k h)
  forced_exists n _ _ _ (right_pair r s k h) before = (norm d k, n r s *ℤ norm d r, norm_positive d loaded k h.sum.number, right r s k h)
  forced_exists n _ _ _ (left_pair r s k h) before = (norm d k, n r s *ℤ norm d s, norm_positive d loaded k h.sum.number, left r s k h)

  module _ (m n : Table) (ms : HasSigns d m) (ns : HasSigns d n) (at : Place) (mh : (c : Place) → Precedes c at → HoldsAt d m c) (nh : (c : Place) → Precedes c at → HoldsAt d n c) where
    -- two tables that hold before a place agree there
    pub agree_before : (c : Place) → Precedes c at → AgreeAt m n ms ns c
    agree_before = place_induction (λ c. Precedes c at → AgreeAt m n ms ns c) (λ c o l p q h. absurd (none c p q h o)) step
      where
        outside : (r s k : ℤ) → IsSpecial d r s k → (k ≤ℤ pos 0) ⊎ (r ≤ℤ pos 0) → ⊥
        outside r s k h o = let a = h.positive in let b = special_positive d loaded r s k h in let e = second_before d loaded r s k h in ⊎_elim (λ l. omega (arith, ints, l, b, e)) (λ l. omega (arith, ints, a, l)) o

        none : (c : Place) (p q : ℤ) → IsPairAt d c p q → (c.sum ≤ℤ pos 0) ⊎ (c.first ≤ℤ pos 0) → ⊥
        none _ _ _ (own_pair r s k h) o = outside r s k h o
        none _ _ _ (right_pair r s k h) o = outside r s k h o
        none _ _ _ (left_pair r s k h) o = outside r s k h o

        step : (c : Place) → ((b : Place) → Precedes b c → Precedes b at → AgreeAt m n ms ns b) → Precedes c at → AgreeAt m n ms ns c
        step c before l p q h =
            let agree : (b : Place) → Precedes b c → AgreeAt m n ms ns b = λ b k. before b k (Precedes-trans b c at k l) in
            let f = forced_exists n c p q h (λ b k. nh b (Precedes-trans b c at k l)) in
            cancel (m p q) (n p q) f.0 f.2 ((mh c l p q f.0 f.1 (forced_same m n ms ns c p q f.0 f.1 f.3 agree)).0 ∙ sym ((nh c l p q f.0 f.1 f.3).0))
