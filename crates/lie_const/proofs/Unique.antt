-- Two tables that stand for one datum are equal.
use Rattle.std.proofs.Common.{◌≡◌, ℤ, pos, neg_ℤ, ◌+ℤ◌, sym, ◌∙◌, arith, inl, ⊎_elim}
use Rattle.std.proofs.lemmas.Int.{ints}
use Rattle.lie_datum.specs.RootList.{RootDatum, IsLoaded, IsNumber}
use Rattle.lie_const.specs.StructureConstants.{Table, at_part, IsSpecial, HasSigns, IsUnique}
use Rattle.lie_const.specs.Filling.{own_pair, right_pair, left_pair}
use Rattle.lie_const.proofs.Triples.{HoldsOn, every_pair}
use Rattle.lie_const.proofs.ForcedLemmas.{sum_or, agree_closed, agree_before}

module _ (d : RootDatum) (loaded : IsLoaded d) where
  -- tables that agree at the pairs of all places agree
  pub agree_everywhere : (m n : Table) (ms : HasSigns d m) (ns : HasSigns d n) → ((r s k : ℤ) → IsSpecial d r s k → HoldsOn (λ x y. m x y ≡ n x y) r s k) → (r s : ℤ) → IsNumber d r → IsNumber d s → m r s ≡ n r s
  agree_everywhere m n ms ns special r s p q =
      ⊎_elim (λ f. every_pair d loaded (λ x y. m x y ≡ n x y) (agree_closed d loaded m n ms ns) special r s f.0 f.1)
      (λ f. ms.none r s p q f ∙ sym (ns.none r s p q f)) (sum_or d loaded r s p q)

  pub unique : IsUnique d
  unique m n a b = agree_everywhere m n a.signs b.signs (λ r s k h.
      (let last = at_part (k +ℤ pos 1) r 0 in
      let agree = agree_before d loaded m n a.signs b.signs last (λ c _. a.values c) (λ c _. b.values c) in
      record {
        own = agree (at_part k r 0) (inl (omega (arith, ints))) r s (own_pair r s k h);
        right = agree (at_part k r 1) (inl (omega (arith, ints))) s (neg_ℤ k) (right_pair r s k h);
        left = agree (at_part k r 2) (inl (omega (arith, ints))) (neg_ℤ k) r (left_pair r s k h);
      }))
