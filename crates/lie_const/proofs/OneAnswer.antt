-- A datum has one answer of `load`, want of memory aside: its cases exclude one another.
use Rattle.std.proofs.Common.{◌≡◌, ℕ, zero, suc, ◌+◌, ◌*◌, ◌<◌, ℤ, pos, negsuc, neg_ℤ, ◌*ℤ◌, List, [], ◌∷◌, length, Option, Some, slice_get, Ok, Err, refl, sym, ap, subst, ◌∙◌, arith, ◌⊎◌, inl, inr, ⊎_elim}
use Rattle.std.proofs.lemmas.Int.{ints}
use Rattle.std.specs.List.{AllZip}
use Rattle.lie_datum.specs.Vectors.{Vector, plus, times}
use Rattle.lie_datum.specs.Numbers.{place}
use Rattle.lie_datum.specs.RootList.{RootDatum, IsLoaded, IsNumber}
use Rattle.lie_datum.proofs.Entries.{within_or_past}
use Rattle.lie_datum.proofs.NumberLemmas.{place_within}
use Rattle.lie_datum.proofs.SignedRoots.{same_place}
use Rattle.lie_const.specs.declared.term.Term.{Term}
use Rattle.lie_const.specs.declared.faults.ConstFault.TheVariants.{NoMemory, Constant, Fraction}
use Rattle.lie_const.specs.StructureConstants.{Table, coeffs_of, Place, Precedes, IsForced, HasSigns, HoldsAt, StandsFor, IsFirstFailure}
use Rattle.lie_const.specs.CommutatorTerms.{string_product, sign, factorial, coefficient, IsValue, IsFraction, IsPair, IsTerm, AreTerms, IsFirstFraction, term_exponents, value_at, number_of}
use Rattle.lie_const.specs.ConstantTables.{ConstantTable, value_of, terms_of, LoadsOneWay}
use Rattle.lie_base.proofs.RingSolver.{ring, var, neg, ◌⊗◌}
use Rattle.lie_const.proofs.PlaceLemmas.{compare_places, Precedes-trans, pair_sum}
use Rattle.lie_const.proofs.FoundRoots.{number_of_or}
use Rattle.lie_const.proofs.ChainLemmas.{value_absent_left, value_absent_right, value_is, value_opposite, equal_or}
use Rattle.lie_const.proofs.Norms.{cancel}
use Rattle.lie_const.proofs.ForcedLemmas.{agree_before, forced_same}
use Rattle.lie_const.proofs.PutLemmas.{IsSameEquation, one_equation, forced_pair}
use Rattle.lie_const.proofs.Decisions.{string_exists}
use Rattle.lie_const.proofs.Unique.{unique}
use Rattle.lie_const.proofs.SameTerms.{same_coefficient, one_terms}
use Rattle.lie_const.proofs.TermLemmas.{valued}

-- ---- the first failure is one, and none comes where a table stands
module _ (d : RootDatum) (loaded : IsLoaded d) where
  -- a table that holds up to the place of a failure excludes it
  failure_excluded : (n : Table) (r s a e : ℤ) → (f : IsFirstFailure d r s a e) → HasSigns d n → ((c : Place) → Precedes c f.at → HoldsAt d n c) → HoldsAt d n f.at → ⊥
  failure_excluded n r s a e f signs before here =
      let same = forced_same d loaded n f.table signs f.signs f.at r s a e f.forced (agree_before d loaded n f.table signs f.signs f.at before f.before) in
      let h = here r s a e same in
      let z = pair_sum d loaded f.at r s (forced_pair d f.table f.at r s a e f.forced) in
      let t = string_exists d loaded r s z.1.left z.1.right in
      let g = f.fails t.0 t.1 t.2 in
      ⊎_elim (λ k. g.0 (sym h.0 ∙ ap (λ v. v *ℤ a) k)) (λ k. g.1 (sym h.0 ∙ ap (λ v. v *ℤ a) k ∙ opposite (pos (t.0 + 1)) a)) (h.1 t.0 t.1 t.2)
    where
      opposite : (x y : ℤ) → neg_ℤ x *ℤ y ≡ neg_ℤ (x *ℤ y)
      opposite x y = ring (x ∷ (y ∷ [])) (neg (var 0) ⊗ var 1) (neg (var 0 ⊗ var 1)) refl

  none_fails : (n : Table) → StandsFor d n → (r s a e : ℤ) → IsFirstFailure d r s a e → ⊥
  none_fails n stands r s a e f = failure_excluded n r s a e f stands.signs (λ c _. stands.values c) (stands.values f.at)

  one_failure : (r s a e r' s' a' e' : ℤ) → IsFirstFailure d r s a e → IsFirstFailure d r' s' a' e' → IsSameEquation r s a e r' s' a' e'
  one_failure r s a e r' s' a' e' f g = by (compare_places f.at g.at)
    where
      by : Precedes f.at g.at ⊎ (Precedes g.at f.at ⊎ (f.at ≡ g.at)) → IsSameEquation r s a e r' s' a' e'
      by (inl l) = absurd (failure_excluded g.table r s a e f g.signs (λ c k. g.before c (Precedes-trans c f.at g.at k l)) (g.before f.at l))
      by (inr (inl l)) = absurd (failure_excluded f.table r' s' a' e' g f.signs (λ c k. f.before c (Precedes-trans c g.at f.at k l)) (f.before g.at l))
      by (inr (inr p)) =
          let before : (c : Place) → Precedes c f.at → HoldsAt d g.table c = λ c k. g.before c (subst (Precedes c) p k) in
          let there = subst (λ t. IsForced d g.table t r' s' a' e') (sym p) g.forced in
          let same = forced_same d loaded f.table g.table f.signs g.signs f.at r' s' a' e' there (agree_before d loaded f.table g.table f.signs g.signs f.at f.before before) in
          one_equation d loaded f.table f.at r s a e r' s' a' e' f.forced same

  -- ---- a coefficient is whole by all tables or by none
  module _ (m n : Table) (ms : StandsFor d m) (ns : StandsFor d n) where
    fraction_same : (r s : ℤ) (e : ℕ × ℕ) → IsFraction d m r s e → IsFraction d n r s e
    fraction_same r s e f c h = f c (subst (IsValue c) (sym (same_coefficient d loaded m n ms ns (coeffs_of d r) (coeffs_of d s) e.0 e.1)) h)

    -- the first that is not whole is one
    one_fraction : (r s r' s' : ℤ) (i j i' j' : ℕ) → IsFirstFraction d m r s i j → IsFirstFraction d n r' s' i' j' → (r ≡ r') × (s ≡ s') × ◌≡◌ {A = ℕ × ℕ} (i, j) (i', j')
    one_fraction r s r' s' i j i' j' f g =
        ⊎_elim (λ l. absurd (g.earlier_pairs r s f.term (i, j) f.pair (inl l) f.exponents (fraction_same r s (i, j) f.fraction)))
        (λ l. ⊎_elim (λ k. absurd (f.earlier_pairs r' s' g.term (i', j') g.pair (inl k) g.exponents (back r' s' (i', j') g.fraction)))
        (λ k. first (same_place (length d.positive) r r' (place_within d r f.pair.left) (place_within d r' g.pair.left) (omega (arith, l, k)))) (within_or_past (place (length d.positive) r') (place (length d.positive) r))) (within_or_past (place (length d.positive) r) (place (length d.positive) r'))
      where
        back : (r s : ℤ) (e : ℕ × ℕ) → IsFraction d n r s e → IsFraction d m r s e
        back r s e f c h = f c (subst (IsValue c) (same_coefficient d loaded m n ms ns (coeffs_of d r) (coeffs_of d s) e.0 e.1) h)

        third : (p : r ≡ r') (q : s ≡ s') → ◌≡◌ {A = ℕ × ℕ} (i, j) (i', j')
        third p q =
            let there : slice_get (term_exponents d r s) g.term ≡ Some (i', j') = ap (λ t. slice_get (term_exponents d t s) g.term) p ∙ ap (λ t. slice_get (term_exponents d r' t) g.term) q ∙ g.exponents in
            let here : slice_get (term_exponents d r' s') f.term ≡ Some (i, j) = ap (λ t. slice_get (term_exponents d t s') f.term) (sym p) ∙ ap (λ t. slice_get (term_exponents d r t) f.term) (sym q) ∙ f.exponents in
            ⊎_elim (λ l. absurd (g.earlier_terms f.term (i, j) l here (subst (λ t. IsFraction d n t s' (i, j)) p (subst (λ t. IsFraction d n r t (i, j)) q (fraction_same r s (i, j) f.fraction)))))
            (λ l. ⊎_elim (λ k. absurd (f.earlier_terms g.term (i', j') k there (subst (λ t. IsFraction d m t s (i', j')) (sym p) (subst (λ t. IsFraction d m r' t (i', j')) (sym q) (back r' s' (i', j') g.fraction)))))
            (λ k. (let e : f.term ≡ g.term = omega (arith, l, k) in let w = sym f.exponents ∙ ap (slice_get (term_exponents d r s)) e ∙ there in some_same (i, j) (i', j') w)) (within_or_past g.term f.term)) (within_or_past f.term g.term)
          where
            some_same : (a b : ℕ × ℕ) → ◌≡◌ {A = Option (ℕ × ℕ)} (Some a) (Some b) → a ≡ b
            some_same a b e = cc

        second : (p : r ≡ r') → place (length d.positive) s ≡ place (length d.positive) s' → (r ≡ r') × (s ≡ s') × ◌≡◌ {A = ℕ × ℕ} (i, j) (i', j')
        second p e = let q = same_place (length d.positive) s s' (place_within d s f.pair.right) (place_within d s' g.pair.right) e in (p, q, third p q)

        first : r ≡ r' → (r ≡ r') × (s ≡ s') × ◌≡◌ {A = ℕ × ℕ} (i, j) (i', j')
        first p =
            ⊎_elim (λ l. absurd (g.earlier_pairs r s f.term (i, j) f.pair (inr (p, l)) f.exponents (fraction_same r s (i, j) f.fraction)))
            (λ l. ⊎_elim (λ k. absurd (f.earlier_pairs r' s' g.term (i', j') g.pair (inr (sym p, k)) g.exponents (back r' s' (i', j') g.fraction)))
            (λ k. second p (omega (arith, l, k))) (within_or_past (place (length d.positive) s') (place (length d.positive) s))) (within_or_past (place (length d.positive) s) (place (length d.positive) s'))

  -- a whole table has no fraction
  none_fractured : (c : ConstantTable) (n : Table) (r s : ℤ) (i j : ℕ) → StandsFor d (value_of c) → ((r s : ℤ) → IsPair d r s → AreTerms d (value_of c) r s (terms_of c r s)) → StandsFor d n → IsFirstFraction d n r s i j → ⊥
  none_fractured c n r s i j stands terms ns f =
      valued d (value_of c) r s (term_exponents d r s) (terms_of c r s) f.term (i, j) (terms r s f.pair) f.exponents (fraction_same n (value_of c) ns stands r s (i, j) f.fraction)

pub loads_one_way : LoadsOneWay
loads_one_way d (Ok c) (Ok c') loaded h g p q = record {
  positive = h.0 ∙ sym g.0;
  values = λ r s a b. unique d loaded (value_of c) (value_of c') h.1 g.1 r s a b;
  terms = λ r s w. one_terms d loaded (value_of c) (value_of c') h.1 g.1 r s (terms_of c r s) (terms_of c' r s) (h.2 r s w) (g.2 r s w);
}
loads_one_way d x (Err NoMemory) loaded h g p q = absurd (q refl)
loads_one_way d (Err NoMemory) y loaded h g p q = absurd (p refl)
loads_one_way d (Ok c) (Err (Constant r s a e)) loaded h g p q = none_fails d loaded (value_of c) h.1 r s a e g
loads_one_way d (Ok c) (Err (Fraction r s i j)) loaded h g p q = none_fractured d loaded c g.0 r s i j h.1 h.2 g.1 g.2
loads_one_way d (Err (Constant r s a e)) (Ok c) loaded h g p q = none_fails d loaded (value_of c) g.1 r s a e h
loads_one_way d (Err (Fraction r s i j)) (Ok c) loaded h g p q = none_fractured d loaded c h.0 r s i j g.1 g.2 h.1 h.2
loads_one_way d (Err (Constant r s a e)) (Err (Constant r' s' a' e')) loaded h g p q =
    let w = one_failure d loaded r s a e r' s' a' e' h g in
    ap (λ t. Constant t s a e) w.left ∙ ap (λ t. Constant r' t a e) w.right ∙ ap (λ t. Constant r' s' t e) w.factor ∙ ap (λ t. Constant r' s' a' t) w.value
loads_one_way d (Err (Constant r s a e)) (Err (Fraction r' s' i j)) loaded h g p q = absurd (none_fails d loaded g.0 g.1 r s a e h)
loads_one_way d (Err (Fraction r s i j)) (Err (Constant r' s' a e)) loaded h g p q = absurd (none_fails d loaded h.0 h.1 r' s' a e g)
loads_one_way d (Err (Fraction r s i j)) (Err (Fraction r' s' i' j')) loaded h g p q =
    let w = one_fraction d loaded h.0 g.0 h.1 g.1 r s r' s' i j i' j' h.2 g.2 in
    ap (λ t. Fraction t s i j) w.0 ∙ ap (λ t. Fraction r' t i j) w.1 ∙ ap (λ (t : ℕ × ℕ). Fraction r' s' t.0 t.1) w.2
