-- The lists of the terms of all pairs, one pair after another.
use Rattle.std.proofs.Common.{◌≡◌, ℕ, zero, suc, ◌+◌, ◌*◌, ◌/◌, ◌%◌, ◌<◌, ◌≤◌, ℤ, List, [], ◌∷◌, ◌++◌, length, get_or, sym, ap, subst, ◌∙◌, arith, ◌⊎◌, inl, inr, ⊎_elim, length-append, Err}
use Rattle.std.proofs.Math.Nat.{mul-le-mul_right, div-lt_iff_lt-mul}
use Rattle.std.proofs.lemmas.List.{get_or_append_left, get_or-append-add}
use Rattle.lie_datum.specs.Numbers.{place, number_at}
use Rattle.lie_datum.specs.RootList.{RootDatum, IsNumber}
use Rattle.lie_datum.proofs.Entries.{within_or_past}
use Rattle.lie_datum.proofs.NumberLemmas.{place_within, numbered_at}
use Rattle.lie_const.specs.declared.term.Term.{Term}
use Rattle.lie_const.specs.declared.faults.ConstFault.{ConstFault}
use Rattle.lie_const.specs.declared.faults.ConstFault.TheVariants.{NoMemory, Constant, Fraction}
use Rattle.lie_const.specs.StructureConstants.{Table, StandsFor}
use Rattle.lie_const.specs.CommutatorTerms.{IsPair, AreTerms, IsFirstFraction, term_exponents}
use Rattle.lie_const.specs.ConstantTables.{pair_place, LoadsConstants}
use Rattle.lie_const.specs.TermFilling.{AreListed, IsPairFault}
use Rattle.lie_const.proofs.FillLemmas.{one_pair_place, pair_within}
use Rattle.lie_const.proofs.TermLemmas.{valued}

-- the row and the column of a place
pub place_split : (n at : ℕ) → at < n * n → (at / n < n) × (at % n < n) × ((at / n) * n + at % n ≡ at)
place_split zero at l = absurd (omega (arith, l))
place_split (suc n) at l = (row, omega arith, omega arith)
  where
    row : at / suc n < suc n
    row = (div-lt_iff_lt-mul (omega arith)).1 l

module _ (d : RootDatum) (n : Table) (m : ℕ) (count : m ≡ length d.positive) where
  -- the pair at a place
  pub pair_at : (at : ℕ) → at < 2 * m * (2 * m) → IsNumber d (number_at m (at / (2 * m))) × IsNumber d (number_at m (at % (2 * m))) × (pair_place m (number_at m (at / (2 * m))) (number_at m (at % (2 * m))) ≡ at)
  pair_at at l =
      let p = place_split (2 * m) at l in
      let r = at_place (at / (2 * m)) p.0 in
      let s = at_place (at % (2 * m)) p.1 in
      (r.0, s.0, ap (λ t. t * (2 * m) + place m (number_at m (at % (2 * m)))) r.1 ∙ ap (λ t. (at / (2 * m)) * (2 * m) + t) s.1 ∙ p.2)
    where
      at_place : (i : ℕ) → i < 2 * m → IsNumber d (number_at m i) × (place m (number_at m i) ≡ i)
      at_place i l = subst (λ t. IsNumber d (number_at t i) × (place t (number_at t i) ≡ i)) (sym count) (let h = numbered_at d i (omega (arith, l, count)) in (h.number, h.place))

  -- one more list
  pub listed_more : (at : ℕ) (lists new : List (List Term)) (r s : ℤ) (ts : List Term) → AreListed d n m at lists → IsNumber d r → IsNumber d s → pair_place m r s ≡ at → new ≡ lists ++ ts ∷ [] → (IsPair d r s → AreTerms d n r s ts) → AreListed d n m (at + 1) new
  listed_more at lists new r s ts h a b e f g =
      subst (λ (t : List (List Term)). AreListed d n m (at + 1) t) (sym f)
      (record {
        count = length-append lists (ts ∷ []) ∙ (let c = h.count in omega (arith, c));
        terms = λ x y p l. ⊎_elim (λ k. subst (AreTerms d n x y) (sym (get_or_append_left lists (ts ∷ []) [] (pair_place m x y) (let c = h.count in omega (arith, k, c)))) (h.terms x y p k))
            (λ k. (let same : pair_place m x y ≡ pair_place m r s = omega (arith, k, l, e) in
            let o = one_pair_place d m count x y r s p.left p.right a b same in
            let q = subst (λ t. IsPair d t s) o.0 (subst (λ t. IsPair d x t) o.1 p) in
            let last : get_or (lists ++ ts ∷ []) (pair_place m x y) [] ≡ ts = ap (λ i. get_or (lists ++ ts ∷ []) i []) (let c = h.count in let w : pair_place m x y ≡ length lists + 0 = omega (arith, same, e, c) in w) ∙ get_or-append-add lists (ts ∷ []) 0 [] in
            subst (AreTerms d n x y) (sym last) (subst (λ t. AreTerms d n t y ts) (sym o.0) (subst (λ t. AreTerms d n r t ts) (sym o.1) (g q))))) (within_or_past (pair_place m x y) at);
      })

  -- all pairs are listed
  pub listed_all : (at : ℕ) (lists : List (List Term)) → 2 * m * (2 * m) ≤ at → AreListed d n m at lists → (r s : ℤ) → IsPair d r s → AreTerms d n r s (get_or lists (pair_place m r s) [])
  listed_all at lists l h r s p = h.terms r s p (let w = pair_within d m count r s p.left p.right in omega (arith, w, l))

  -- the pairs before a pair stand before its place
  pair_before : (r s x y : ℤ) → IsNumber d y → (place m x < place m r) ⊎ ((x ≡ r) × (place m y < place m s)) → pair_place m x y < pair_place m r s
  pair_before r s x y b (inl l) =
      let w : suc (place m x) ≤ place m r = omega (arith, l) in
      let h = mul-le-mul_right (2 * m) w in
      let k = subst (λ t. place t y < 2 * t) (sym count) (place_within d y b).2 in
      omega (arith, h, k)
  pair_before r s x y b (inr l) = let e = ap (λ t. place m t * (2 * m)) l.0 in let k = l.1 in omega (arith, e, k)

  -- the fault of a pair is that of the datum, where the pairs before have their terms
  pub pair_fault : (at : ℕ) (lists : List (List Term)) (r s : ℤ) (f : ConstFault) → StandsFor d n → AreListed d n m at lists → pair_place m r s ≡ at → IsPairFault d n r s f → LoadsConstants d (Err f)
  pair_fault at lists r s NoMemory stands h e g = tt
  pair_fault at lists r s (Constant p q a v) stands h e g = absurd g
  pair_fault at lists r s (Fraction p q i j) stands h e g = (
    n,
    stands,
    subst (λ t. IsFirstFraction d n t q i j) (sym g.0) (subst (λ t. IsFirstFraction d n r t i j) (sym g.1)
        (record {
          pair = g.2;
          term = g.3.term;
          exponents = g.3.exponents;
          fraction = g.3.fraction;
          earlier_terms = g.3.earlier;
          earlier_pairs = λ x y t w p l k.
              (let before = pair_before r s x y p.right (subst (λ c. (place c x < place c r) ⊎ ((x ≡ r) × (place c y < place c s))) (sym count) l) in
              valued d n x y (term_exponents d x y) (get_or lists (pair_place m x y) []) t w (h.terms x y p (omega (arith, before, e))) k);
        })),
  )
