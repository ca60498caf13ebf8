-- The members of the list of relations are relations of the datum.
use Rattle.std.proofs.Common.{◌≡◌, ℕ, zero, suc, ◌+◌, ◌*◌, ◌<◌, ◌≤◌, ltb, ℤ, neg_ℤ, List, [], ◌∷◌, map, length, not, ◌&&◌, true, false, Bool, refl, sym, ap, ◌∙◌, arith}
use Rattle.std.specs.List.{All, flat_map, range_with_len}
use Rattle.std.specs.Ordering.{int_eq}
use Rattle.std.proofs.lemmas.Bool.{ltb-true}
use Rattle.std.proofs.lemmas.Bool.Decides.{Decides-int_eq}
use Rattle.std.proofs.lemmas.List.Elements.{All-nil, All-cons, All-head, All-tail, All-append, All-map, All-filter, filter_passes}
use Rattle.lie_datum.specs.Numbers.{place, number_at}
use Rattle.lie_datum.specs.RootDatum.{rank, IsSimpleIndex}
use Rattle.lie_datum.specs.RootList.{RootDatum, IsNumber}
use Rattle.lie_datum.proofs.NumberLemmas.{numbered_at}
use Rattle.lie_const.specs.CommutatorTerms.{IsPair}
use Rattle.lie_identities.specs.declared.relations.Rel.TheVariants.{S1, S2, S6, S7}
use Rattle.lie_identities.specs.AuditRelations.{root_numbers, partners, simple_indices, relations}
use Rattle.lie_identities.specs.Sides.{IsRelationOf}

-- a property of the numbers of a range
range_all : (P : ℕ → Type 0) (a n : ℕ) → ((k : ℕ) → a ≤ k → k < a + n → P k) → All P (range_with_len a n)
range_all P a zero h = All-nil P
range_all P a (suc n) h = All-cons P a (range_with_len (a + 1) n) (h a (omega arith) (omega arith)) (range_all P (a + 1) n (λ k p q. h k (omega (arith, p)) (omega (arith, q))))

-- and of the members of lists, one after the other
flat_all : {X Y : Type 0} (P : Y → Type 0) (Q : X → Type 0) (f : X → List Y) → ((x : X) → Q x → All P (f x)) → (xs : List X) → All Q xs → All P (flat_map f xs)
flat_all P Q f h [] a = All-nil P
flat_all P Q f h (x ∷ xs) a = All-append P (f x) (flat_map f xs) (h x (All-head Q x xs a)) (flat_all P Q f h xs (All-tail Q x xs a))

both_all : {X : Type 0} (P Q R : X → Type 0) → ((x : X) → P x → Q x → R x) → (xs : List X) → All P xs → All Q xs → All R xs
both_all P Q R h xs a b k z l = h _ (a k z l) (b k z l)

module _ (d : RootDatum) where
  numbers_all : All (IsNumber d) (root_numbers d)
  numbers_all = All-map (IsNumber d) (number_at (length d.positive)) (range_with_len 0 (2 * length d.positive))
      (range_all (λ k. IsNumber d (number_at (length d.positive) k)) 0 (2 * length d.positive) (λ k p q. (numbered_at d k (omega (arith, q))).number))

  indices_all : All (IsSimpleIndex d.base) (simple_indices d)
  indices_all = range_all (IsSimpleIndex d.base) 1 (rank d.base) (λ k p q. (p, omega (arith, q)))

  -- a later root that is not the opposite
  pair_of : (r s : ℤ) → IsNumber d r → IsNumber d s → (ltb (place (length d.positive) r) (place (length d.positive) s) && not (int_eq s (neg_ℤ r))) ≡ true → IsPair d r s
  pair_of r s p q t = by (ltb (place (length d.positive) r) (place (length d.positive) s)) (int_eq s (neg_ℤ r)) refl refl t
    where
      by : (a b : Bool) → ltb (place (length d.positive) r) (place (length d.positive) s) ≡ a → int_eq s (neg_ℤ r) ≡ b → (a && not b) ≡ true → IsPair d r s
      by false b e f t = absurd (let x : false ≡ true = t in cc)
      by true true e f t = absurd (let x : false ≡ true = t in cc)
      by true false e f t = record {
        left = p;
        right = q;
        unequal = λ same. (let g : ltb (place (length d.positive) r) (place (length d.positive) r) ≡ true = ap (λ x. ltb (place (length d.positive) r) (place (length d.positive) x)) (sym same) ∙ e in absurd (irreflexive (place (length d.positive) r) g));
        independent = λ same. (let g = (Decides-int_eq s (neg_ℤ r)).1 same in let x : false ≡ true = sym f ∙ g in absurd (cc));
      }
        where
          irreflexive : (n : ℕ) → ltb n n ≡ true → ⊥
          irreflexive n e = let l = ltb-true n n e in omega (arith, l)

  partners_all : (r : ℤ) → IsNumber d r → All (IsPair d r) (partners d r)
  partners_all r p =
      let test = λ (s : ℤ). ltb (place (length d.positive) r) (place (length d.positive) s) && not (int_eq s (neg_ℤ r)) in
      both_all (IsNumber d) (λ s. test s ≡ true) (IsPair d r) (λ s q t. pair_of r s p q t) (partners d r)
      (All-filter test (IsNumber d) (root_numbers d) numbers_all) (filter_passes test (root_numbers d))

  -- each relation is one of the datum
  pub relations_all : All (IsRelationOf d) (relations d)
  unfolding relations
  relations_all =
      All-append (IsRelationOf d) _ _ (All-map (IsRelationOf d) S1 (root_numbers d) numbers_all)
      (All-append (IsRelationOf d) _ _
      (flat_all (IsRelationOf d) (IsNumber d) (λ r. map (S2 r) (partners d r)) (λ r p. All-map (IsRelationOf d) (S2 r) (partners d r) (partners_all r p)) (root_numbers d) numbers_all)
      (All-append (IsRelationOf d) _ _
      (All-map (IsRelationOf d) S6 (simple_indices d) indices_all)
      (flat_all (IsRelationOf d) (IsSimpleIndex d.base) (λ i. map (S7 i) (root_numbers d)) (λ i h. All-map (IsRelationOf d) (S7 i) (root_numbers d) (all_with i h)) (simple_indices d) indices_all)))
    where
      all_with : (i : ℕ) → IsSimpleIndex d.base i → All (λ s. IsRelationOf d (S7 i s)) (root_numbers d)
      all_with i h k z l = (h, numbers_all k z l)
