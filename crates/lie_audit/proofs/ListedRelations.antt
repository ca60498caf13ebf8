-- Each relation stands in the list of all relations, so what holds of all holds of it.
use Rattle.std.specs.List.{All, filter, flat_map, range_with_len}
use Rattle.std.specs.Ordering.{int_eq}
use Rattle.std.proofs.Common.{◌≡◌, ◌≢◌, ℕ, zero, suc, ◌+◌, ◌*◌, ◌<◌, ◌≤◌, ℤ, neg_ℤ, List, [], ◌∷◌, map, length, cond, not, ◌&&◌, true, false, Bool, refl, sym, ap, ap₂, ◌∙◌, subst, arith, inl, inr, ◌⊎◌}
use Rattle.std.proofs.lemmas.Bool.{lt-ltb, cases_lt}
use Rattle.std.proofs.lemmas.Bool.Decides.{Decides-int_eq}
use Rattle.std.proofs.lemmas.List.Elements.{All-contains}
use Rattle.lie_base.proofs.Members.{In, here, there, in_map}
use Rattle.lie_datum.specs.Numbers.{place, number_at}
use Rattle.lie_datum.specs.RootDatum.{rank, IsSimpleIndex}
use Rattle.lie_datum.specs.RootList.{RootDatum, IsNumber}
use Rattle.lie_datum.proofs.NumberLemmas.{place_within, numbered_at}
use Rattle.lie_datum.proofs.SignedRoots.{same_place}
use Rattle.lie_datum.proofs.ClosureLemmas.{contains_from_in, in_left, in_right}
use Rattle.lie_identities.specs.declared.relations.Rel.{Rel}
use Rattle.lie_identities.specs.declared.relations.Rel.TheVariants.{S1, S2, S6, S7}
use Rattle.lie_identities.specs.AuditRelations.{root_numbers, partners, simple_indices, relations}

-- a member of a list of which all have a property
all_in : {X : Type 0} (P : X → Type 0) (xs : List X) (x : X) → All P xs → In x xs → P x
all_in P xs x p m = All-contains P xs x p (contains_from_in xs x m)

-- the numbers of a range
in_range : (n a i : ℕ) → a ≤ i → i < a + n → In i (range_with_len a n)
in_range zero a i low high = absurd (omega (arith, low, high))
in_range (suc n) a i low high = elim (same_or_past a i low) [
  | inl e ↦ here e
  | inr l ↦ there (in_range n (a + 1) i (omega (arith, l)) (omega (arith, high)))
]
  where
    same_or_past : (a i : ℕ) → a ≤ i → (i ≡ a) ⊎ (a < i)
    same_or_past a i low = elim (cases_lt a i) [ inl l ↦ inr l | inr g ↦ inl (omega (arith, low, g)) ]

-- a member that passes the test
in_filter : {X : Type 0} (p : X → Bool) (xs : List X) (x : X) → In x xs → p x ≡ true → In x (filter p xs)
in_filter p [] x m t = elim m [ ]
in_filter p (y ∷ xs) x (here e) t = subst (λ b. In x (cond b (y ∷ filter p xs) (filter p xs))) (sym (ap p (sym e) ∙ t)) (here e)
in_filter p (y ∷ xs) x (there m) t = either (p y) (in_filter p xs x m t)
  where
    either : (b : Bool) → In x (filter p xs) → In x (cond b (y ∷ filter p xs) (filter p xs))
    either true m = there m
    either false m = m

-- a member of the list of a member
in_flat_map : {X Y : Type 0} (f : X → List Y) (xs : List X) (x : X) (y : Y) → In x xs → In y (f x) → In y (flat_map f xs)
in_flat_map f [] x y p m = elim p [ ]
in_flat_map f (z ∷ xs) x y (here e) m = in_left (f z) (flat_map f xs) y (subst (λ w. In y (f w)) e m)
in_flat_map f (z ∷ xs) x y (there p) m = in_right (f z) (flat_map f xs) y (in_flat_map f xs x y p m)

module _ (d : RootDatum) where
  -- the number of a root stands in the list of all
  number_in : (r : ℤ) → IsNumber d r → In r (root_numbers d)
  number_in r p =
      let within = place_within d r p in
      let at = numbered_at d (place (length d.positive) r) within.2 in
      subst (λ s. In s (root_numbers d)) (same_place (length d.positive) (number_at (length d.positive) (place (length d.positive) r)) r (place_within d (number_at (length d.positive) (place (length d.positive) r)) at.number) within at.place)
      (in_map (number_at (length d.positive)) (in_range (2 * length d.positive) 0 (place (length d.positive) r) (omega arith) (omega (arith, within.2))))

  -- a root after r, but -r
  partner_in : (r s : ℤ) → IsNumber d s → place (length d.positive) r < place (length d.positive) s → s ≢ neg_ℤ r → In s (partners d r)
  partner_in r s p before apart =
      in_filter _ (root_numbers d) s (number_in s p)
      (ap₂ ◌&&◌ (lt-ltb _ _ before) (ap not (differs s (neg_ℤ r) apart)))
    where
      differs : (a b : ℤ) → a ≢ b → int_eq a b ≡ false
      differs a b h = is_false (int_eq a b) (λ t. h ((Decides-int_eq a b).0 t))
        where
          is_false : (x : Bool) → ¬ (x ≡ true) → x ≡ false
          is_false true h = absurd (h refl)
          is_false false h = refl

  module _ (P : Rel → Type 0) (all : All P (relations d)) where
    -- S1 for each root
    pub listed-S1 : (r : ℤ) → IsNumber d r → P (S1 r)
    unfolding relations
    listed-S1 r p = all_in P _ (S1 r) all (in_left _ _ (S1 r) (in_map S1 (number_in r p)))

    -- S2 for each two roots that are not opposite
    pub listed-S2 : (r s : ℤ) → IsNumber d r → IsNumber d s → place (length d.positive) r < place (length d.positive) s → s ≢ neg_ℤ r → P (S2 r s)
    unfolding relations
    listed-S2 r s p q before apart = all_in P _ (S2 r s) all
        (in_right (map S1 (root_numbers d)) _ (S2 r s) (in_left _ _ (S2 r s) (in_flat_map (λ r. map (S2 r) (partners d r)) (root_numbers d) r (S2 r s) (number_in r p) (in_map (S2 r) (partner_in r s q before apart)))))

    -- the simple indices
    index_in : (i : ℕ) → IsSimpleIndex d.base i → In i (simple_indices d)
    index_in i p = in_range (rank d.base) 1 i p.0 (omega (arith, p.1))

    -- S6 for each simple index
    pub listed-S6 : (i : ℕ) → IsSimpleIndex d.base i → P (S6 i)
    unfolding relations
    listed-S6 i p = all_in P _ (S6 i) all
        (in_right (map S1 (root_numbers d)) _ (S6 i) (in_right (flat_map (λ r. map (S2 r) (partners d r)) (root_numbers d)) _ (S6 i) (in_left _ _ (S6 i) (in_map S6 (index_in i p)))))

    -- S7 for each simple index and root
    pub listed-S7 : (i : ℕ) (s : ℤ) → IsSimpleIndex d.base i → IsNumber d s → P (S7 i s)
    unfolding relations
    listed-S7 i s p q = all_in P _ (S7 i s) all
        (in_right (map S1 (root_numbers d)) _ (S7 i s) (in_right (flat_map (λ r. map (S2 r) (partners d r)) (root_numbers d)) _ (S7 i s)
        (in_right (map S6 (simple_indices d)) _ (S7 i s) (in_flat_map (λ i. map (S7 i) (root_numbers d)) (simple_indices d) i (S7 i s) (index_in i p) (in_map (S7 i) (number_in s q))))))
