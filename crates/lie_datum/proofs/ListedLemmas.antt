-- The roots of a base whose positive roots are listed: the list with the opposites has every root, once.
use Rattle.std.proofs.Common.{◌≡◌, ℕ, zero, suc, ◌<◌, ◌≤◌, ℤ, pos, negsuc, ◌≤ℤ◌, ◌<ℤ◌, List, [], ◌∷◌, ◌++◌, length, map, refl, sym, ap, subst, ◌∙◌, arith, ◌⊎◌, inl, inr, ⊎_elim, length-append}
use Rattle.std.proofs.lemmas.Int.{ints, by_lt_z}
use Rattle.std.proofs.lemmas.List.{get_or_default}
use Rattle.std.proofs.Math.ListN.{length-map}
use Rattle.std.specs.List.{All, Any, AllByRecursion}
use Rattle.std.specs.List.Sorted.{IsStrictlySortedBy}
use Rattle.std.specs.declared.cmp.Ordering.TheVariants.{Less}
use Rattle.lie_datum.specs.Vectors.{Vector, times, minus}
use Rattle.lie_datum.specs.RootDatum.{Base, Root, opposite, root_pairing, IsRoot, IsPositive, IsUnmixed, IsCartan, IsFinite}
use Rattle.lie_datum.specs.RootList.{root_cmp, IsPositiveList}
use Rattle.lie_datum.proofs.Entries.{entry, entry-times, entry_past, within_or_past, length-times, same_entries}
use Rattle.lie_base.proofs.Members.{In, here, there, HasNoRepeats, in_map, from_map, map_simple}
use Rattle.lie_datum.proofs.ClosureLemmas.{in_from_contains, contains_from_in, in_left, in_right, in_one, pigeonhole}
use Rattle.lie_datum.proofs.Roots.{same_root, root_self}
use Rattle.lie_datum.proofs.RootOrder.{same_order}
use Rattle.lie_datum.proofs.Turns.{not_even, IsRoot-opposite}
use Rattle.lie_datum.proofs.HeightLaw.{any_at}

-- what is below each member is no member
less_than_all : (r : Root) (xs : List Root) → AllByRecursion (λ y. root_cmp r y ≡ Less) xs → ¬ In r xs
less_than_all r [] h p = elim p [ ]
less_than_all r (y ∷ xs) h (here e) = let d = sym (same_order r) ∙ ap (root_cmp r) e ∙ h.0 in cc
less_than_all r (y ∷ xs) h (there p) = less_than_all r xs h.1 p

-- an ascending list has no member twice
pub sorted_simple : (xs : List Root) → IsStrictlySortedBy root_cmp xs → HasNoRepeats xs
unfolding IsStrictlySortedBy
sorted_simple [] h = tt
sorted_simple (x ∷ xs) h = (less_than_all x xs h.0, sorted_simple xs h.1)

-- two lists without repeats and without a common member, joined
pub append_simple : (xs ys : List Root) → HasNoRepeats xs → HasNoRepeats ys → ((x : Root) → In x xs → In x ys → ⊥) → HasNoRepeats (xs ++ ys)
append_simple [] ys h k d = k
append_simple (x ∷ xs) ys h k d = ((λ p. ⊎_elim (λ a. h.0 a) (λ a. d x (here refl) a) (in_one xs ys x p)), append_simple xs ys h.1 k (λ z a. d z (there a)))

-- the sign of a vector that is not mixed
search_positive : (v : Vector) (n : ℕ) → ((j : ℕ) × (j < n) × (pos 0 <ℤ entry v j)) ⊎ ((j : ℕ) → j < n → entry v j ≤ℤ pos 0)
search_positive v zero = inr (λ j l. absurd (omega (arith, l)))
search_positive v (suc n) = ⊎_elim (λ f. inl (f.0, (let l = f.1 in omega (arith, l)), f.2))
    (λ f. by_lt_z (pos 0) (entry v n) (λ h. inl (n, omega arith, h)) (λ h. inr (λ j l. ⊎_elim (λ m. f j m) (λ m. (let e : j ≡ n = omega (arith, m, l) in subst (λ k. entry v k ≤ℤ pos 0) (sym e) h)) (within_or_past j n)))) (search_positive v n)

-- a vector without entries of both signs has none below 0, or none above 0
pub signs : (v : Vector) → ¬ (Any (λ c. pos 0 <ℤ c) v × Any (λ c. c <ℤ pos 0) v) → All (λ c. pos 0 ≤ℤ c) v ⊎ All (λ c. c ≤ℤ pos 0) v
signs v h =
    ⊎_elim (λ f. inl (λ k d l. subst (λ t. pos 0 ≤ℤ t) (get_or_default v k (pos 0) d l)
    (by_lt_z (entry v k) (pos 0) (λ n. absurd (h (any_at (λ c. pos 0 <ℤ c) v f.0 f.1 f.2, any_at (λ c. c <ℤ pos 0) v k l n))) (λ g. g))))
    (λ f. inr (λ k d l. subst (λ t. t ≤ℤ pos 0) (get_or_default v k (pos 0) d l) (f k l))) (search_positive v (length v))

minus_minus : (v : Vector) → minus (minus v) ≡ v
minus_minus v = same_entries (minus (minus v)) v (length-times (negsuc 0) (minus v) ∙ length-times (negsuc 0) v)
    (λ j. let a = entry-times (negsuc 0) (minus v) j in let b = entry-times (negsuc 0) v j in omega (arith, ints, a, b))

-- the opposite of the opposite
pub twice_opposite : (r : Root) → opposite (opposite r) ≡ r
twice_opposite r = same_root (opposite (opposite r)) r (minus_minus r.coeffs) (minus_minus r.co_coeffs)

-- what holds of each entry, and of 0, holds of the entry at any place
pub at_entry : (P : ℤ → Type 0) → P (pos 0) → (v : Vector) → All P v → (j : ℕ) → P (entry v j)
at_entry P z v h j = ⊎_elim (λ l. h j (pos 0) l) (λ l. subst P (sym (entry_past v j l)) z) (within_or_past j (length v))

pub opposite_positive : (v : Vector) → All (λ c. c ≤ℤ pos 0) v → All (λ c. pos 0 ≤ℤ c) (minus v)
opposite_positive v h k d l =
    subst (λ t. pos 0 ≤ℤ t) (get_or_default (minus v) k (pos 0) d l)
    (let a = entry-times (negsuc 0) v k in let b = at_entry (λ c. c ≤ℤ pos 0) (omega (arith, ints)) v h k in omega (arith, ints, a, b))

module _ (b : Base) (c : IsCartan b) (unmixed : IsUnmixed b) (rs : List Root) (listed : IsPositiveList b rs) where
  -- at most eight simple roots
  pub few : length b.roots ≤ 8
  few = let a = c.input.rank in let h = c.input.dim.1 in omega (arith, a, h)

  -- a root pairs with its coroot to 2
  pub listed_self : (r : Root) → IsRoot b r → root_pairing b r r ≡ pos 2
  listed_self = root_self b few c.input.corank c.twos

  -- the list has positive roots alone, and all of them
  pub listed_only : (r : Root) → In r rs → IsRoot b r × IsPositive r
  listed_only r p = (listed.roots r).0 (contains_from_in rs r p)

  pub listed_in : (r : Root) → IsRoot b r → IsPositive r → In r rs
  listed_in r p q = in_from_contains rs r ((listed.roots r).1 (p, q))

  -- the opposite of a root is a root
  pub listed_opposite : (r : Root) → IsRoot b r → IsRoot b (opposite r)
  listed_opposite r p = IsRoot-opposite b few c.input.corank c.twos r (listed_self r p) p

  -- the full order has roots alone, all of them, and none twice
  pub order_only : (r : Root) → In r (rs ++ map opposite rs) → IsRoot b r
  order_only r p = ⊎_elim (λ a. (listed_only r a).0) (λ a. (let q = from_map opposite r rs a in subst (IsRoot b) (sym q.2) (listed_opposite q.0 (listed_only q.0 q.1).0))) (in_one rs (map opposite rs) r p)

  pub order_in : (r : Root) → IsRoot b r → In r (rs ++ map opposite rs)
  order_in r p =
      ⊎_elim (λ q. in_left rs (map opposite rs) r (listed_in r p q))
      (λ q. in_right rs (map opposite rs) r (subst (λ t. In t (map opposite rs)) (twice_opposite r)
      (in_map opposite (listed_in (opposite r) (listed_opposite r p) (opposite_positive r.coeffs q))))) (signs r.coeffs (unmixed r p))

  pub order_simple : HasNoRepeats (rs ++ map opposite rs)
  order_simple =
      let once = sorted_simple rs listed.sorted in
      append_simple rs (map opposite rs) once (map_simple opposite rs (λ r p. twice_opposite r) once)
      (λ r p q. both r p (from_map opposite r rs q))
    where
      both : (r : Root) → In r rs → (s : Root) × In s rs × (r ≡ opposite s) → ⊥
      both r p q =
          not_even b few c.input.corank c.twos r r.coeffs (listed_only r p).0
          (same_entries r.coeffs (times (pos 2) r.coeffs) (sym (length-times (pos 2) r.coeffs))
          (λ j. let a = at_entry (λ c. pos 0 ≤ℤ c) (omega (arith, ints)) r.coeffs (listed_only r p).1 j in
          let s = at_entry (λ c. pos 0 ≤ℤ c) (omega (arith, ints)) q.0.coeffs (listed_only q.0 q.1).1 j in
          let e = ap (λ t. entry t.coeffs j) q.2 ∙ entry-times (negsuc 0) q.0.coeffs j in
          let f = entry-times (pos 2) r.coeffs j in
          omega (arith, ints, a, s, e, f)))

  -- at most 120 positive roots
  pub listed_few : IsFinite b → length rs ≤ 120
  listed_few f =
      let h = pigeonhole (rs ++ map opposite rs) f.count.0 order_simple (λ r p. in_from_contains f.count.0 r (f.count.2 r (order_only r p))) in
      let m = f.count.1 in
      omega (arith, h, m, length-append rs (map opposite rs), length-map rs opposite)
