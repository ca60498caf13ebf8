-- What can be decided of roots and sums, and what exists: strings, and the extraspecial pair of a sum.
use Rattle.std.proofs.Common.{◌≡◌, ◌≢◌, ℕ, zero, suc, ◌+◌, ◌<◌, ◌≤◌, ℤ, pos, negsuc, neg_ℤ, ◌≤ℤ◌, ◌<ℤ◌, List, [], ◌∷◌, Bool, true, false, refl, sym, ap, subst, ◌∙◌, arith, ◌⊎◌, inl, inr, ⊎_elim}
use Rattle.std.proofs.lemmas.Int.{ints}
use Rattle.std.specs.Ordering.{int_eq}
use Rattle.std.specs.Cmp.Rules.{signed_items}
use lib.Pointwise.{pointwise}
use Rattle.lie_datum.specs.Vectors.{Vector, plus, times, minus}
use Rattle.lie_datum.specs.declared.root_pair.Root.{Root}
use Rattle.lie_datum.specs.RootDatum.{IsRoot}
use Rattle.lie_datum.specs.RootList.{RootDatum, IsLoaded, IsNumber, root_of, all_roots, IsRootVector, IsRun, IsString}
use Rattle.lie_base.proofs.Members.{In, here, there}
use Rattle.lie_datum.proofs.Entries.{within_or_past}
use Rattle.lie_datum.proofs.Roots.{root_lengths}
use Rattle.lie_datum.proofs.LoadedLaws.{all_only, all_in, short, second, opposite_root}
use Rattle.lie_datum.proofs.SignedRoots.{root_is, number_is, same_number, same_coeffs}
use Rattle.lie_datum.proofs.NumberLemmas.{within, some_within}
use Rattle.lie_datum.proofs.RunLemmas.{times_none, run_short, up_one}
use Rattle.lie_const.specs.StructureConstants.{coeffs_of, IsSum, IsSpecial, IsExtraspecial}
use Rattle.lie_const.proofs.SumLemmas.{neg_neg, sum_turn, sum_swap, neg_number, compare_numbers}

same_or : (x y : Vector) → (x ≡ y) ⊎ (x ≢ y)
same_or x y = by (pointwise int_eq x y) refl
  where
    by : (t : Bool) → pointwise int_eq x y ≡ t → (x ≡ y) ⊎ (x ≢ y)
    by true e = inl ((signed_items x y).0 e)
    by false e = inr (λ f. (let g = (signed_items x y).1 f in cc))

among : (v : Vector) (rs : List Root) → ((r : Root) × In r rs × (r.coeffs ≡ v)) ⊎ ((r : Root) → In r rs → r.coeffs ≢ v)
among v [] = inr (λ r p. elim p [ ])
among v (r ∷ rs) =
    ⊎_elim (λ e. inl (r, here refl, e))
    (λ n. ⊎_elim (λ f. inl (f.0, there f.1, f.2)) (λ f. inr (λ s p. not_here n f s p)) (among v rs)) (same_or r.coeffs v)
  where
    not_here : r.coeffs ≢ v → ((s : Root) → In s rs → s.coeffs ≢ v) → (s : Root) → In s (r ∷ rs) → s.coeffs ≢ v
    not_here n f s (here e) q = n (ap (λ t. t.coeffs) (sym e) ∙ q)
    not_here n f s (there p) q = f s p q

module _ (d : RootDatum) (loaded : IsLoaded d) where
  -- the second part of a sum
  pub same_part : (r k s t : ℤ) → IsSum d r s k → IsSum d k (neg_ℤ r) t → s ≡ t
  same_part r k s t h g =
      let f = sum_turn d loaded s r k (sum_swap d loaded r s k h) in
      same_number d loaded s t h.right g.number (same_coeffs d loaded (root_of d s) (root_of d t) (root_is d loaded s h.right) (root_is d loaded t g.number) (f.is ∙ sym g.is))

  pub root_or : (v : Vector) → IsRootVector d v ⊎ (¬ IsRootVector d v)
  root_or v = ⊎_elim (λ f. inl (f.0, all_only d loaded f.0 f.1, f.2)) (λ f. inr (λ h. f h.0 (all_in d loaded h.0 h.1) h.2)) (among v (all_roots d))

  -- the run of s along r ends
  module _ (r s : Root) (p : IsRoot d.base r) (q : IsRoot d.base s) where
    -- the members up to n are roots, and `fuel` more may be
    search_run : (fuel n : ℕ) → n + fuel ≡ 4 → ((k : ℕ) → k ≤ n → IsRootVector d (plus s.coeffs (times (pos k) r.coeffs))) → (m : ℕ) × IsRun d r.coeffs s.coeffs m
    search_run zero n e h = absurd (let l = run_short d (second d loaded) r s n p h in omega (arith, l, e))
    search_run (suc fuel) n e h =
        ⊎_elim (λ f. search_run fuel (n + 1) (omega (arith, e)) (up_one (λ k. IsRootVector d (plus s.coeffs (times (pos k) r.coeffs))) n h f))
        (λ f. (n, record { roots = λ k l m. h k m; ends = f })) (root_or (plus s.coeffs (times (pos (n + 1)) r.coeffs)))

    pub run_exists : (m : ℕ) × IsRun d r.coeffs s.coeffs m
    run_exists = search_run 4 0 refl (λ k l. (
      s,
      q,
      (let e : k ≡ 0 = omega (arith, l) in
          sym (times_none s.coeffs r.coeffs (root_lengths d.base (short d loaded) loaded.axioms.input.corank s q).0 (root_lengths d.base (short d loaded) loaded.axioms.input.corank r p).0)
          ∙ ap (λ n. plus s.coeffs (times (pos n) r.coeffs)) (sym e)),
    ))

  pub string_exists : (r s : ℤ) → IsNumber d r → IsNumber d s → (p : ℕ) × (q : ℕ) × IsString d (root_of d r) (root_of d s) p q
  string_exists r s m n =
      let a = root_is d loaded r m in
      let b = root_is d loaded s n in
      let up = run_exists (root_of d r) (root_of d s) a b in
      let down = run_exists (record { coeffs = minus (coeffs_of d r); co_coeffs = minus (root_of d r).co_coeffs }) (root_of d s) (opposite_root d loaded (root_of d r) a) b in
      (down.0, up.0, (down.1, up.1))

  -- the pair of r in the sum k, if it is special
  special_or : (r k : ℤ) → IsNumber d r → IsNumber d k → pos 0 <ℤ r → ((s : ℤ) × IsSpecial d r s k) ⊎ ((s : ℤ) → ¬ IsSpecial d r s k)
  special_or r k m n a =
      let o = neg_number d loaded r m in
      ⊎_elim
      (λ f. (let t = number_is d loaded f.0 f.1 in
      let sum : IsSum d k (neg_ℤ r) t.0 = record { left = n; right = o; number = t.1; is = ap (λ z. z.coeffs) t.2 ∙ f.2 } in
      let back = sum_back r k t.0 sum in
      ⊎_elim (λ l. inl (t.0, record { positive = a; before = l; sum = back }))
      (λ l. inr (λ s h. (let e = same_part r k s t.0 h.sum sum in let g = h.before in late l (subst (λ x. r <ℤ x) e g)))) (compare_numbers r t.0)))
      (λ f. inr (λ s h. f (root_of d s, root_is d loaded s h.sum.right, (turned r s k h.sum).is))) (root_or (plus (coeffs_of d k) (coeffs_of d (neg_ℤ r))))
    where
      late : {t : ℤ} → (t <ℤ r) ⊎ (r ≡ t) → r <ℤ t → ⊥
      late f g = ⊎_elim (λ l. absurd (omega (arith, ints, l, g))) (λ e. absurd (omega (arith, ints, e, g))) f

      -- s = k + (-r)
      turned : (r s k : ℤ) → IsSum d r s k → IsSum d k (neg_ℤ r) s
      turned r s k h = sum_turn d loaded s r k (sum_swap d loaded r s k h)

      sum_back : (r k t : ℤ) → IsSum d k (neg_ℤ r) t → IsSum d r t k
      sum_back r k t h = sum_swap d loaded t r k (subst (λ x. IsSum d t x k) (neg_neg r) (sum_turn d loaded k (neg_ℤ r) t h))

  -- the least r of a special pair of the sum k
  pub extraspecial_exists : (r s k : ℤ) → IsSpecial d r s k → (r0 : ℤ) × (s0 : ℤ) × IsExtraspecial d r0 s0 k
  extraspecial_exists (pos zero) s k h = absurd (let p = h.positive in omega (arith, ints, p))
  extraspecial_exists (negsuc n) s k h = absurd (let p = h.positive in omega (arith, ints, p))
  extraspecial_exists (pos (suc n)) s k h = search_least n 0 (omega arith) (λ j t l. absurd (omega (arith, l)))
    where
      least : (i : ℕ) → ((j : ℕ) (t : ℤ) → j < i → ¬ IsSpecial d (pos (suc j)) t k) → (r' s' : ℤ) → IsSpecial d r' s' k → pos (suc i) ≤ℤ r'
      least i absent (pos zero) t g = absurd (let p = g.positive in omega (arith, ints, p))
      least i absent (pos (suc j)) t g = ⊎_elim (λ l. absurd (absent j t l g)) (λ l. omega (arith, ints, l)) (within_or_past j i)
      least i absent (negsuc j) t g = absurd (let p = g.positive in omega (arith, ints, p))

      -- no special pair begins with one of r_1 .. r_i, and r_(n+1) is `fuel` further
      search_least : (fuel i : ℕ) → i + fuel ≡ n → ((j : ℕ) (t : ℤ) → j < i → ¬ IsSpecial d (pos (suc j)) t k) → (r0 : ℤ) × (s0 : ℤ) × IsExtraspecial d r0 s0 k
      search_least zero i e absent = (pos (suc i), s, record { special = subst (λ x. IsSpecial d (pos (suc x)) s k) (let f : n ≡ i = omega (arith, e) in f) h; first = least i absent })
      search_least (suc fuel) i e absent =
          let l = within d.positive n h.sum.left in
          ⊎_elim (λ f. (pos (suc i), f.0, record { special = f.1; first = least i absent }))
          (λ f. search_least fuel (i + 1) (omega (arith, e)) (more i absent f)) (special_or (pos (suc i)) k (some_within d.positive i (omega (arith, l, e))) h.sum.number (omega (arith, ints)))
        where
          more : (i : ℕ) → ((j : ℕ) (t : ℤ) → j < i → ¬ IsSpecial d (pos (suc j)) t k) → ((t : ℤ) → ¬ IsSpecial d (pos (suc i)) t k) → (j : ℕ) (t : ℤ) → j < i + 1 → ¬ IsSpecial d (pos (suc j)) t k
          more i absent f j t l g = ⊎_elim (λ m. absent j t m g) (λ m. (let e : j ≡ i = omega (arith, m, l) in f t (subst (λ x. IsSpecial d (pos (suc x)) t k) e g))) (within_or_past j i)
