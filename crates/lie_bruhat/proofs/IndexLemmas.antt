-- The simple indices of a datum in a list, in which each index that passes a test is found.
use Rattle.std.proofs.Common.{◌≡◌, ℕ, zero, suc, ◌+◌, ◌<◌, ◌≤◌, ⊎_elim, Bool, true, false, cond, T, ltb, List, [], ◌∷◌, Some, refl, sym, ap, ◌∙◌, subst, arith}
use Rattle.std.specs.Option.{is_some}
use Rattle.std.proofs.lemmas.Bool.{cases_eq}
use Rattle.std.proofs.Math.Facts.{ltb_yes, and_yes}
use Rattle.lie_datum.specs.RootDatum.{rank, simple}
use Rattle.lie_datum.specs.RootList.{RootDatum, all_roots}
use Rattle.lie_letters.specs.Names.{Index, is_index, place_of}
use Rattle.lie_letters.proofs.NameLemmas.{same_index}
use Rattle.lie_bruhat.proofs.LengthLemmas.{first_of_list}

module _ (d : RootDatum) where
  from : (k : ℕ) (b : Bool) → is_index d k ≡ b → List (Index d) → List (Index d)
  from k true e rest = record { number = k; lawful = subst T (sym e) tt } ∷ rest
  from k false e rest = rest

  -- those with numbers k, k + 1, .., k + n - 1
  range_of : (n k : ℕ) → List (Index d)
  range_of zero k = []
  range_of (suc n) k = from k (is_index d k) refl (range_of n (suc k))

  -- all of them
  pub indices : List (Index d)
  indices = range_of (rank d.base) 0

  found : (test : Index d → Bool) (x : Index d) (xs : List (Index d)) → ((j : Index d) × (first_of_list test xs ≡ Some j)) → (j : Index d) × (first_of_list test (x ∷ xs) ≡ Some j)
  found test x xs q = by (test x)
    where
      by : (b : Bool) → (j : Index d) × (cond b (Some x) (first_of_list test xs) ≡ Some j)
      by true = (x, refl)
      by false = q

  in_range : (test : Index d → Bool) (i : Index d) → test i ≡ true → (n k : ℕ) → k ≤ i.number → i.number < k + n → (j : Index d) × (first_of_list test (range_of n k) ≡ Some j)
  unfolding range_of from
  in_range test i e zero k l m = absurd (omega (arith, l, m))
  in_range test i e (suc n) k l m = by (λ h. in_range test i e n (suc k) (omega (arith, l, h)) (omega (arith, m))) (is_index d k) refl
    where
      by : (¬ (i.number ≡ k) → (j : Index d) × (first_of_list test (range_of n (suc k)) ≡ Some j)) → (b : Bool) (g : is_index d k ≡ b)
          → (j : Index d) × (first_of_list test (from k b g (range_of n (suc k))) ≡ Some j)
      by rest true g =
          ⊎_elim
          (λ (s : i.number ≡ k). (
            record { number = k; lawful = subst T (sym g) tt },
            ap (λ b. cond b (Some (record { number = k; lawful = subst T (sym g) tt })) (first_of_list test (range_of n (suc k))))
                (ap test (same_index d (record { number = k; lawful = subst T (sym g) tt }) i (sym s)) ∙ e),
          ))
          (λ (h : ¬ (i.number ≡ k)). found test (record { number = k; lawful = subst T (sym g) tt }) (range_of n (suc k)) (rest h))
          (cases_eq i.number k)
      by rest false g = rest (λ s. (let t = subst (λ b. T b) (ap (is_index d) s ∙ g) i.lawful in absurd t))

  -- a test that an index passes finds one
  pub complete : (test : Index d → Bool) (i : Index d) → test i ≡ true → (j : Index d) × (first_of_list test indices ≡ Some j)
  unfolding indices
  complete test i e =
      in_range test i e (rank d.base) 0 (omega arith)
      (let l = ltb_yes (and_yes (ltb i.number (rank d.base)) (is_some (place_of (all_roots d) (simple (suc i.number)))) i.lawful).0 in omega (arith, l))
