-- How large the constants and the powers of a root vector are.
use Rattle.std.proofs.Common.{◌≡◌, ◌≢◌, ℕ, zero, suc, ◌+◌, ◌*◌, ◌≤◌, ℤ, pos, neg_ℤ, ◌*ℤ◌, ◌+ℤ◌, ◌≤ℤ◌, unsigned_abs, refl, sym, ap, subst, ◌∙◌, arith, ⊎_elim, true, false, Bool}
use Rattle.std.proofs.lemmas.Int.{ints}
use Rattle.std.specs.Ordering.{int_eq}
use Rattle.std.proofs.lemmas.Bool.Decides.{Decides-int_eq}
use Rattle.lie_datum.specs.Vectors.{plus, times}
use Rattle.lie_datum.specs.RootDatum.{opposite}
use Rattle.lie_datum.specs.RootList.{RootDatum, IsLoaded, IsNumber, root_of, IsRootVector, IsString}
use Rattle.lie_datum.proofs.LoadedLaws.{second, opposite_root, short}
use Rattle.lie_datum.proofs.Roots.{root_lengths}
use Rattle.lie_datum.proofs.RunLemmas.{run_short, times_none}
use Rattle.lie_datum.proofs.SignedRoots.{root_is, number_is}
use Rattle.lie_datum.proofs.Entries.{within_or_past}
use Rattle.lie_datum.proofs.VectorLemmas.{abs_mul}
use Rattle.lie_const.specs.StructureConstants.{Table, coeffs_of, IsSpecial, IsExtraspecial, extra, own, right, left, at_part, IsUnitValue, StandsFor, gap, norm}
use Rattle.lie_const.specs.CommutatorTerms.{string_product, value_at, IsPair}
use Rattle.lie_const.proofs.SumLemmas.{neg_number}
use Rattle.lie_const.proofs.Decisions.{root_or, string_exists, extraspecial_exists}
use Rattle.lie_const.proofs.Triples.{IsClosed, HoldsOn, every_pair}
use Rattle.lie_weight.proofs.LineLemmas.{line, value-root, value-none, on_line-independent}

module _ (d : RootDatum) (loaded : IsLoaded d) (n : Table) (stands : StandsFor d n) where
  -- r can be taken away from s at most three times
  string_short : (r s : ℤ) (p q : ℕ) → IsNumber d r → IsNumber d s → IsString d (root_of d r) (root_of d s) p q → p ≤ 3
  string_short r s p q a b h =
      let R = root_of d r in
      let S = root_of d s in
      let down = opposite_root d loaded R (root_is d loaded r a) in
      let up = root_is d loaded s b in
      run_short d (second d loaded) (opposite R) S p down (λ k l. ⊎_elim
      (λ m. (let e : k ≡ 0 = omega (arith, m) in subst (λ x. IsRootVector d (plus S.coeffs (times (pos x) (opposite R).coeffs))) (sym e)
      (S, up, sym (times_none S.coeffs (opposite R).coeffs (root_lengths d.base (short d loaded) loaded.axioms.input.corank S up).0 (root_lengths d.base (short d loaded) loaded.axioms.input.corank (opposite R) down).0))))
      (λ m. h.0.roots k m l) (within_or_past k 1))

  unit_small : (r s : ℤ) → IsNumber d r → IsNumber d s → IsUnitValue d n r s → unsigned_abs (n r s) ≤ 4
  unit_small r s a b u =
      let t = string_exists d loaded r s a b in
      let l = string_short r s t.0 t.1 a b t.2 in
      ⊎_elim (λ e. subst (λ x. unsigned_abs x ≤ 4) (sym e) (omega (arith, ints, l))) (λ e. subst (λ x. unsigned_abs x ≤ 4) (sym e) (omega (arith, ints, l))) (u t.0 t.1 t.2)

  -- the value on a special pair
  special_small : (r s k : ℤ) → IsSpecial d r s k → unsigned_abs (n r s) ≤ 4
  special_small r s k h =
      let x = extraspecial_exists d loaded r s k h in
      by x.0 x.1 x.2 (int_eq x.0 r) refl
    where
      by : (r0 s0 : ℤ) → IsExtraspecial d r0 s0 k → (t : Bool) → int_eq r0 r ≡ t → unsigned_abs (n r s) ≤ 4
      by r0 s0 f true e =
          let same = (Decides-int_eq r0 r).0 e in
          let first : IsExtraspecial d r s k = record { special = h; first = λ r' s' g. subst (λ x. x ≤ℤ r') same (f.first r' s' g) } in
          let t = string_exists d loaded r s h.sum.left h.sum.right in
          unit_small r s h.sum.left h.sum.right (stands.values (at_part k r 0) r s (pos 1) (pos (t.0 + 1)) (extra r s k t.0 t.1 first t.2)).1
      by r0 s0 f false e =
          let other : r0 ≢ r = λ q. (let g = (Decides-int_eq r0 r).1 q in cc) in
          unit_small r s h.sum.left h.sum.right (stands.values (at_part k r 0) r s
          (n r0 s0 *ℤ gap d s r0 *ℤ gap d r r0)
          (norm d k *ℤ (n s (neg_ℤ r0) *ℤ n r (neg_ℤ s0) *ℤ gap d r r0 +ℤ n (neg_ℤ r0) r *ℤ n s (neg_ℤ s0) *ℤ gap d s r0))
          (own r s k r0 s0 h f other)).1

  -- on every pair whose sum is a root
  closed : IsClosed d (λ r s. unsigned_abs (n r s) ≤ 4)
  closed = record {
    swapped = λ r s a b o l. subst (λ x. unsigned_abs x ≤ 4) (sym (stands.signs.swapped r s a b)) (let m = l in omega (arith, ints, m));
    opposite = λ r s a b o l. subst (λ x. unsigned_abs x ≤ 4) (sym (stands.signs.opposite r s a b)) (let m = l in omega (arith, ints, m));
  }

  special_all : (r s k : ℤ) → IsSpecial d r s k → HoldsOn (λ r s. unsigned_abs (n r s) ≤ 4) r s k
  special_all r s k h =
      let down = neg_number d loaded k h.sum.number in
      record {
        own = special_small r s k h;
        right = unit_small s (neg_ℤ k) h.sum.right down (stands.values (at_part k r 1) s (neg_ℤ k) (norm d k) (n r s *ℤ norm d r) (right r s k h)).1;
        left = unit_small (neg_ℤ k) r down h.sum.left (stands.values (at_part k r 2) (neg_ℤ k) r (norm d k) (n r s *ℤ norm d s) (left r s k h)).1;
      }

  -- a constant is at most 4 in absolute value
  pub constant_small : (r s : ℤ) → IsNumber d r → IsNumber d s → s ≢ neg_ℤ r → unsigned_abs (n r s) ≤ 4
  constant_small r s a b o = ⊎_elim
      (λ h. (let k = number_is d loaded h.0 h.1 in
      every_pair d loaded (λ r s. unsigned_abs (n r s) ≤ 4) closed special_all r s k.0 (record { left = a; right = b; number = k.1; is = ap (λ t. t.coeffs) k.2 ∙ h.2 })))
      (λ f. (let e = stands.signs.none r s a b (λ k h. f (root_of d k, root_is d loaded k h.number, h.is)) in subst (λ x. unsigned_abs x ≤ 4) (sym e) (omega arith)))
      (root_or d loaded (plus (coeffs_of d r) (coeffs_of d s)))

  module _ (r s : ℤ) (pair : IsPair d r s) where
    step_small : (k : ℕ) → unsigned_abs (value_at d n (coeffs_of d r) (line (coeffs_of d r) (coeffs_of d s) k)) ≤ 4
    step_small k = ⊎_elim
        (λ h. (let u = number_is d loaded h.0 h.1 in
        let e = ap (λ t. t.coeffs) u.2 ∙ h.2 in
        subst (λ x. unsigned_abs x ≤ 4) (sym (value-root d loaded r s pair n k u.0 u.1 e)) (constant_small r u.0 pair.left u.1 (on_line-independent d loaded r s pair k u.0 u.1 e))))
        (λ f. subst (λ x. unsigned_abs x ≤ 4) (sym (value-none d loaded r s pair n k f)) (omega arith))
        (root_or d loaded (line (coeffs_of d r) (coeffs_of d s) k))

    more : (k m : ℕ) → unsigned_abs (string_product d n (coeffs_of d r) (coeffs_of d s) k) ≤ m → unsigned_abs (string_product d n (coeffs_of d r) (coeffs_of d s) (suc k)) ≤ m * 4
    more k m l = abs_mul (string_product d n (coeffs_of d r) (coeffs_of d s) k) (value_at d n (coeffs_of d r) (line (coeffs_of d r) (coeffs_of d s) k)) m 4 l (step_small k)

    -- a string_product of at most three is at most 64
    pub chain_small : (k : ℕ) → k ≤ 3 → unsigned_abs (string_product d n (coeffs_of d r) (coeffs_of d s) k) ≤ 64
    chain_small zero l = omega arith
    chain_small (suc zero) l = let a = more 0 1 (omega arith) in omega (arith, a)
    chain_small (suc (suc zero)) l = let a = more 1 4 (more 0 1 (omega arith)) in omega (arith, a)
    chain_small (suc (suc (suc zero))) l = more 2 16 (more 1 4 (more 0 1 (omega arith)))
    chain_small (suc (suc (suc (suc k)))) l = absurd (omega arith)
