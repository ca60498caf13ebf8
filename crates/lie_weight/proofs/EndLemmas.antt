-- The fourth power of e_r in the adjoint module is 0.
use Rattle.std.proofs.Common.{◌≡◌, ℕ, zero, suc, ◌<◌, ◌≤◌, ◌⊎◌, ℤ, pos, neg_ℤ, ◌*ℤ◌, refl, sym, ap, subst, ◌∙◌, inl, inr, arith, ⊎_elim, cond, true, false, Bool}
use Rattle.std.proofs.Math.IntN.{*ℤ-zero, zero-*ℤ, +ℤ_comm}
use Rattle.std.proofs.lemmas.Bool.Decides.{Decides-int_eq}
use Rattle.std.specs.Ordering.{int_eq}
use Rattle.lie_datum.specs.Vectors.{plus, times, entry}
use Rattle.lie_datum.specs.RootList.{RootDatum, IsLoaded, IsNumber, root_of, IsRootVector}
use Rattle.lie_datum.proofs.Entries.{entry-plus, length-plus, length-times, same_entries, within_or_past}
use Rattle.lie_datum.proofs.LoadedLaws.{second}
use Rattle.lie_datum.proofs.SignedRoots.{root_is}
use Rattle.lie_const.specs.StructureConstants.{Table, coeffs_of, same_vector}
use Rattle.lie_const.specs.CommutatorTerms.{string_product, value_at, IsPair}
use Rattle.lie_const.specs.Adjoint.{adjoint_dimension, basis_vector, basis_place}
use Rattle.lie_const.proofs.Decisions.{root_or}
use Rattle.lie_const.proofs.SumLemmas.{long}
use Rattle.lie_weight.proofs.NumberOf.{same_vector-no}
use Rattle.lie_weight.proofs.BasisLemmas.{basis_cases}
use Rattle.lie_weight.proofs.PowerLemmas.{power_entry}
use Rattle.lie_weight.proofs.LineLemmas.{line, value-none}
use Rattle.lie_weight.proofs.ColumnLemmas.{cond_none, string_value, string_column}
use Rattle.lie_weight.proofs.SpecialColumns.{own_column, coroot_column, opposite_column}

-- two roots are equal, opposite or a pair
pub three_ways : (d : RootDatum) (r s : ℤ) → IsNumber d r → IsNumber d s → (s ≡ r) ⊎ ((s ≡ neg_ℤ r) ⊎ IsPair d r s)
three_ways d r s m n = by (int_eq s r) refl (int_eq s (neg_ℤ r)) refl
  where
    by : (a : Bool) → int_eq s r ≡ a → (b : Bool) → int_eq s (neg_ℤ r) ≡ b → (s ≡ r) ⊎ ((s ≡ neg_ℤ r) ⊎ IsPair d r s)
    by true e b f = inl ((Decides-int_eq s r).0 e)
    by false e true f = inr (inl ((Decides-int_eq s (neg_ℤ r)).0 f))
    by false e false f = inr (inr (record { left = m; right = n; unequal = λ q. (let g = (Decides-int_eq s r).1 q in cc); independent = λ q. (let g = (Decides-int_eq s (neg_ℤ r)).1 q in cc) }))

module _ (d : RootDatum) (loaded : IsLoaded d) (n : Table) (r s : ℤ) (pair : IsPair d r s) where
  -- a string_product is 0, or all roots on its way are there
  chain_or : (k : ℕ) → (string_product d n (coeffs_of d r) (coeffs_of d s) k ≡ pos 0) ⊎ ((j : ℕ) → j < k → IsRootVector d (line (coeffs_of d r) (coeffs_of d s) j))
  chain_or zero = inr (λ j l. absurd (omega (arith, l)))
  chain_or (suc k) =
      let R = coeffs_of d r in
      let S = coeffs_of d s in
      ⊎_elim
      (λ e. inl (ap (λ x. x *ℤ value_at d n R (line R S k)) e ∙ zero-*ℤ (value_at d n R (line R S k))))
      (λ h. ⊎_elim
      (λ f. inr (λ j l. ⊎_elim (λ m. h j m) (λ m. (let e : j ≡ k = omega (arith, l, m) in subst (λ x. IsRootVector d (line R S x)) (sym e) f)) (within_or_past j k)))
      (λ f. inl (ap (λ x. string_product d n R S k *ℤ x) (value-none d loaded r s pair n k f) ∙ *ℤ-zero (string_product d n R S k)))
      (root_or d loaded (line R S k)))
      (chain_or k)

  line-turned : (k : ℕ) → line (coeffs_of d r) (coeffs_of d s) k ≡ plus (coeffs_of d s) (times (pos k) (coeffs_of d r))
  line-turned k =
      let R = coeffs_of d r in
      let S = coeffs_of d s in
      let a = length-times (pos k) R ∙ long d loaded r pair.left in
      let b = long d loaded s pair.right in
      same_entries (line R S k) (plus S (times (pos k) R)) (length-plus (times (pos k) R) S 8 a b ∙ sym (length-plus S (times (pos k) R) 8 b a))
      (λ j. entry-plus (times (pos k) R) S j ∙ +ℤ_comm (entry (times (pos k) R) j) (entry S j) ∙ sym (entry-plus S (times (pos k) R) j))

  -- four steps from a root lead to no root
  no_fifth : (k : ℕ) → 4 ≤ k → IsRootVector d (line (coeffs_of d r) (coeffs_of d s) k) → string_product d n (coeffs_of d r) (coeffs_of d s) k ≡ pos 0
  no_fifth k h f = ⊎_elim (λ e. e)
      (λ g. absurd (let l = (second d loaded).run (root_of d r) (root_of d s) (suc k) (root_is d loaded r pair.left)
      (λ j m. subst (IsRootVector d) (line-turned j) (⊎_elim (λ q. g j q) (λ q. (let e : j ≡ k = omega (arith, m, q) in subst (λ x. IsRootVector d (line (coeffs_of d r) (coeffs_of d s) x)) (sym e) f)) (within_or_past j k))) in omega (arith, l, h)))
      (chain_or k)

  string_end : (k i : ℕ) → 4 ≤ k → i < adjoint_dimension d → string_value d loaded n r s pair k (basis_vector d i) ≡ pos 0
  string_end k i h l = ⊎_elim
      (λ t. ap (string_value d loaded n r s pair k) t.1.vector ∙ ⊎_elim
      (λ e. ap (λ c. cond (same_vector (coeffs_of d t.0) (line (coeffs_of d r) (coeffs_of d s) k)) c (pos 0)) (no_fifth k h e) ∙ cond_none (same_vector (coeffs_of d t.0) (line (coeffs_of d r) (coeffs_of d s) k)) (pos 0) refl)
      (λ f. ap (λ b. cond b (string_product d n (coeffs_of d r) (coeffs_of d s) k) (pos 0)) (same_vector-no (coeffs_of d t.0) (line (coeffs_of d r) (coeffs_of d s) k) (λ e. f (root_of d t.0, root_is d loaded t.0 t.1.number, e))))
      (root_or d loaded (line (coeffs_of d r) (coeffs_of d s) k)))
      (λ q. ap (string_value d loaded n r s pair k) q.1.vector)
      (basis_cases d i l)

-- e_r^k = 0 for k from 4 on
pub high_power : (d : RootDatum) → IsLoaded d → (n : Table) (r : ℤ) → IsNumber d r → (k i j : ℕ) → 4 ≤ k → i < adjoint_dimension d → j < adjoint_dimension d → power_entry d n r k i j ≡ pos 0
high_power d loaded n r m k i j h p q = ⊎_elim
    (λ s. ap (power_entry d n r k i) s.1.place ∙ ⊎_elim
    (λ e. ap (λ x. power_entry d n r k i (basis_place d x)) e ∙ own_column d loaded n r m k i (omega (arith, h)) p)
    (λ f. ⊎_elim
    (λ e. ap (λ x. power_entry d n r k i (basis_place d x)) e ∙ opposite_column d loaded n r m k i (omega (arith, h)) p)
    (λ pair. string_column d loaded n r s.0 pair k i p ∙ string_end d loaded n r s.0 pair k i h p) f)
    (three_ways d r s.0 m s.1.number))
    (λ c. ap (power_entry d n r k i) c.1.place ∙ coroot_column d loaded n r m c.0 c.1.index k i (omega (arith, h)) p)
    (basis_cases d j q)
