-- The powers of e_r in the adjoint module on e_s, where the roots r and s are neither equal nor opposite.
use Rattle.std.proofs.Common.{◌≡◌, ◌≢◌, ℕ, zero, suc, ◌-◌, ◌<◌, ℤ, pos, neg_ℤ, ◌*ℤ◌, refl, sym, ap, ap₂, ◌∙◌, inl, inr, ⊎_elim, cond, true, false, Bool}
use Rattle.std.proofs.Math.IntN.{*ℤ-zero, zero-*ℤ, *ℤ_comm}
use Rattle.std.proofs.lemmas.Bool.{cases_eq, eq-eqb, ne_eqb}
use Rattle.std.proofs.lemmas.Bool.Decides.{Decides-int_eq}
use Rattle.std.specs.Ordering.{int_eq}
use Rattle.lie_datum.specs.Vectors.{plus, entry as coordinate}
use Rattle.lie_datum.specs.RootList.{RootDatum, IsLoaded, IsNumber, root_of}
use Rattle.lie_datum.proofs.SignedRoots.{root_is, number_is}
use Rattle.lie_const.specs.StructureConstants.{Table, coeffs_of, same_vector}
use Rattle.lie_const.specs.CommutatorTerms.{string_product, IsPair}
use Rattle.lie_const.specs.Adjoint.{BasisVector, RootVector, CorootVector, adjoint_dimension, basis_vector, basis_place, bracket}
use Rattle.lie_const.proofs.Decisions.{root_or}
use Rattle.lie_weight.proofs.NumberOf.{one_number, same_vector-yes, same_vector-no}
use Rattle.lie_weight.proofs.BasisLemmas.{IsRootPlace, root_place, root_within, basis_cases}
use Rattle.lie_weight.proofs.PowerLemmas.{power_entry, power-none, power-zero, power-one}
use Rattle.lie_weight.proofs.LineLemmas.{line, line-next, line-none, on_line-independent, value-root, value-none}

-- numbers that differ are told apart
pub int_eq-no : (a b : ℤ) → a ≢ b → int_eq a b ≡ false
int_eq-no a b n = by (int_eq a b) refl
  where
    by : (t : Bool) → int_eq a b ≡ t → t ≡ false
    by true e = absurd (n ((Decides-int_eq a b).0 e))
    by false e = refl

-- and a number is itself
pub int_eq-yes : (a b : ℤ) → a ≡ b → int_eq a b ≡ true
int_eq-yes a b e = (Decides-int_eq a b).1 e

-- a product with a choice
cond_times : (b : Bool) (x c : ℤ) → cond b x (pos 0) *ℤ c ≡ cond b (c *ℤ x) (pos 0)
cond_times true x c = *ℤ_comm x c
cond_times false x c = zero-*ℤ c

pub cond_none : (b : Bool) (x : ℤ) → x ≡ pos 0 → cond b x (pos 0) ≡ pos 0
cond_none true x e = e
cond_none false x e = refl

module _ (d : RootDatum) (loaded : IsLoaded d) (n : Table) (r s : ℤ) (pair : IsPair d r s) where
  -- the coefficient in e_r^k e_s
  abbrev pub string_value : ℕ → BasisVector → ℤ
  string_value k (RootVector t) = cond (same_vector (coeffs_of d t) (line (coeffs_of d r) (coeffs_of d s) k)) (string_product d n (coeffs_of d r) (coeffs_of d s) k) (pos 0)
  string_value k (CorootVector i) = pos 0

  -- it is 0 at each root that is not on the line
  pub string_off : (k i : ℕ) → i < adjoint_dimension d → ((t : ℤ) → IsRootPlace d i t → coeffs_of d t ≢ line (coeffs_of d r) (coeffs_of d s) k) → string_value k (basis_vector d i) ≡ pos 0
  string_off k i l f = ⊎_elim
      (λ t. ap (string_value k) t.1.vector ∙ ap (λ b. cond b (string_product d n (coeffs_of d r) (coeffs_of d s) k) (pos 0)) (same_vector-no (coeffs_of d t.0) (line (coeffs_of d r) (coeffs_of d s) k) (f t.0 t.1)))
      (λ h. ap (string_value k) h.1.vector)
      (basis_cases d i l)

  -- and the coefficient of the string_product at the root that is
  pub string_on : (k : ℕ) (u : ℤ) (a : IsNumber d u) → coeffs_of d u ≡ line (coeffs_of d r) (coeffs_of d s) k → string_value k (basis_vector d (basis_place d u)) ≡ string_product d n (coeffs_of d r) (coeffs_of d s) k
  string_on k u a e = ap (string_value k) (root_place d u a).vector ∙ ap (λ b. cond b (string_product d n (coeffs_of d r) (coeffs_of d s) k) (pos 0)) (same_vector-yes (coeffs_of d u) (line (coeffs_of d r) (coeffs_of d s) k) e)

  -- places with one root on the line are one
  pub on_one : (k i : ℕ) (u : ℤ) → IsNumber d u → coeffs_of d u ≡ line (coeffs_of d r) (coeffs_of d s) k → i ≢ basis_place d u → (t : ℤ) → IsRootPlace d i t → coeffs_of d t ≢ line (coeffs_of d r) (coeffs_of d s) k
  on_one k i u a e o t p q = o (p.place ∙ ap (basis_place d) (one_number d loaded t u p.number a (q ∙ sym e)))

  -- e_r on a root of the line
  string_more : (k i : ℕ) (u : ℤ) → i < adjoint_dimension d → IsNumber d u → coeffs_of d u ≡ line (coeffs_of d r) (coeffs_of d s) k → bracket d n r (basis_vector d i) (RootVector u) *ℤ string_product d n (coeffs_of d r) (coeffs_of d s) k ≡ string_value (suc k) (basis_vector d i)
  string_more k i u l a e =
      let R = coeffs_of d r in
      let S = coeffs_of d s in
      let c = string_product d n R S k in
      ⊎_elim
      (λ t. ap (λ b. bracket d n r b (RootVector u) *ℤ c) t.1.vector
      ∙ ap (λ v. cond (same_vector (coeffs_of d t.0) (plus R v)) (n r u) (pos 0) *ℤ c) e
      ∙ cond_times (same_vector (coeffs_of d t.0) (plus R (line R S k))) (n r u) c
      ∙ ap₂ (λ v x. cond (same_vector (coeffs_of d t.0) v) (c *ℤ x) (pos 0)) (sym (line-next d loaded r s pair k)) (sym (value-root d loaded r s pair n k u a e))
      ∙ sym (ap (string_value (suc k)) t.1.vector))
      (λ h. ap (λ b. bracket d n r b (RootVector u) *ℤ c) h.1.vector
      ∙ ap (λ b. cond b (coordinate (root_of d r).co_coeffs (h.0 - 1)) (pos 0) *ℤ c) (int_eq-no u (neg_ℤ r) (on_line-independent d loaded r s pair k u a e))
      ∙ zero-*ℤ c
      ∙ sym (ap (string_value (suc k)) h.1.vector))
      (basis_cases d i l)

  -- the column of e_s in the matrix of e_r^k
  pub string_column : (k i : ℕ) → i < adjoint_dimension d → power_entry d n r k i (basis_place d s) ≡ string_value k (basis_vector d i)
  string_column zero i l =
      let j = basis_place d s in
      let start = sym (line-none d loaded r s pair) in
      power-none d n r i j l (root_within d s pair.right) ∙ elim (cases_eq i j) [
        | inl e ↦ ap (λ t. cond t (pos 1) (pos 0)) (eq-eqb i j e) ∙ sym (string_on 0 s pair.right start) ∙ ap (λ a. string_value 0 (basis_vector d a)) (sym e)
        | inr o ↦ ap (λ t. cond t (pos 1) (pos 0)) (ne_eqb i j o) ∙ sym (string_off 0 i l (on_one 0 i s pair.right start o))
      ]
  string_column (suc k) i l =
      let j = basis_place d s in
      let w = root_within d s pair.right in
      let R = coeffs_of d r in
      let S = coeffs_of d s in
      ⊎_elim
      (λ h. (let u = number_is d loaded h.0 h.1 in
      let e : coeffs_of d u.0 ≡ line R S k = ap (λ t. t.coeffs) u.2 ∙ h.2 in
      power-one d n r k j (basis_place d u.0) w (root_within d u.0 u.1) (λ p m o. string_column k p m ∙ string_off k p m (on_one k p u.0 u.1 e o)) i l
      ∙ ap₂ (λ b x. bracket d n r (basis_vector d i) b *ℤ x) (root_place d u.0 u.1).vector (string_column k (basis_place d u.0) (root_within d u.0 u.1) ∙ string_on k u.0 u.1 e)
      ∙ string_more k i u.0 l u.1 e))
      (λ f. (let none = value-none d loaded r s pair n k f in
      power-zero d n r k j w (λ p m. string_column k p m ∙ string_off k p m (λ t q e. f (root_of d t, root_is d loaded t q.number, e))) i l
      ∙ sym (⊎_elim
      (λ t. ap (string_value (suc k)) t.1.vector ∙ cond_none (same_vector (coeffs_of d t.0) (line R S (suc k))) (string_product d n R S (suc k)) (ap (λ x. string_product d n R S k *ℤ x) none ∙ *ℤ-zero (string_product d n R S k)))
      (λ h. ap (string_value (suc k)) h.1.vector)
      (basis_cases d i l))))
      (root_or d loaded (line R S k))
