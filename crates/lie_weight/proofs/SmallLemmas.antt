-- The matrices of the adjoint module have small entries.
use Rattle.std.proofs.Common.{◌≡◌, ℕ, zero, suc, ◌-◌, ◌<◌, ◌≤◌, ℤ, pos, negsuc, neg_ℤ, unsigned_abs, length, refl, sym, ap, subst, ◌∙◌, inl, inr, arith, ⊎_elim, cond, Bool, true, false}
use Rattle.std.proofs.lemmas.Bool.{cases_eq}
use Rattle.std.proofs.Math.Nat.{mul-le-mul_right}
use Rattle.std.proofs.lemmas.List.FromFn.{length-map-range_with_len}
use Rattle.lie_ring.specs.Matrices.{entry}
use Rattle.lie_ring.specs.MatrixLemmas.{table-same}
use Rattle.lie_datum.specs.RootDatum.{reflected, IsSimpleIndex, is_reflected}
use Rattle.lie_datum.specs.RootList.{RootDatum, IsLoaded, IsNumber, root_of}
use Rattle.lie_datum.proofs.Entries.{within_or_past}
use Rattle.lie_datum.proofs.LoadedLaws.{short}
use Rattle.lie_datum.proofs.SignedRoots.{root_is, number_is}
use Rattle.lie_const.specs.StructureConstants.{Table, StandsFor, coeffs_of, same_vector}
use Rattle.lie_const.specs.CommutatorTerms.{string_product, factorial, IsPair}
use Rattle.lie_const.specs.Modules.{Module, dimension, divided_power, top}
use Rattle.lie_const.specs.Adjoint.{IsAdjoint, RootVector, CorootVector, adjoint_dimension, basis_vector, basis_place, basis_weight, bracket}
use Rattle.lie_weight.specs.AdjointParts.{coroot_place, power_entry}
use Rattle.lie_weight.specs.Laws.{HasSmallMatrices}
use Rattle.lie_weight.proofs.BasisLemmas.{basis_cases}
use Rattle.lie_weight.proofs.LineLemmas.{line}
use Rattle.lie_weight.proofs.ColumnLemmas.{string_value, string_column}
use Rattle.lie_weight.proofs.SpecialColumns.{own_column, coroot_column-first, coroot_column, coroot_off, coroot_on, opposite_column-first, opposite_at_root, opposite_at_coroot, opposite_column-second_off, opposite_column-second_on, opposite_column}
use Rattle.lie_weight.proofs.EndLemmas.{three_ways, high_power}
use Rattle.lie_weight.proofs.BoundLemmas.{chain_small}
use Rattle.lie_weight.proofs.PairingLemmas.{co_coefficient_small, pairing_small}
use Rattle.lie_weight.proofs.Fills.{divided_small}

pub factorial-positive : (k : ℕ) → 1 ≤ factorial k
factorial-positive zero = omega arith
factorial-positive (suc k) =
    let h = factorial-positive k in
    let one : 1 ≤ suc k = omega arith in
    let more = mul-le-mul_right (factorial k) one in
    omega (arith, h, more)

none_small : (x : ℤ) (m : ℕ) → x ≡ pos 0 → unsigned_abs x ≤ m
none_small x m e = subst (λ y. unsigned_abs y ≤ m) (sym e) (omega arith)

choice_small : (b : Bool) (x : ℤ) (m : ℕ) → unsigned_abs x ≤ m → unsigned_abs (cond b x (pos 0)) ≤ m
choice_small true x m l = l
choice_small false x m l = omega arith

module _ (d : RootDatum) (loaded : IsLoaded d) (n : Table) (stands : StandsFor d n) (r : ℤ) (number : IsNumber d r) where
  coroot_small : (q : ℕ) → IsSimpleIndex d.base q → (i : ℕ) → i < adjoint_dimension d → unsigned_abs (bracket d n r (basis_vector d i) (CorootVector q)) ≤ 200
  coroot_small q h i l = elim (cases_eq i (basis_place d r)) [
    | inl e ↦
        let image = number_is d loaded (reflected d.base q (root_of d r)) (is_reflected q (root_of d r) h (root_is d loaded r number)) in
        subst (λ x. unsigned_abs x ≤ 200) (sym (ap (λ a. bracket d n r (basis_vector d a) (CorootVector q)) e ∙ coroot_on d loaded n r number q h)) (pairing_small d loaded r image.0 q h number image.1 image.2)
    | inr o ↦ none_small (bracket d n r (basis_vector d i) (CorootVector q)) 200 (coroot_off d loaded n r number q h i l o)
  ]

  opposite_first : (i : ℕ) → i < adjoint_dimension d → unsigned_abs (bracket d n r (basis_vector d i) (RootVector (neg_ℤ r))) ≤ 200
  opposite_first i l = ⊎_elim
      (λ t. none_small (bracket d n r (basis_vector d i) (RootVector (neg_ℤ r))) 200 (ap (λ b. bracket d n r b (RootVector (neg_ℤ r))) t.1.vector ∙ opposite_at_root d loaded n r number t.0 t.1.number))
      (λ h. subst (λ x. unsigned_abs x ≤ 200) (sym (ap (λ b. bracket d n r b (RootVector (neg_ℤ r))) h.1.vector ∙ opposite_at_coroot d loaded n r number h.0))
      (let s = co_coefficient_small d loaded r (h.0 - 1) number in omega (arith, s)))
      (basis_cases d i l)

  opposite_small : (k i : ℕ) → 1 ≤ k → i < adjoint_dimension d → unsigned_abs (power_entry d n r k i (basis_place d (neg_ℤ r))) ≤ 200
  opposite_small zero i h l = absurd (omega arith)
  opposite_small (suc zero) i h l = subst (λ x. unsigned_abs x ≤ 200) (sym (opposite_column-first d loaded n r number i l)) (opposite_first i l)
  opposite_small (suc (suc zero)) i h l = elim (cases_eq i (basis_place d r)) [
    | inl e ↦ subst (λ x. unsigned_abs x ≤ 200) (sym (ap (λ a. power_entry d n r 2 a (basis_place d (neg_ℤ r))) e ∙ opposite_column-second_on d loaded n r number)) (omega arith)
    | inr o ↦ none_small (power_entry d n r 2 i (basis_place d (neg_ℤ r))) 200 (opposite_column-second_off d loaded n r number i l o)
  ]
  opposite_small (suc (suc (suc k))) i h l = none_small (power_entry d n r (suc (suc (suc k))) i (basis_place d (neg_ℤ r))) 200 (opposite_column d loaded n r number (suc (suc (suc k))) i (omega arith) l)

  pair_small : (s : ℤ) → IsPair d r s → (k i : ℕ) → k ≤ 3 → i < adjoint_dimension d → unsigned_abs (power_entry d n r k i (basis_place d s)) ≤ 200
  pair_small s pair k i h l = subst (λ x. unsigned_abs x ≤ 200) (sym (string_column d loaded n r s pair k i l)) (⊎_elim
      (λ t. subst (λ x. unsigned_abs x ≤ 200) (sym (ap (string_value d loaded n r s pair k) t.1.vector))
      (choice_small (same_vector (coeffs_of d t.0) (line (coeffs_of d r) (coeffs_of d s) k)) (string_product d n (coeffs_of d r) (coeffs_of d s) k) 200 (let c = chain_small d loaded n stands r s pair k h in omega (arith, c))))
      (λ q. none_small (string_value d loaded n r s pair k (basis_vector d i)) 200 (ap (string_value d loaded n r s pair k) q.1.vector))
      (basis_cases d i l))

  coroot_power : (q : ℕ) → IsSimpleIndex d.base q → (k i : ℕ) → 1 ≤ k → i < adjoint_dimension d → unsigned_abs (power_entry d n r k i (coroot_place d q)) ≤ 200
  coroot_power q h zero i g l = absurd (omega arith)
  coroot_power q h (suc zero) i g l = subst (λ x. unsigned_abs x ≤ 200) (sym (coroot_column-first d loaded n r number q h i l)) (coroot_small q h i l)
  coroot_power q h (suc (suc k)) i g l = none_small (power_entry d n r (suc (suc k)) i (coroot_place d q)) 200 (coroot_column d loaded n r number q h (suc (suc k)) i (omega arith) l)

  -- an entry of a power is at most 200
  pub power_small : (k i j : ℕ) → 1 ≤ k → i < adjoint_dimension d → j < adjoint_dimension d → unsigned_abs (power_entry d n r k i j) ≤ 200
  power_small k i j h p q = ⊎_elim
      (λ low. ⊎_elim
      (λ s. subst (λ a. unsigned_abs (power_entry d n r k i a) ≤ 200) (sym s.1.place) (⊎_elim
      (λ e. none_small (power_entry d n r k i (basis_place d s.0)) 200 (ap (λ x. power_entry d n r k i (basis_place d x)) e ∙ own_column d loaded n r number k i h p))
      (λ f. ⊎_elim
      (λ e. subst (λ x. unsigned_abs (power_entry d n r k i (basis_place d x)) ≤ 200) (sym e) (opposite_small k i h p))
      (λ pair. pair_small s.0 pair k i (omega (arith, low)) p) f)
      (three_ways d r s.0 number s.1.number)))
      (λ c. subst (λ a. unsigned_abs (power_entry d n r k i a) ≤ 200) (sym c.1.place) (coroot_power c.0 c.1.index k i h p))
      (basis_cases d j q))
      (λ high. none_small (power_entry d n r k i j) 200 (high_power d loaded n r number k i j high p q))
      (within_or_past k 4)

module _ (d : RootDatum) (n : Table) (v : Module) (loaded : IsLoaded d) (stands : StandsFor d n) (adjoint : IsAdjoint d n v) where
  pub adjoint_dim : dimension v ≡ adjoint_dimension d
  adjoint_dim = ap length adjoint.weights ∙ length-map-range_with_len (λ a. basis_weight d (basis_vector d a)) 0 (adjoint_dimension d)

  small : (r : ℤ) (k i j m : ℕ) → IsNumber d r → 1 ≤ k → i < dimension v → j < dimension v → unsigned_abs (power_entry d n r k i j) ≤ m → unsigned_abs (entry (pos 0) (divided_power v r k) i j) ≤ m
  small r k i j m a h p q l =
      divided_small (factorial k) m (entry (pos 0) (divided_power v r k) i j) (power_entry d n r k i j) (factorial-positive k) (adjoint.powers r k i j a h (omega (arith, adjoint_dim, p)) (omega (arith, adjoint_dim, q))) l

  zero_from : (x : ℤ) → unsigned_abs x ≤ 0 → x ≡ pos 0
  zero_from (pos zero) l = refl
  zero_from (pos (suc k)) l = absurd (omega arith)
  zero_from (negsuc k) l = absurd (omega arith)

  -- a matrix past the third would be 0
  no_fourth : (r : ℤ) (k : ℕ) → IsNumber d r → 3 ≤ k → top v r ≡ suc k → ⊥
  no_fourth r k a h e = adjoint.is_module.last r k a e
      (adjoint.is_module.square r k a (omega (arith, e))
      ∙ table-same (dimension v) (dimension v) (entry (pos 0) (divided_power v r (suc k))) (λ _ _. pos 0)
      (λ i j p q. zero_from (entry (pos 0) (divided_power v r (suc k)) i j) (small r (suc k) i j 0 a (omega arith) p q
      (none_small (power_entry d n r (suc k) i j) 0 (high_power d loaded n r a (suc k) i j (omega (arith, h)) (omega (arith, adjoint_dim, p)) (omega (arith, adjoint_dim, q)))))))

  few : (r : ℤ) → IsNumber d r → top v r ≤ 3
  few r a = ⊎_elim (λ l. omega (arith, l)) (λ l. absurd (above (top v r) refl l)) (within_or_past (top v r) 4)
    where
      above : (t : ℕ) → top v r ≡ t → 4 ≤ t → ⊥
      above zero e l = absurd (omega (arith, l))
      above (suc k) e l = no_fourth r k a (omega (arith, l)) e

  pub adjoint_small : length d.positive ≤ 120 → HasSmallMatrices d v
  adjoint_small m = record {
    narrow = let s = short d loaded in omega (arith, adjoint_dim, m, s);
    top = few;
    entries = λ r k i j a h p q. small r k i j 200 a h p q (power_small d loaded n stands r a k i j h (omega (arith, adjoint_dim, p)) (omega (arith, adjoint_dim, q)));
  }
