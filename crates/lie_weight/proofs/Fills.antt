-- What a write to a matrix leaves of the filling of its column.
use Rattle.std.proofs.Common.{◌≡◌, ◌≢◌, ℕ, zero, suc, ◌+◌, ◌-◌, ◌<◌, ◌≤◌, ◌⊎◌, ℤ, pos, negsuc, neg_ℤ, ◌*ℤ◌, unsigned_abs, sym, ap, ap₂, subst, ◌∙◌, inl, inr, arith, ⊎_elim, length, List, Result, Ok, Err}
use Rattle.std.specs.Result.{OnOk}
use Rattle.std.proofs.Math.Nat.{mul-le-mul_right}
use Rattle.std.proofs.lemmas.Int.{ints, unsigned_abs-mul}
use Rattle.lie_ring.specs.Integers.{integers}
use Rattle.lie_ring.specs.Matrices.{Matrix, with_entry, AllFit}
use Rattle.lie_datum.specs.Vectors.{pairing, entry as coordinate}
use Rattle.lie_datum.specs.RootDatum.{rank, vector, simple_coroot, IsSimpleIndex}
use Rattle.lie_datum.specs.RootList.{RootDatum, IsLoaded, IsNumber, root_of}
use Rattle.lie_datum.proofs.ClosureLemmas.{in_from_contains, contains_from_in}
use Rattle.lie_datum.proofs.SignedRoots.{root_is}
use Rattle.lie_const.specs.declared.term.Term.{Term}
use Rattle.lie_const.specs.StructureConstants.{Table, StandsFor, coeffs_of}
use Rattle.lie_const.specs.CommutatorTerms.{string_product, factorial, IsPair, AreTerms}
use Rattle.lie_const.specs.Adjoint.{RootVector, adjoint_dimension, basis_place, bracket}
use Rattle.lie_weight.specs.AdjointParts.{coroot_place, power_entry, IsDivided, IsPartial}
use Rattle.lie_weight.specs.Terms.{IsTermHere, HasNoTerm}
use Rattle.lie_weight.proofs.BasisLemmas.{root_within, coroot_at, coroot_within, basis_cases}
use Rattle.lie_weight.proofs.ColumnLemmas.{string_column, string_off, string_on, on_one}
use Rattle.lie_weight.proofs.SpecialColumns.{coroot_column-first, coroot_off, coroot_on, opposite_column-first, opposite_at_root, opposite_at_coroot, opposite_column-second_off, opposite_column-second_on}
use Rattle.lie_weight.proofs.TermLemmas.{IsTermOf, term_found, term_none}
use Rattle.lie_weight.proofs.BoundLemmas.{chain_small}
use Rattle.lie_weight.proofs.Partials.{skipped, written, one_written, turned}

-- two facts on success give a third
pub on_ok : {A E : Type 0} (r : Result A E) {P Q R : Type 0} → OnOk r P → OnOk r Q → (P → Q → R) → OnOk r R
on_ok (Ok x) p q f = f p q
on_ok (Err e) p q f = tt

one_times : (x : ℤ) → pos 1 *ℤ x ≡ x
one_times x = omega (arith, ints)

-- a value is at most what its multiple is
pub divided_small : (f m : ℕ) (x y : ℤ) → 1 ≤ f → pos f *ℤ x ≡ y → unsigned_abs y ≤ m → unsigned_abs x ≤ m
divided_small f m x y h e l =
    let more = mul-le-mul_right (unsigned_abs x) h in
    let size = sym (unsigned_abs-mul (pos f) x) ∙ ap unsigned_abs e in
    omega (arith, more, size, l)

factorial_positive : (k : ℕ) → k ≤ 3 → 1 ≤ factorial k
factorial_positive zero l = omega arith
factorial_positive (suc zero) l = omega arith
factorial_positive (suc (suc zero)) l = omega arith
factorial_positive (suc (suc (suc zero))) l = omega arith
factorial_positive (suc (suc (suc (suc k)))) l = absurd (omega arith)

module _ (d : RootDatum) (n : Table) (r : ℤ) (k : ℕ) (M M' : Matrix ℤ) (row col row' col' : ℕ) (e : ℤ) where
  -- the only entry of a column is written
  pub set_one : row ≡ row' → col ≡ col' → M' ≡ with_entry (pos 0) M row col e → (AllFit integers M → AllFit integers M') → IsPartial d n r k M col' 0 → col' < adjoint_dimension d → row' < adjoint_dimension d →
      IsDivided d n r k e row' col' → ((i : ℕ) → i < adjoint_dimension d → i ≢ row' → power_entry d n r k i col' ≡ pos 0) → IsPartial d n r k M' (col' + 1) 0
  set_one a b q f p w x v z =
      let same = q ∙ ap₂ (λ s t. with_entry (pos 0) M s t e) a b in
      subst (λ N. IsPartial d n r k N (col' + 1) 0) (sym same) (one_written d n r k M col' row' e p w x v z (subst (AllFit integers) same (f p.fit)))

  -- the next row of a column is written
  pub set_next : row ≡ row' → col ≡ col' → M' ≡ with_entry (pos 0) M row col e → (AllFit integers M → AllFit integers M') → IsPartial d n r k M col' row' → col' < adjoint_dimension d → row' < adjoint_dimension d →
      IsDivided d n r k e row' col' → IsPartial d n r k M' col' (row' + 1)
  set_next a b q f p w x v =
      let same = q ∙ ap₂ (λ s t. with_entry (pos 0) M s t e) a b in
      subst (λ N. IsPartial d n r k N col' (row' + 1)) (sym same) (written d n r k M col' row' e p w x v (subst (AllFit integers) same (f p.fit)))

module _ (d : RootDatum) (loaded : IsLoaded d) (n : Table) (r : ℤ) (number : IsNumber d r) where
  -- the column of h_i has one entry, -<r, a_i^>
  pub coroot_divided : (i : ℕ) → IsSimpleIndex d.base i → (e : ℤ) → e ≡ neg_ℤ (pairing (vector d.base (root_of d r)) (simple_coroot d.base i)) → IsDivided d n r 1 e (basis_place d r) (coroot_place d i)
  coroot_divided i h e q = one_times e ∙ q ∙ sym (coroot_on d loaded n r number i h) ∙ sym (coroot_column-first d loaded n r number i h (basis_place d r) (root_within d r number))

  pub coroot_zero : (i : ℕ) → IsSimpleIndex d.base i → (j : ℕ) → j < adjoint_dimension d → j ≢ basis_place d r → power_entry d n r 1 j (coroot_place d i) ≡ pos 0
  coroot_zero i h j l o = coroot_column-first d loaded n r number i h j l ∙ coroot_off d loaded n r number i h j l o

  -- the column of e_(-r) has the coefficients of the coroot at the places of the h_i
  pub opposite_divided : (i : ℕ) → i < rank d.base → IsDivided d n r 1 (coordinate (root_of d r).co_coeffs i) (length d.positive + i) (basis_place d (neg_ℤ r))
  opposite_divided i l =
      let e : suc i - 1 ≡ i = omega arith in
      let at = coroot_at d (suc i) (omega arith, omega (arith, l)) in
      let place : length d.positive + i ≡ coroot_place d (suc i) = ap (λ x. length d.positive + x) (sym e) in
      one_times (coordinate (root_of d r).co_coeffs i)
      ∙ ap (coordinate (root_of d r).co_coeffs) (sym e)
      ∙ sym (ap (λ a. power_entry d n r 1 a (basis_place d (neg_ℤ r))) place
      ∙ opposite_column-first d loaded n r number (coroot_place d (suc i)) (coroot_within d (suc i) at.index)
      ∙ ap (λ b. bracket d n r b (RootVector (neg_ℤ r))) at.vector ∙ opposite_at_coroot d loaded n r number (suc i))

  opposite_zero : (j : ℕ) → j < adjoint_dimension d → (j < length d.positive) ⊎ (length d.positive + rank d.base ≤ j) → power_entry d n r 1 j (basis_place d (neg_ℤ r)) ≡ pos 0
  opposite_zero j l o = opposite_column-first d loaded n r number j l ∙ ⊎_elim
      (λ t. ap (λ b. bracket d n r b (RootVector (neg_ℤ r))) t.1.vector ∙ opposite_at_root d loaded n r number t.0 t.1.number)
      (λ h. absurd (let p = h.1.place in let a = h.1.index.0 in let b = h.1.index.1 in ⊎_elim (λ q. omega (arith, p, q)) (λ q. omega (arith, p, a, b, q)) o))
      (basis_cases d j l)

  -- before the first h_i
  pub coroots_begin : (M : Matrix ℤ) → IsPartial d n r 1 M (basis_place d (neg_ℤ r)) 0 → IsPartial d n r 1 M (basis_place d (neg_ℤ r)) (length d.positive)
  coroots_begin M p = skipped d n r 1 M (basis_place d (neg_ℤ r)) 0 (length d.positive) p (omega arith) (λ j l _ h. opposite_zero j l (inl h))

  -- after the last
  pub coroots_end : (M : Matrix ℤ) (h : ℕ) → length d.positive + rank d.base ≤ h → IsPartial d n r 1 M (basis_place d (neg_ℤ r)) h → IsPartial d n r 1 M (basis_place d (neg_ℤ r) + 1) 0
  coroots_end M h l p =
      let N = adjoint_dimension d in
      turned d n r 1 M (basis_place d (neg_ℤ r)) (h + N) (skipped d n r 1 M (basis_place d (neg_ℤ r)) h (h + N) p (omega arith) (λ j w x _. opposite_zero j w (inr (omega (arith, l, x))))) (omega arith)

  -- e_r^2 / 2 takes e_(-r) to -e_r
  pub second_divided : IsDivided d n r 2 (negsuc 0) (basis_place d r) (basis_place d (neg_ℤ r))
  second_divided = sym (opposite_column-second_on d loaded n r number)

  pub second_zero : (j : ℕ) → j < adjoint_dimension d → j ≢ basis_place d r → power_entry d n r 2 j (basis_place d (neg_ℤ r)) ≡ pos 0
  second_zero j l o = opposite_column-second_off d loaded n r number j l o

module _ (d : RootDatum) (loaded : IsLoaded d) (n : Table) (stands : StandsFor d n) (r s : ℤ) (pair : IsPair d r s) (ts : List Term) (terms : AreTerms d n r s ts) (k : ℕ) (first : 1 ≤ k) (last : k ≤ 3) where
  -- a term (k, 1) that was found
  pub found : (t : Term) → IsTermHere ts k t → IsTermOf d loaded n r s ts terms k t
  found t h = term_found d loaded n r s ts terms k t (in_from_contains ts t h.0) h.1 h.2

  pub found_small : (t : Term) → IsTermHere ts k t → unsigned_abs t.value ≤ 64
  found_small t h = divided_small (factorial k) 64 t.value (string_product d n (coeffs_of d r) (coeffs_of d s) k) (factorial_positive k last) (found t h).value (chain_small d loaded n stands r s pair k last)

  pub found_divided : (t : Term) → IsTermHere ts k t → (e : ℤ) → e ≡ t.value → IsDivided d n r k e (basis_place d t.root) (basis_place d s)
  found_divided t h e q =
      let f = found t h in
      ap (λ x. pos (factorial k) *ℤ x) q ∙ f.value ∙ sym (string_column d loaded n r s pair k (basis_place d t.root) (root_within d t.root f.number) ∙ string_on d loaded n r s pair k t.root f.number f.coeffs)

  pub found_zero : (t : Term) → IsTermHere ts k t → (j : ℕ) → j < adjoint_dimension d → j ≢ basis_place d t.root → power_entry d n r k j (basis_place d s) ≡ pos 0
  found_zero t h j l o =
      let f = found t h in
      string_column d loaded n r s pair k j l ∙ string_off d loaded n r s pair k j l (on_one d loaded n r s pair k j t.root f.number f.coeffs o)

  -- where there is no term
  pub not_found : HasNoTerm ts k → (j : ℕ) → j < adjoint_dimension d → power_entry d n r k j (basis_place d s) ≡ pos 0
  not_found h j l =
      let none = term_none d loaded n r s ts terms k first last (λ t i. h t (contains_from_in ts t i)) in
      string_column d loaded n r s pair k j l ∙ string_off d loaded n r s pair k j l (λ t q e. none (root_of d t, root_is d loaded t q.number, e))
