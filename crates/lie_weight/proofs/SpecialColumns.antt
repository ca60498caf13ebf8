-- The powers of e_r in the adjoint module on e_r, on e_(-r) and on the h_i.
use Rattle.std.proofs.Common.{◌≡◌, ◌≢◌, ℕ, zero, suc, ◌+◌, ◌-◌, ◌<◌, ◌≤◌, ℤ, pos, negsuc, neg_ℤ, ◌*ℤ◌, ◌+ℤ◌, [], ◌∷◌, length, map, get_or, refl, sym, ap, ap₂, ◌∙◌, arith, ⊎_elim, cond}
use Rattle.std.proofs.Math.IntN.{*ℤ-zero, zero-*ℤ, +ℤ_idl, +ℤ_idr}
use Rattle.std.proofs.Math.ListN.{length-map, get_or-map}
use Rattle.std.proofs.lemmas.Int.{ints}
use Rattle.lie_base.proofs.RingSolver.{ring, var, neg, ◌⊗◌}
use Rattle.lie_ring.specs.Rings.{sum_below}
use Rattle.lie_ring.specs.Integers.{integers}
use Rattle.lie_ring.specs.IntegerLaws.{integers_commutative}
use Rattle.lie_ring.specs.SumLemmas.{sum-same, sum-split, mul-sum}
use Rattle.lie_datum.specs.Vectors.{Vector, pairing, plus, entry as coordinate}
use Rattle.lie_datum.specs.RootDatum.{rank, vector, covector, simple_coroot, IsSimpleIndex}
use Rattle.lie_datum.specs.RootList.{RootDatum, IsLoaded, IsNumber, root_of}
use Rattle.lie_datum.proofs.Linear.{pairing-combination, pairing_comm}
use Rattle.lie_datum.proofs.LoadedLaws.{self}
use Rattle.lie_datum.proofs.SignedRoots.{root_is}
use Rattle.lie_const.specs.StructureConstants.{Table, coeffs_of}
use Rattle.lie_const.specs.Adjoint.{BasisVector, RootVector, CorootVector, adjoint_dimension, basis_vector, basis_place, bracket}
use Rattle.lie_const.proofs.SumLemmas.{neg_number, not_double, not_opposite}
use Rattle.lie_weight.proofs.NumberOf.{same_vector-no}
use Rattle.lie_weight.proofs.BasisLemmas.{IsRootPlace, IsCorootPlace, coroot_place, root_place, root_within, coroot_at, coroot_within, basis_cases}
use Rattle.lie_weight.proofs.PowerLemmas.{power_entry, bracket_at, int_sum-zeros, power-next, power-zero, power-one, power-first}
use Rattle.lie_weight.proofs.ColumnLemmas.{int_eq-no, int_eq-yes}

-- the first term of a sum, and the rest
pub int_sum-first : (n : ℕ) (f : ℕ → ℤ) → sum_below integers (suc n) f ≡ f 0 +ℤ sum_below integers n (λ k. f (suc k))
int_sum-first zero f = +ℤ_idl (f 0) ∙ sym (+ℤ_idr (f 0))
int_sum-first (suc n) f = let h = int_sum-first n f in let s = sum_below integers n (λ k. f (suc k)) in omega (arith, ints, h)

-- a pairing as a sum
pub pairing-sum : (x y : Vector) → pairing x y ≡ sum_below integers (length y) (λ k. coordinate x k *ℤ coordinate y k)
pairing-sum [] y = sym (int_sum-zeros (length y) (λ k. pos 0 *ℤ coordinate y k) (λ k _. zero-*ℤ (coordinate y k)))
pairing-sum (a ∷ x) [] = refl
pairing-sum (a ∷ x) (b ∷ y) = ap (λ t. a *ℤ b +ℤ t) (pairing-sum x y) ∙ sym (int_sum-first (length y) (λ k. coordinate (a ∷ x) k *ℤ coordinate (b ∷ y) k))

module _ (d : RootDatum) (loaded : IsLoaded d) (n : Table) (r : ℤ) (number : IsNumber d r) where
  not_opposite_itself : r ≢ neg_ℤ r
  not_opposite_itself = apart r number
    where
      apart : (k : ℤ) → IsNumber d k → k ≢ neg_ℤ k
      apart (pos zero) m e = cc
      apart (pos (suc j)) m e = let f = e in absurd (omega (arith, ints, f))
      apart (negsuc j) m e = let f = e in absurd (omega (arith, ints, f))

  -- ---- e_r e_r = 0
  bracket-own : (i : ℕ) → i < adjoint_dimension d → bracket d n r (basis_vector d i) (RootVector r) ≡ pos 0
  bracket-own i l = ⊎_elim
      (λ t. ap (λ b. bracket d n r b (RootVector r)) t.1.vector
      ∙ ap (λ b. cond b (n r r) (pos 0)) (same_vector-no (coeffs_of d t.0) (plus (coeffs_of d r) (coeffs_of d r)) (λ e. not_double d loaded r t.0 (record { left = number; right = number; number = t.1.number; is = e }))))
      (λ h. ap (λ b. bracket d n r b (RootVector r)) h.1.vector
      ∙ ap (λ b. cond b (coordinate (root_of d r).co_coeffs (h.0 - 1)) (pos 0)) (int_eq-no r (neg_ℤ r) not_opposite_itself))
      (basis_cases d i l)

  own_zero : (i : ℕ) → i < adjoint_dimension d → bracket_at d n r i (basis_place d r) ≡ pos 0
  own_zero i l = ap (bracket d n r (basis_vector d i)) (root_place d r number).vector ∙ bracket-own i l

  -- after a column that is 0 but at e_r comes a column of zeros
  after_own : (k j : ℕ) → j < adjoint_dimension d → ((p : ℕ) → p < adjoint_dimension d → p ≢ basis_place d r → power_entry d n r k p j ≡ pos 0) → (i : ℕ) → i < adjoint_dimension d → power_entry d n r (suc k) i j ≡ pos 0
  after_own k j w z i l =
      power-one d n r k j (basis_place d r) w (root_within d r number) z i l ∙ ap (λ x. x *ℤ power_entry d n r k (basis_place d r) j) (own_zero i l) ∙ zero-*ℤ (power_entry d n r k (basis_place d r) j)

  -- a column of zeros stays one
  stays_zero : (j k : ℕ) → j < adjoint_dimension d → ((i : ℕ) → i < adjoint_dimension d → power_entry d n r k i j ≡ pos 0) → (m i : ℕ) → i < adjoint_dimension d → power_entry d n r (m + k) i j ≡ pos 0
  stays_zero j k w z zero i l = let e : 0 + k ≡ k = omega arith in ap (λ x. power_entry d n r x i j) e ∙ z i l
  stays_zero j k w z (suc m) i l = let e : suc m + k ≡ suc (m + k) = omega arith in ap (λ x. power_entry d n r x i j) e ∙ power-zero d n r (m + k) j w (λ p q. stays_zero j k w z m p q) i l

  from : (j k m : ℕ) → j < adjoint_dimension d → ((i : ℕ) → i < adjoint_dimension d → power_entry d n r k i j ≡ pos 0) → k ≤ m → (i : ℕ) → i < adjoint_dimension d → power_entry d n r m i j ≡ pos 0
  from j k m w z h i l = let e : m ≡ (m - k) + k = omega (arith, h) in ap (λ x. power_entry d n r x i j) e ∙ stays_zero j k w z (m - k) i l

  -- the column of e_r
  pub own_column : (k i : ℕ) → 1 ≤ k → i < adjoint_dimension d → power_entry d n r k i (basis_place d r) ≡ pos 0
  own_column k i h l = from (basis_place d r) 1 k (root_within d r number) (λ i l. power-first d n r i (basis_place d r) l (root_within d r number) ∙ own_zero i l) h i l

  -- ---- e_r h_q
  module _ (q : ℕ) (index : IsSimpleIndex d.base q) where
    -- the column of h_q
    pub coroot_column-first : (i : ℕ) → i < adjoint_dimension d → power_entry d n r 1 i (coroot_place d q) ≡ bracket d n r (basis_vector d i) (CorootVector q)
    coroot_column-first i l = power-first d n r i (coroot_place d q) l (coroot_within d q index) ∙ ap (bracket d n r (basis_vector d i)) (coroot_at d q index).vector

    -- it is 0 but at e_r
    pub coroot_off : (i : ℕ) → i < adjoint_dimension d → i ≢ basis_place d r → bracket d n r (basis_vector d i) (CorootVector q) ≡ pos 0
    coroot_off i l o = ⊎_elim
        (λ t. ap (λ b. bracket d n r b (CorootVector q)) t.1.vector
        ∙ ap (λ b. cond b (neg_ℤ (pairing (vector d.base (root_of d r)) (simple_coroot d.base q))) (pos 0)) (int_eq-no t.0 r (λ e. o (t.1.place ∙ ap (basis_place d) e))))
        (λ h. ap (λ b. bracket d n r b (CorootVector q)) h.1.vector)
        (basis_cases d i l)

    pub coroot_on : bracket d n r (basis_vector d (basis_place d r)) (CorootVector q) ≡ neg_ℤ (pairing (vector d.base (root_of d r)) (simple_coroot d.base q))
    coroot_on = ap (λ b. bracket d n r b (CorootVector q)) (root_place d r number).vector ∙ ap (λ b. cond b (neg_ℤ (pairing (vector d.base (root_of d r)) (simple_coroot d.base q))) (pos 0)) (int_eq-yes r r refl)

    pub coroot_column : (k i : ℕ) → 2 ≤ k → i < adjoint_dimension d → power_entry d n r k i (coroot_place d q) ≡ pos 0
    coroot_column k i h l = from (coroot_place d q) 2 k (coroot_within d q index)
        (after_own 1 (coroot_place d q) (coroot_within d q index) (λ p m o. coroot_column-first p m ∙ coroot_off p m o)) h i l

  -- ---- e_r e_(-r)
  down : IsNumber d (neg_ℤ r)
  down = neg_number d loaded r number

  -- the column of e_(-r): h_r
  pub opposite_column-first : (i : ℕ) → i < adjoint_dimension d → power_entry d n r 1 i (basis_place d (neg_ℤ r)) ≡ bracket d n r (basis_vector d i) (RootVector (neg_ℤ r))
  opposite_column-first i l = power-first d n r i (basis_place d (neg_ℤ r)) l (root_within d (neg_ℤ r) down) ∙ ap (bracket d n r (basis_vector d i)) (root_place d (neg_ℤ r) down).vector

  pub opposite_at_root : (t : ℤ) → IsNumber d t → bracket d n r (RootVector t) (RootVector (neg_ℤ r)) ≡ pos 0
  opposite_at_root t m = ap (λ b. cond b (n r (neg_ℤ r)) (pos 0)) (same_vector-no (coeffs_of d t) (plus (coeffs_of d r) (coeffs_of d (neg_ℤ r)))
      (λ e. not_opposite d loaded r (neg_ℤ r) t (record { left = number; right = down; number = m; is = e }) refl))

  pub opposite_at_coroot : (q : ℕ) → bracket d n r (CorootVector q) (RootVector (neg_ℤ r)) ≡ coordinate (root_of d r).co_coeffs (q - 1)
  opposite_at_coroot q = ap (λ b. cond b (coordinate (root_of d r).co_coeffs (q - 1)) (pos 0)) (int_eq-yes (neg_ℤ r) (neg_ℤ r) refl)

  -- what the place p adds to the second power in the row of t
  abbrev second_term : BasisVector → ℕ → ℤ
  second_term b p = bracket d n r b (basis_vector d p) *ℤ bracket d n r (basis_vector d p) (RootVector (neg_ℤ r))

  second_at_root : (b : BasisVector) (p : ℕ) (t : ℤ) → IsRootPlace d p t → second_term b p ≡ pos 0
  second_at_root b p t at =
      ap (λ v. bracket d n r b (basis_vector d p) *ℤ bracket d n r v (RootVector (neg_ℤ r))) at.vector ∙ ap (λ x. bracket d n r b (basis_vector d p) *ℤ x) (opposite_at_root t at.number) ∙ *ℤ-zero (bracket d n r b (basis_vector d p))

  second_at_coroot : (b : BasisVector) (p q : ℕ) → IsCorootPlace d p q → second_term b p ≡ bracket d n r b (CorootVector q) *ℤ coordinate (root_of d r).co_coeffs (q - 1)
  second_at_coroot b p q at = ap (λ v. bracket d n r b v *ℤ bracket d n r v (RootVector (neg_ℤ r))) at.vector ∙ ap (λ x. bracket d n r b (CorootVector q) *ℤ x) (opposite_at_coroot q)

  -- the second power on e_(-r) is 0 but at e_r
  second_off : (i : ℕ) → i < adjoint_dimension d → i ≢ basis_place d r → sum_below integers (adjoint_dimension d) (second_term (basis_vector d i)) ≡ pos 0
  second_off i l o = int_sum-zeros (adjoint_dimension d) (second_term (basis_vector d i)) (λ p m. ⊎_elim
      (λ t. second_at_root (basis_vector d i) p t.0 t.1)
      (λ h. second_at_coroot (basis_vector d i) p h.0 h.1 ∙ ap (λ x. x *ℤ coordinate (root_of d r).co_coeffs (h.0 - 1)) (coroot_off h.0 h.1.index i l o) ∙ zero-*ℤ (coordinate (root_of d r).co_coeffs (h.0 - 1)))
      (basis_cases d p m))

  -- the places of the h_q are m, .., m + l - 1
  at_upper : (p : ℕ) → p < length d.positive → second_term (RootVector r) p ≡ pos 0
  at_upper p m = ⊎_elim
      (λ t. second_at_root (RootVector r) p t.0 t.1)
      (λ h. absurd (let e = h.1.place in omega (arith, e, m)))
      (basis_cases d p (omega (arith, m)))

  at_lower : (p : ℕ) → p < length d.positive → second_term (RootVector r) (length d.positive + rank d.base + p) ≡ pos 0
  at_lower p m = ⊎_elim
      (λ t. second_at_root (RootVector r) (length d.positive + rank d.base + p) t.0 t.1)
      (λ h. absurd (let e = h.1.place in let i = h.1.index.1 in let j = h.1.index.0 in omega (arith, e, i, j)))
      (basis_cases d (length d.positive + rank d.base + p) (omega (arith, m)))

  middle_sum : sum_below integers (rank d.base) (λ q. second_term (RootVector r) (length d.positive + q)) ≡ negsuc 1
  middle_sum =
      let R = root_of d r in
      let x = vector d.base R in
      let ys = map (λ v. pairing v x) d.base.coroots in
      sum-same integers (rank d.base) _ (λ q. negsuc 0 *ℤ (coordinate R.co_coeffs q *ℤ coordinate ys q)) (λ q m.
      let e : suc q - 1 ≡ q = omega arith in
      let at = coroot_at d (suc q) (omega arith, omega (arith, m)) in
      ap (λ k. second_term (RootVector r) (length d.positive + k)) (sym e)
      ∙ second_at_coroot (RootVector r) (coroot_place d (suc q)) (suc q) at
      ∙ ap (λ b. cond b (neg_ℤ (pairing x (simple_coroot d.base (suc q)))) (pos 0) *ℤ coordinate R.co_coeffs (suc q - 1)) (int_eq-yes r r refl)
      ∙ ap (λ k. neg_ℤ (pairing x (get_or d.base.coroots k [])) *ℤ coordinate R.co_coeffs k) e
      ∙ ap (λ t. neg_ℤ t *ℤ coordinate R.co_coeffs q) (pairing_comm x (get_or d.base.coroots q []) ∙ sym (get_or-map (λ v. pairing v x) d.base.coroots q []))
      ∙ turned (coordinate ys q) (coordinate R.co_coeffs q))
      ∙ sym (mul-sum integers integers_commutative (rank d.base) (negsuc 0) (λ q. coordinate R.co_coeffs q *ℤ coordinate ys q) refl (λ _ _. refl))
      ∙ ap (λ t. negsuc 0 *ℤ t) (
      ap (λ k. sum_below integers k (λ q. coordinate R.co_coeffs q *ℤ coordinate ys q)) (sym loaded.axioms.input.corank ∙ sym (length-map d.base.coroots (λ v. pairing v x)))
      ∙ sym (pairing-sum R.co_coeffs ys) ∙ sym (pairing-combination R.co_coeffs d.base.coroots x) ∙ pairing_comm (covector d.base R) x ∙ self d loaded R (root_is d loaded r number))
    where
      turned : (y c : ℤ) → neg_ℤ y *ℤ c ≡ negsuc 0 *ℤ (c *ℤ y)
      turned y c = ring (y ∷ (c ∷ [])) (neg (var 0) ⊗ var 1) (neg (var 1 ⊗ var 0)) refl ∙ once (c *ℤ y)
        where
          once : (z : ℤ) → neg_ℤ z ≡ negsuc 0 *ℤ z
          once z = omega (arith, ints)

  second_on : sum_below integers (adjoint_dimension d) (second_term (RootVector r)) ≡ negsuc 1
  second_on =
      let f = second_term (RootVector r) in
      let m = length d.positive in
      let l = rank d.base in
      sum-split integers integers_commutative (m + l) m f (λ _ _. refl)
      ∙ ap₂ ◌+ℤ◌ (sum-split integers integers_commutative m l f (λ _ _. refl) ∙ ap₂ ◌+ℤ◌ (int_sum-zeros m f at_upper) middle_sum) (int_sum-zeros m (λ k. f (m + l + k)) at_lower)

  second_is : (i : ℕ) → i < adjoint_dimension d → power_entry d n r 2 i (basis_place d (neg_ℤ r)) ≡ sum_below integers (adjoint_dimension d) (second_term (basis_vector d i))
  second_is i l = power-next d n r 1 i (basis_place d (neg_ℤ r)) l (root_within d (neg_ℤ r) down) ∙ sum-same integers (adjoint_dimension d) _ _ (λ p m. ap (λ x. bracket_at d n r i p *ℤ x) (opposite_column-first p m))

  -- e_r^2 e_(-r) = -2 e_r
  pub opposite_column-second_off : (i : ℕ) → i < adjoint_dimension d → i ≢ basis_place d r → power_entry d n r 2 i (basis_place d (neg_ℤ r)) ≡ pos 0
  opposite_column-second_off i l o = second_is i l ∙ second_off i l o

  pub opposite_column-second_on : power_entry d n r 2 (basis_place d r) (basis_place d (neg_ℤ r)) ≡ negsuc 1
  opposite_column-second_on =
      second_is (basis_place d r) (root_within d r number) ∙ ap (λ b. sum_below integers (adjoint_dimension d) (second_term b)) (root_place d r number).vector ∙ second_on

  pub opposite_column : (k i : ℕ) → 3 ≤ k → i < adjoint_dimension d → power_entry d n r k i (basis_place d (neg_ℤ r)) ≡ pos 0
  opposite_column k i h l = from (basis_place d (neg_ℤ r)) 3 k (root_within d (neg_ℤ r) down)
      (after_own 2 (basis_place d (neg_ℤ r)) (root_within d (neg_ℤ r) down) opposite_column-second_off) h i l
