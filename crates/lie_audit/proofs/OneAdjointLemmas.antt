-- One adjoint module: tables that stand for a datum agree wherever the bracket reads them, so the powers of the e_r are the same,
-- and k! divides out. One table of signs: its members are the entries of the module, and there are no others.
-- Source: any text on Chevalley groups, as that of Carter.
use Rattle.std.proofs.Common.{◌≡◌, ℕ, zero, suc, ◌+◌, ◌-◌, ◌*◌, ◌<◌, ◌≤◌, ℤ, pos, ◌*ℤ◌, List, length, get_or, refl, sym, ap, ap₂, subst, ◌∙◌, arith, ⊎_elim, cond, true, false, Bool}
use Rattle.std.proofs.Math.IntN.{*ℤ_comm}
use Rattle.std.proofs.lemmas.Int.{ints}
use Rattle.std.proofs.lemmas.List.{get_or_past, ext_get_or}
use Rattle.lie_ring.specs.Integers.{integers}
use Rattle.lie_ring.specs.Matrices.{table, entry, zero_matrix}
use Rattle.lie_ring.specs.MatrixLemmas.{table-same, table-shaped}
use Rattle.lie_ring.specs.SumLemmas.{sum-same}
use Rattle.lie_datum.specs.Vectors.{plus}
use Rattle.lie_datum.specs.Numbers.{place, number_at}
use Rattle.lie_datum.specs.RootDatum.{rank}
use Rattle.lie_datum.specs.RootList.{RootDatum, IsLoaded, IsNumber}
use Rattle.lie_datum.proofs.Entries.{within_or_past}
use Rattle.lie_datum.proofs.NumberLemmas.{numbered_at}
use Rattle.lie_const.specs.StructureConstants.{Table, StandsFor, coeffs_of, same_vector}
use Rattle.lie_const.specs.CommutatorTerms.{factorial}
use Rattle.lie_const.specs.Modules.{Module, IsModule, dimension, divided_powers, divided_power, top}
use Rattle.lie_const.specs.Adjoint.{RootVector, adjoint_dimension, bracket, IsAdjointOf}
use Rattle.lie_const.specs.Signs.{SignTable, sign_entry, HasSignCount}
use Rattle.lie_const.proofs.Norms.{cancel}
use Rattle.lie_const.proofs.Unique.{unique}
use Rattle.lie_weight.proofs.BasisLemmas.{basis_cases}
use Rattle.lie_weight.proofs.PowerLemmas.{power_entry, bracket_at, power-next}
use Rattle.lie_weight.proofs.SmallLemmas.{factorial-positive, adjoint_dim}
use Rattle.lie_weight.proofs.UniqueLemmas.{one_module}
use Rattle.lie_audit.specs.SignAnswers.{AreTestedSigns}

-- ---- two tables give the same powers
module _ (d : RootDatum) (loaded : IsLoaded d) (n m : Table) (stands : StandsFor d n) (also : StandsFor d m) (r : ℤ) (number : IsNumber d r) where
  -- the bracket reads N_rs only where r + s is a root
  bracket_roots : (t s : ℤ) → IsNumber d t → IsNumber d s → bracket d n r (RootVector t) (RootVector s) ≡ bracket d m r (RootVector t) (RootVector s)
  bracket_roots t s a b = by (same_vector (coeffs_of d t) (plus (coeffs_of d r) (coeffs_of d s))) refl
    where
      by : (x : Bool) → same_vector (coeffs_of d t) (plus (coeffs_of d r) (coeffs_of d s)) ≡ x → cond x (n r s) (pos 0) ≡ cond x (m r s) (pos 0)
      by true e = unique d loaded n m stands also r s number b
      by false e = refl

  bracket_same : (i j : ℕ) → i < adjoint_dimension d → j < adjoint_dimension d → bracket_at d n r i j ≡ bracket_at d m r i j
  bracket_same i j p q = ⊎_elim
      (λ t. ⊎_elim
      (λ s. ap₂ (bracket d n r) t.1.vector s.1.vector ∙ bracket_roots t.0 s.0 t.1.number s.1.number ∙ sym (ap₂ (bracket d m r) t.1.vector s.1.vector))
      (λ h. ap₂ (bracket d n r) t.1.vector h.1.vector ∙ sym (ap₂ (bracket d m r) t.1.vector h.1.vector))
      (basis_cases d j q))
      (λ g. ⊎_elim
      (λ s. ap₂ (bracket d n r) g.1.vector s.1.vector ∙ sym (ap₂ (bracket d m r) g.1.vector s.1.vector))
      (λ h. ap₂ (bracket d n r) g.1.vector h.1.vector ∙ sym (ap₂ (bracket d m r) g.1.vector h.1.vector))
      (basis_cases d j q))
      (basis_cases d i p)

  power_same : (k i j : ℕ) → i < adjoint_dimension d → j < adjoint_dimension d → power_entry d n r k i j ≡ power_entry d m r k i j
  power_same zero i j p q = refl
  power_same (suc k) i j p q =
      power-next d n r k i j p q
      ∙ sum-same integers (adjoint_dimension d) _ _ (λ l o. ap₂ (λ x y. x *ℤ y) (bracket_same i l p o) (power_same k l j o q))
      ∙ sym (power-next d m r k i j p q)

-- ---- two adjoint modules
-- a number not 0 divides out
divided_same : (k : ℕ) (x y a : ℤ) → pos (factorial k) *ℤ x ≡ a → pos (factorial k) *ℤ y ≡ a → x ≡ y
divided_same k x y a e f =
    let some = factorial-positive k in
    cancel x y (pos (factorial k)) (omega (arith, ints, some)) (*ℤ_comm x (pos (factorial k)) ∙ e ∙ sym f ∙ *ℤ_comm (pos (factorial k)) y)

-- each matrix of a module is the table of its entries
power_table : (d : RootDatum) (v : Module) (r : ℤ) (k : ℕ) → IsModule d v → IsNumber d r → divided_power v r (suc k) ≡ table (dimension v) (dimension v) (entry (pos 0) (divided_power v r (suc k)))
power_table d v r k shape a = ⊎_elim
    (λ l. shape.square r k a l)
    (λ l. (let past = get_or_past (divided_powers v r) k (zero_matrix (pos 0) (dimension v) (dimension v)) l in
    past ∙ table-shaped (pos 0) (dimension v) (dimension v) (λ _ _. pos 0) ∙ ap (λ M. table (dimension v) (dimension v) (entry (pos 0) M)) (sym past)))
    (within_or_past k (top v r))

module _ (d : RootDatum) (loaded : IsLoaded d) (v w : Module) (first : IsAdjointOf d v) (second : IsAdjointOf d w) where
  weights_same : w.weights ≡ v.weights
  weights_same = second.2.weights ∙ sym first.2.weights

  matrix_same : (r : ℤ) (k : ℕ) → IsNumber d r → 1 ≤ k → divided_power w r k ≡ divided_power v r k
  matrix_same r zero a one = absurd (omega (arith, one))
  matrix_same r (suc k) a one =
      let dim : dimension v ≡ adjoint_dimension d = adjoint_dim d first.0 v loaded first.1 first.2 in
      power_table d w r k second.2.is_module a
      ∙ ap (λ n. table n n (entry (pos 0) (divided_power w r (suc k)))) (ap length weights_same)
      ∙ table-same (dimension v) (dimension v) (entry (pos 0) (divided_power w r (suc k))) (entry (pos 0) (divided_power v r (suc k)))
      (λ i j p q. (let p' = subst (λ h. i < h) dim p in
      let q' = subst (λ h. j < h) dim q in
      divided_same (suc k) (entry (pos 0) (divided_power w r (suc k)) i j) (entry (pos 0) (divided_power v r (suc k)) i j) (power_entry d first.0 r (suc k) i j)
      (second.2.powers r (suc k) i j a one p' q' ∙ power_same d loaded second.0 first.0 second.1 first.1 r a (suc k) i j p' q') (first.2.powers r (suc k) i j a one p' q')))
      ∙ sym (power_table d v r k first.2.is_module a)

  pub one_adjoint : v ≡ w
  one_adjoint = sym (one_module d v w first.2.is_module second.2.is_module weights_same matrix_same)

-- ---- two tables of signs
-- a place in rows of n
row_place : (rows n k : ℕ) → k < rows * n → (a : ℕ) × (h : ℕ) × (a < rows) × (h < n) × (k ≡ a * n + h)
row_place zero n k l = absurd (let e : zero * n ≡ 0 = omega arith in omega (arith, l, e))
row_place (suc rows) n k l =
    let e : suc rows * n ≡ rows * n + n = omega arith in
    ⊎_elim
    (λ low. (let x = row_place rows n k low in let b = x.2 in (x.0, x.1, omega (arith, b), x.3, x.4)))
    (λ high. (rows, k - rows * n, omega arith, omega (arith, l, e, high), omega (arith, high)))
    (within_or_past k (rows * n))

module _ (d : RootDatum) (v : Module) where
  sign_at : (t : SignTable) → AreTestedSigns d v t → (a h : ℕ) → a < rank d.base → h < 2 * length d.positive →
      get_or t.signs (a * (2 * length d.positive) + h) (pos 1) ≡ sign_entry d v (suc a) (number_at (length d.positive) h)
  sign_at t p a h l q =
      let m = length d.positive in
      let s = number_at m h in
      let at = numbered_at d h q in
      let one : suc a - 1 ≡ a = omega arith in
      let index : (suc a - 1) * (2 * t.positive) + place t.positive s ≡ a * (2 * m) + h =
      ap (λ k. (suc a - 1) * (2 * k) + place k s) p.table.positive ∙ ap (λ k. k * (2 * m) + place m s) one ∙ ap (λ k. a * (2 * m) + k) at.place in
      ap (λ k. get_or t.signs k (pos 1)) (sym index) ∙ p.signs.entries (suc a) s (omega arith, omega (arith, l)) at.number

  pub one_sign_table : (t u : SignTable) → HasSignCount t → HasSignCount u → AreTestedSigns d v t → AreTestedSigns d v u → t ≡ u
  one_sign_table t u p q a b =
      let m = length d.positive in
      let count : length t.signs ≡ rank d.base * (2 * m) = p ∙ ap₂ (λ k l. k * (2 * l)) a.table.rank a.table.positive in
      let other : length u.signs ≡ rank d.base * (2 * m) = q ∙ ap₂ (λ k l. k * (2 * l)) b.table.rank b.table.positive in
      let signs : t.signs ≡ u.signs = ext_get_or (pos 1) t.signs u.signs (count ∙ sym other) (λ k l.
      (let x = row_place (rank d.base) (2 * m) k (subst (λ c. k < c) count l) in
      ap (λ j. get_or t.signs j (pos 1)) x.4 ∙ sign_at t a x.0 x.1 x.2 x.3 ∙ sym (sign_at u b x.0 x.1 x.2 x.3) ∙ sym (ap (λ j. get_or u.signs j (pos 1)) x.4))) in
      let make : ℕ → ℕ → List ℤ → SignTable = λ k l xs. record { rank = k; positive = l; signs = xs } in
      ap (λ k. make k t.positive t.signs) (a.table.rank ∙ sym b.table.rank)
      ∙ ap (λ l. make u.rank l t.signs) (a.table.positive ∙ sym b.table.positive)
      ∙ ap (make u.rank u.positive) signs
