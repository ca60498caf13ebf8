-- What is known of the entries that are not graded, one entry, column, power and root further.
use Rattle.std.proofs.Common.{◌≡◌, ℕ, zero, suc, ◌+◌, ◌-◌, ◌*◌, ◌<◌, ◌≤◌, ◌⊎◌, ℤ, pos, neg_ℤ, ◌^◌, length, sym, ap, subst, ◌∙◌, arith, inl, inr}
use mir.Syntax.{w128}
use mir.Val.{to_z, of_z}
use Rattle.std.specs.Prelude.{◌-ℤ◌}
use Rattle.std.proofs.lemmas.Int.{ints, to_z-of_z, fits_signed_from_abs}
use Rattle.std.proofs.lemmas.Bool.{cases_lt}
use Rattle.lie_const.proofs.PlaceLemmas.{abs_neg}
use Rattle.lie_const.proofs.SumLemmas.{neg_neg}
use Rattle.std.proofs.lemmas.List.{get_or_past}
use Rattle.lie_ring.specs.Matrices.{Matrix, entry, zero_matrix}
use Rattle.lie_ring.specs.MatrixLemmas.{entry-table}
use Rattle.lie_mat.specs.Kept.{AreZeros}
use Rattle.lie_datum.specs.Numbers.{place, number_at}
use Rattle.lie_datum.specs.RootList.{RootDatum, IsNumber}
use Rattle.lie_datum.proofs.NumberLemmas.{place_within, numbered_at}
use Rattle.lie_datum.proofs.SignedRoots.{same_place}
use Rattle.lie_const.specs.Modules.{Module, dimension, top, divided_power, divided_powers}
use Rattle.lie_identities.specs.Audit.{IsUngraded, IsGraded, IsEntryBefore, IsBefore, IsFirstUngraded}
use Rattle.lie_identities.specs.Grading.{IsGradedColumn, IsFirstInColumn, IsGradedPower, IsFirstInPower, IsGradedRoot, IsFirstAtRoot}

-- the multiple that is taken away, as it is read
pub read-negative : (k : ℕ) (z : ℤ) → k < 2 ^ 32 → z ≡ pos k → neg_ℤ (to_z w128 (of_z w128 (pos 0 -ℤ to_z w128 (of_z w128 z)))) ≡ pos k
read-negative k z l e =
    let inner : to_z w128 (of_z w128 z) ≡ pos k = ap (λ x. to_z w128 (of_z w128 x)) e ∙ to_z-of_z w128 (pos k) (fits_signed_from_abs w128 (pos k) (omega (arith, l))) in
    let turned : pos 0 -ℤ pos k ≡ neg_ℤ (pos k) = omega (arith, ints) in
    let size = abs_neg (pos k) in
    ap (λ x. neg_ℤ (to_z w128 (of_z w128 x))) (ap (λ x. pos 0 -ℤ x) inner ∙ turned)
    ∙ ap neg_ℤ (to_z-of_z w128 (neg_ℤ (pos k)) (fits_signed_from_abs w128 (neg_ℤ (pos k)) (omega (arith, l, size))))
    ∙ neg_neg (pos k)

module _ (d : RootDatum) (v : Module) (r : ℤ) (k b : ℕ) where
  -- an entry that is 0 is graded
  pub zero-graded : (M : Matrix ℤ) → M ≡ divided_power v r k → (from n : ℕ) → ((a : ℕ) → a < from → ¬ IsUngraded d v r k a b) → AreZeros (pos 0) M b from n → (a : ℕ) → a < n → ¬ IsUngraded d v r k a b
  zero-graded M same from n before zeros a l u = elim (cases_lt a from) [
    | inl low ↦ before a low u
    | inr high ↦ u.nonzero (ap (λ N. entry (pos 0) N a b) (sym same) ∙ zeros a high l)
  ]

  -- past the last row there is none
  pub past-graded : (n : ℕ) → dimension v ≤ n → ((a : ℕ) → a < n → ¬ IsUngraded d v r k a b) → IsGradedColumn d v r k b
  past-graded n l h a u = let w = u.row in h a (omega (arith, l, w)) u

  -- one row more, which is graded
  pub row-more : (a : ℕ) → ((i : ℕ) → i < a → ¬ IsUngraded d v r k i b) → ¬ IsUngraded d v r k a b → (i : ℕ) → i < a + 1 → ¬ IsUngraded d v r k i b
  row-more a before here i l u = elim (cases_lt i a) [
    | inl low ↦ before i low u
    | inr high ↦ let e : i ≡ a = omega (arith, l, high) in here (subst (λ j. IsUngraded d v r k j b) e u)
  ]

module _ (d : RootDatum) (v : Module) (r : ℤ) (k : ℕ) where
  -- one column more
  pub column-more : (n : ℕ) → ((a b : ℕ) → b < n → ¬ IsUngraded d v r k a b) → IsGradedColumn d v r k n → (a b : ℕ) → b < n + 1 → ¬ IsUngraded d v r k a b
  column-more n before here a b l u = elim (cases_lt b n) [
    | inl low ↦ before a b low u
    | inr high ↦ let e : b ≡ n = omega (arith, l, high) in here a (subst (λ j. IsUngraded d v r k a j) e u)
  ]

  -- the last column
  pub columns-all : (n : ℕ) → dimension v ≤ n → ((a b : ℕ) → b < n → ¬ IsUngraded d v r k a b) → IsGradedPower d v r k
  columns-all n l h a b u = let w = u.col in h a b (omega (arith, l, w)) u

  -- the first of a column, where the columns before it are graded
  pub first-in_power : (a b : ℕ) → ((i j : ℕ) → j < b → ¬ IsUngraded d v r k i j) → IsFirstInColumn d v r k b a → IsFirstInPower d v r k a b
  first-in_power a b before first = record {
    here = first.here;
    earlier = λ i j. earlier i j;
  }
    where
      earlier : (i j : ℕ) → IsEntryBefore i j a b → ¬ IsUngraded d v r k i j
      earlier i j (inl l) u = before i j l u
      earlier i j (inr p) u = first.earlier i p.1 (subst (λ m. IsUngraded d v r k i m) p.0 u)

module _ (d : RootDatum) (v : Module) (r : ℤ) where
  -- no power before the first
  pub power-none : (n a b : ℕ) → n ≤ 0 → ¬ IsUngraded d v r n a b
  power-none n a b l u = let f = u.first in absurd (omega (arith, l, f))

  -- one power more
  pub power-more : (k : ℕ) → ((n a b : ℕ) → n ≤ k → ¬ IsUngraded d v r n a b) → IsGradedPower d v r (k + 1) → (n a b : ℕ) → n ≤ k + 1 → ¬ IsUngraded d v r n a b
  power-more k before here n a b l u = elim (cases_lt k n) [
    | inl high ↦ let e : n ≡ k + 1 = omega (arith, l, high) in here a b (subst (λ m. IsUngraded d v r m a b) e u)
    | inr low ↦ before n a b low u
  ]

  -- a power past the last is 0
  pub powers-all : (k : ℕ) → top v r ≤ k → ((n a b : ℕ) → n ≤ k → ¬ IsUngraded d v r n a b) → IsGradedRoot d v r
  powers-all k l h n a b u = elim (cases_lt k n) [
    | inl high ↦ u.nonzero (past n a b u.row u.col (omega (arith, l, high)))
    | inr low ↦ h n a b low u
  ]
    where
      past : (n a b : ℕ) → a < dimension v → b < dimension v → top v r < n → entry (pos 0) (divided_power v r n) a b ≡ pos 0
      past zero a b p q l = absurd (omega (arith, l))
      past (suc n) a b p q l =
          ap (λ M. entry (pos 0) M a b) (get_or_past (divided_powers v r) n (zero_matrix (pos 0) (dimension v) (dimension v)) (omega (arith, l)))
          ∙ entry-table (pos 0) (dimension v) (dimension v) (λ _ _. pos 0) a b p q

  -- the first of a power, where the powers before it are graded
  pub first-at_root : (k a b : ℕ) → ((n i j : ℕ) → n ≤ k → ¬ IsUngraded d v r n i j) → IsFirstInPower d v r (k + 1) a b → IsFirstAtRoot d v r (k + 1) a b
  first-at_root k a b before first = record {
    here = first.here;
    earlier = λ l i j. earlier l i j;
  }
    where
      earlier : (l i j : ℕ) → (l < k + 1) ⊎ ((l ≡ k + 1) × IsEntryBefore i j a b) → ¬ IsUngraded d v r l i j
      earlier l i j (inl p) u = before l i j (omega (arith, p)) u
      earlier l i j (inr p) u = first.earlier i j p.1 (subst (λ m. IsUngraded d v r m i j) p.0 u)

module _ (d : RootDatum) (v : Module) where
  -- the number of a root at its place
  number_there : (q : ℤ) (p : ℕ) → IsNumber d q → place (length d.positive) q ≡ p → q ≡ number_at (length d.positive) p
  number_there q p n e =
      let m = length d.positive in
      let w = place_within d q n in
      let l : p < 2 * m = omega (arith, w.2, e) in
      let at = numbered_at d p l in
      same_place m q (number_at m p) w (place_within d (number_at m p) at.number) (e ∙ sym at.place)

  -- one root more
  pub root-more : (p : ℕ) (r : ℤ) → r ≡ number_at (length d.positive) p → ((q : ℤ) (n a b : ℕ) → place (length d.positive) q < p → ¬ IsUngraded d v q n a b) → IsGradedRoot d v r → (q : ℤ) (n a b : ℕ) → place (length d.positive) q < p + 1 → ¬ IsUngraded d v q n a b
  root-more p r is before here q n a b l u = elim (cases_lt (place (length d.positive) q) p) [
    | inl low ↦ before q n a b low u
    | inr high ↦
        let e : place (length d.positive) q ≡ p = omega (arith, l, high) in
        here n a b (subst (λ s. IsUngraded d v s n a b) (number_there q p u.number e ∙ sym is) u)
  ]

  -- the last root
  pub roots-all : (p : ℕ) → 2 * length d.positive ≤ p → ((q : ℤ) (n a b : ℕ) → place (length d.positive) q < p → ¬ IsUngraded d v q n a b) → IsGraded d v
  roots-all p l h r k a b u = let w = (place_within d r u.number).2 in h r k a b (omega (arith, l, w)) u

  -- the first of a root, where the roots before it are graded; rows and columns count from 1
  pub first-of_all : (p : ℕ) (r : ℤ) (k a b : ℕ) → p < 2 * length d.positive → r ≡ number_at (length d.positive) p → ((q : ℤ) (n i j : ℕ) → place (length d.positive) q < p → ¬ IsUngraded d v q n i j) → IsFirstAtRoot d v r k a b → IsFirstUngraded d v r k (a + 1) (b + 1)
  first-of_all p r k a b l is before first =
      let m = length d.positive in
      let row : a ≡ a + 1 - 1 = omega arith in
      let col : b ≡ b + 1 - 1 = omega arith in
      let at : place m r ≡ p = ap (place m) is ∙ (numbered_at d p l).place in
      record {
        row_first = omega arith;
        col_first = omega arith;
        here = subst (λ i. IsUngraded d v r k i (b + 1 - 1)) row (subst (λ j. IsUngraded d v r k a j) col first.here);
        earlier = λ q n i j. earlier at row col q n i j;
      }
    where
      earlier : place (length d.positive) r ≡ p → a ≡ a + 1 - 1 → b ≡ b + 1 - 1 → (q : ℤ) (n i j : ℕ) → IsBefore d q n i j r k (a + 1 - 1) (b + 1 - 1) → ¬ IsUngraded d v q n i j
      earlier at row col q n i j (inl e) u = before q n i j (omega (arith, e, at)) u
      earlier at row col q n i j (inr e) u = first.earlier n i j (same e.1) (subst (λ s. IsUngraded d v s n i j) e.0 u)
        where
          entry_before : IsEntryBefore i j (a + 1 - 1) (b + 1 - 1) → IsEntryBefore i j a b
          entry_before h = subst (λ x. IsEntryBefore i j x b) (sym row) (subst (λ x. IsEntryBefore i j (a + 1 - 1) x) (sym col) h)

          same : (n < k) ⊎ ((n ≡ k) × IsEntryBefore i j (a + 1 - 1) (b + 1 - 1)) → (n < k) ⊎ ((n ≡ k) × IsEntryBefore i j a b)
          same (inl x) = inl x
          same (inr x) = inr (x.0, entry_before x.1)
