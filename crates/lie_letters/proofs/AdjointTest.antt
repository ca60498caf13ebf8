-- A test that a module is the adjoint module of a datum: what it passes is. Its purpose is worked examples.
use Rattle.std.proofs.Common.{◌≡◌, ◌≢◌, ℕ, zero, suc, ◌+◌, ◌*◌, ◌<◌, ◌≤◌, eqb, Bool, true, false, not, ◌&&◌, ◌||◌, cond, ℤ, pos, ◌*ℤ◌, List, [], ◌∷◌, map, length, refl, sym, ap, ap₂, ◌∙◌, subst, arith, inl, inr}
use Rattle.std.proofs.lemmas.Int.{ints}
use Rattle.std.proofs.lemmas.List.{get_or_past}
use Rattle.std.proofs.lemmas.List.FromFn.{length-map-range_with_len}
use Rattle.std.proofs.lemmas.Bool.{and_parts, and_from, or_cases, not-true, eqb-true, true≢false, false≢true, cases_lt}
use Rattle.std.specs.List.{range_with_len}
use Rattle.std.specs.Ordering.{int_eq}
use Rattle.lie_ring.specs.Rings.{sum_below}
use Rattle.lie_ring.specs.Integers.{integers}
use Rattle.lie_ring.specs.IntegerLaws.{integers_ring}
use Rattle.lie_ring.specs.Matrices.{Matrix, table, entry, identity, product, product_entry, zero_matrix}
use Rattle.lie_ring.specs.MatrixLemmas.{entry-table, table-shaped}
use Rattle.lie_ring.specs.MatrixLaws.{product-one}
use Rattle.lie_ring.specs.SumLemmas.{sum-same, sum-zeros}
use Rattle.lie_datum.specs.Vectors.{Vector}
use Rattle.lie_datum.specs.RootList.{RootDatum, IsNumber}
use Rattle.lie_const.specs.StructureConstants.{Table, StandsFor, same_vector}
use Rattle.lie_const.specs.CommutatorTerms.{factorial}
use Rattle.lie_const.specs.Modules.{Module, IsModule, dimension, divided_power, divided_powers, top}
use Rattle.lie_const.specs.Adjoint.{adjoint_dimension, basis_vector, basis_weight, bracket, bracket_matrix, matrix_power, IsAdjoint, IsAdjointOf}
use Rattle.lie_letters.proofs.NameLemmas.{same_vector-true, same_vector-self}
use Rattle.lie_datum.proofs.LoadedTest.{each_below, each_at}
use Rattle.lie_const.proofs.TableTest.{each_number, number_at, is_equal}

-- ---- sparse matrices
-- the entry of a row and a column, in a list of those that are not 0
abbrev pub listed_entry : List (ℕ × ℕ × ℤ) → ℕ → ℕ → ℤ
listed_entry [] i j = pos 0
listed_entry (x ∷ xs) i j = cond (eqb x.0 i && eqb x.1 j) x.2 (listed_entry xs i j)

-- n rows and columns, with these entries, and zeros elsewhere
abbrev pub sparse : ℕ → List (ℕ × ℕ × ℤ) → Matrix ℤ
sparse n xs = table n n (listed_entry xs)

-- ---- equal rows
abbrev pub same_rows : List Vector → List Vector → Bool
same_rows [] [] = true
same_rows [] (y ∷ ys) = false
same_rows (x ∷ xs) [] = false
same_rows (x ∷ xs) (y ∷ ys) = same_vector x y && same_rows xs ys

same_rows-true : (xs ys : List Vector) → same_rows xs ys ≡ true → xs ≡ ys
same_rows-true [] [] e = refl
same_rows-true [] (y ∷ ys) e = absurd (false≢true e)
same_rows-true (x ∷ xs) [] e = absurd (false≢true e)
same_rows-true (x ∷ xs) (y ∷ ys) e =
    let p = and_parts (same_vector x y) (same_rows xs ys) e in
    ap₂ ◌∷◌ (same_vector-true x y p.0) (same_rows-true xs ys p.1)

same_rows-self : (xs : List Vector) → same_rows xs xs ≡ true
same_rows-self [] = refl
same_rows-self (x ∷ xs) = and_from (same_vector x x) (same_rows xs xs) (same_vector-self x) (same_rows-self xs)

module _ (d : RootDatum) (n : Table) (v : Module) where
  abbrev size : ℕ
  size = adjoint_dimension d

  -- the entry of E_r^(k)
  abbrev kept : ℤ → ℕ → ℕ → ℕ → ℤ
  kept r k i j = entry (pos 0) (divided_power v r k) i j

  -- t at each row and column
  abbrev each_place : (ℕ → ℕ → Bool) → Bool
  each_place t = each_below size (λ i. each_below size (t i))

  -- ---- the tests, for each root r
  -- each matrix that is kept is square, of the dimension
  abbrev square_test : Matrix ℤ → Bool
  square_test M =
      eqb M.height (dimension v) && (eqb M.width (dimension v) && same_rows M.rows (table (dimension v) (dimension v) (entry (pos 0) M)).rows)

  -- the last that is kept is not 0
  abbrev last_test : ℤ → Bool
  last_test r = eqb (top v r) 0 || not (same_rows (divided_power v r (top v r)).rows (zero_matrix (pos 0) (dimension v) (dimension v)).rows)

  -- E_r^(1) is the matrix of e_r
  abbrev first_test : ℤ → Bool
  first_test r = each_place (λ i j. int_eq (bracket d n r (basis_vector d i) (basis_vector d j)) (kept r 1 i j))

  -- E_r^(1) k! E_r^(k) = (k + 1)! E_r^(k + 1)
  abbrev next_test : ℤ → Bool
  next_test r =
      each_below (top v r) (λ k. each_place (λ i j.
      int_eq (sum_below integers size (λ l. kept r 1 i l *ℤ (pos (factorial (suc k)) *ℤ kept r (suc k) l j))) (pos (factorial (suc (suc k))) *ℤ kept r (suc (suc k)) i j)))

  abbrev root_test : ℤ → Bool
  root_test r = each_below (top v r) (λ k. square_test (divided_power v r (suc k))) && (last_test r && (first_test r && next_test r))

  -- the weights of the basis
  abbrev weights : List Vector
  weights = map (λ a. basis_weight d (basis_vector d a)) (range_with_len 0 size)

  abbrev pub adjoint_test : Bool
  adjoint_test =
      eqb v.positive (length d.positive) && (eqb (length v.powers) (2 * length d.positive) && (same_rows v.weights weights && each_number d root_test))

  -- ---- what passes
  square_from : (M : Matrix ℤ) → square_test M ≡ true → M ≡ table (dimension v) (dimension v) (entry (pos 0) M)
  square_from M e =
      let p = and_parts (eqb M.height (dimension v)) _ e in
      let q = and_parts (eqb M.width (dimension v)) _ p.1 in
      let matrix = λ (h w : ℕ) (rows : List (List ℤ)). (let N : Matrix ℤ = record { height = h; width = w; rows = rows } in N) in
      ap (λ h. matrix h M.width M.rows) (eqb-true M.height (dimension v) p.0)
      ∙ ap (λ w. matrix (dimension v) w M.rows) (eqb-true M.width (dimension v) q.0)
      ∙ ap (matrix (dimension v) (dimension v)) (same_rows-true M.rows _ q.1)

  each_place_at : (t : ℕ → ℕ → Bool) → each_place t ≡ true → (i j : ℕ) → i < size → j < size → t i j ≡ true
  each_place_at t e i j a b = each_at size (t i) (each_at size (λ i. each_below size (t i)) e i a) j b

  -- past the last that is kept there are zeros
  past_last : (r : ℤ) (k i j : ℕ) → top v r ≤ k → i < dimension v → j < dimension v → kept r (suc k) i j ≡ pos 0
  past_last r k i j h a b =
      ap (λ M. entry (pos 0) M i j) (get_or_past (divided_powers v r) k (zero_matrix (pos 0) (dimension v) (dimension v)) h)
      ∙ entry-table (pos 0) (dimension v) (dimension v) (λ _ _. pos 0) i j a b

  power_width : (r : ℤ) (k : ℕ) → (matrix_power size (bracket_matrix d n r) k).width ≡ size
  power_width r zero = refl
  power_width r (suc k) = power_width r k

  module _ (passed : adjoint_test ≡ true) where
    counts : (eqb v.positive (length d.positive) ≡ true) × (eqb (length v.powers) (2 * length d.positive) ≡ true) × (v.weights ≡ weights) × (each_number d root_test ≡ true)
    counts =
        let p = and_parts (eqb v.positive (length d.positive)) _ passed in
        let q = and_parts (eqb (length v.powers) (2 * length d.positive)) _ p.1 in
        let w = and_parts (same_rows v.weights weights) _ q.1 in
        (p.0, q.0, same_rows-true v.weights weights w.0, w.1)

    long : dimension v ≡ size
    long = ap length counts.2 ∙ length-map-range_with_len (λ a. basis_weight d (basis_vector d a)) 0 size

    record Parts (r : ℤ) : Type 0 where
      square : each_below (top v r) (λ k. square_test (divided_power v r (suc k))) ≡ true
      last : last_test r ≡ true
      first : first_test r ≡ true
      next : next_test r ≡ true

    parts : (r : ℤ) → IsNumber d r → Parts r
    parts r h =
        let p = and_parts (each_below (top v r) (λ k. square_test (divided_power v r (suc k)))) _ (number_at d root_test counts.3 r h) in
        let q = and_parts (last_test r) _ p.1 in
        let w = and_parts (first_test r) (next_test r) q.1 in
        record { square = p.0; last = q.0; first = w.0; next = w.1 }

    last_kept : (r : ℤ) (k : ℕ) → IsNumber d r → top v r ≡ suc k → divided_power v r (suc k) ≢ zero_matrix (pos 0) (dimension v) (dimension v)
    last_kept r k h e same = elim (or_cases (eqb (top v r) 0) _ (parts r h).last) [
      | inl none ↦ let z = eqb-true (top v r) 0 none in absurd (omega (arith, z, e))
      | inr some ↦
          let zeros = (zero_matrix (pos 0) (dimension v) (dimension v)).rows in
          let equal : same_rows (divided_power v r (top v r)).rows zeros ≡ true =
          ap (λ t. same_rows (divided_power v r t).rows zeros) e ∙ ap (λ (M : Matrix ℤ). same_rows M.rows zeros) same ∙ same_rows-self zeros in
          absurd (true≢false (sym equal ∙ not-true (same_rows (divided_power v r (top v r)).rows zeros) some))
    ]

    first_is : (r : ℤ) (i j : ℕ) → IsNumber d r → i < size → j < size → entry (pos 0) (bracket_matrix d n r) i j ≡ kept r 1 i j
    unfolding bracket_matrix
    first_is r i j h a b =
        entry-table (pos 0) size size (λ i j. bracket d n r (basis_vector d i) (basis_vector d j)) i j a b
        ∙ is_equal d _ _ (each_place_at (λ i j. int_eq (bracket d n r (basis_vector d i) (basis_vector d j)) (kept r 1 i j)) (parts r h).first i j a b)

    -- the next power, by the test up to the last that is kept, and by zeros past it
    next_is : (r : ℤ) (k i j : ℕ) → IsNumber d r → i < size → j < size
        → sum_below integers size (λ l. kept r 1 i l *ℤ (pos (factorial (suc k)) *ℤ kept r (suc k) l j)) ≡ pos (factorial (suc (suc k))) *ℤ kept r (suc (suc k)) i j
    next_is r k i j h a b = elim (cases_lt k (top v r)) [
      | inl below ↦
          is_equal d _ _ (each_place_at _ (each_at (top v r) (λ k. each_place (λ i j.
          int_eq (sum_below integers size (λ l. kept r 1 i l *ℤ (pos (factorial (suc k)) *ℤ kept r (suc k) l j))) (pos (factorial (suc (suc k))) *ℤ kept r (suc (suc k)) i j)))
          (parts r h).next k below) i j a b)
      | inr past ↦
          let to = λ (m : ℕ) (l : m < size). subst (λ s. m < s) (sym long) l in
          let nothing = λ (x y : ℤ). (let z : x *ℤ (y *ℤ pos 0) ≡ pos 0 = ap (λ t. x *ℤ t) (int_mul_zero y) ∙ int_mul_zero x in z) in
          sum-zeros integers integers_ring.laws size (λ l. kept r 1 i l *ℤ (pos (factorial (suc k)) *ℤ kept r (suc k) l j))
          (λ l c. ap (λ t. kept r 1 i l *ℤ (pos (factorial (suc k)) *ℤ t)) (past_last r k l j past (to l c) (to j b)) ∙ nothing (kept r 1 i l) (pos (factorial (suc k))))
          ∙ sym (ap (λ t. pos (factorial (suc (suc k))) *ℤ t) (past_last r (suc k) i j (omega (arith, past)) (to i a) (to j b)) ∙ int_mul_zero (pos (factorial (suc (suc k)))))
    ]
      where
        int_mul_zero : (x : ℤ) → x *ℤ pos 0 ≡ pos 0
        int_mul_zero x = omega (arith, ints)

    power_is : (r : ℤ) (k i j : ℕ) → IsNumber d r → i < size → j < size → entry (pos 0) (matrix_power size (bracket_matrix d n r) (suc k)) i j ≡ pos (factorial (suc k)) *ℤ kept r (suc k) i j
    unfolding bracket_matrix
    power_is r zero i j h a b =
        ap (λ M. entry (pos 0) M i j) (product-one integers integers_ring (bracket_matrix d n r) (table-shaped (pos 0) size size _) (λ _ _ _ _. refl))
        ∙ first_is r i j h a b ∙ (let x = kept r 1 i j in let one : x ≡ pos 1 *ℤ x = omega (arith, ints) in one)
    power_is r (suc k) i j h a b =
        let E = bracket_matrix d n r in
        let M = matrix_power size E (suc k) in
        entry-table (pos 0) size M.width (product_entry integers E M) i j a (subst (λ w. j < w) (sym (power_width r (suc k))) b)
        ∙ sum-same integers size (λ l. entry (pos 0) E i l *ℤ entry (pos 0) M l j) (λ l. kept r 1 i l *ℤ (pos (factorial (suc k)) *ℤ kept r (suc k) l j))
        (λ l c. ap₂ ◌*ℤ◌ (first_is r i l h a c) (power_is r k l j h c b))
        ∙ next_is r k i j h a b

    powers_are : (r : ℤ) (k i j : ℕ) → IsNumber d r → 1 ≤ k → i < size → j < size → pos (factorial k) *ℤ kept r k i j ≡ entry (pos 0) (matrix_power size (bracket_matrix d n r) k) i j
    powers_are r zero i j h l a b = absurd (omega (arith, l))
    powers_are r (suc k) i j h l a b = sym (power_is r k i j h a b)

    -- a module that passes is the adjoint module
    pub adjoint_from : StandsFor d n → IsAdjointOf d v
    adjoint_from stands = (
      n,
      stands,
      record {
        is_module = record {
          positive = eqb-true v.positive (length d.positive) counts.0;
          roots = eqb-true (length v.powers) (2 * length d.positive) counts.1;
          square = λ r k h l. square_from (divided_power v r (suc k)) (each_at (top v r) (λ k. square_test (divided_power v r (suc k))) (parts r h).square k l);
          last = last_kept;
        };
        weights = counts.2;
        powers = powers_are;
      },
    )
