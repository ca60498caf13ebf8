-- A square matrix that is kept as one list: what is read from it, and what a write leaves.
use Rattle.std.proofs.Common.{◌≡◌, ◌≢◌, ℕ, ◌+◌, ◌*◌, ◌/◌, ◌%◌, ◌<◌, List, length, get_or, set, eqb, cond, sym, ap, ap₂, ◌∙◌, inl, inr, subst, arith}
use Rattle.std.proofs.lemmas.List.{ext_get_or, get_or-set_same, get_or-set_other}
use Rattle.std.proofs.lemmas.Bool.{cases_eq, eq-eqb, ne_eqb}
use Rattle.std.proofs.lemmas.Bool.Decides.{nat_tests}
use Rattle.std.proofs.lemmas.Nat.{mul-add-lt, same_from_place, div_below, mod_below, div-add-mod'}
use Rattle.lie_ring.specs.Rings.{IsElem, sum_below}
use Rattle.lie_ring.specs.SumLemmas.{sum-same, factor_positive}
use Rattle.lie_ring.specs.Matrices.{entry, with_entry, AllElem, EachElem, product, product_entry}
use Rattle.lie_ring.specs.MatrixLemmas.{entry-table, table-same}
use Rattle.lie_mat.specs.Parts.{is_before, partial_table}
use Rattle.lie_field.specs.FiniteField.{FiniteField}
use Rattle.lie_field.specs.Quotient.{mul}
use Rattle.lie_field.specs.FieldRing.{field_ring}
use Rattle.lie_dense.specs.Flat.{square_of, place}

-- a place is within the list
pub place_below : (n i j : ℕ) → i < n → j < n → i * n + j < n * n
place_below n i j p q = mul-add-lt i n j n p q

-- an entry of the matrix that is kept
pub square-entry : (n : ℕ) (xs : List ℕ) (i j : ℕ) → i < n → j < n → entry 0 (square_of n xs) i j ≡ get_or xs (i * n + j) 0
square-entry n xs i j p q = entry-table 0 n n (place n xs) i j p q

-- lists of the same matrix are equal
pub square-injective : (n : ℕ) (xs ys : List ℕ) → length xs ≡ n * n → length ys ≡ n * n → square_of n xs ≡ square_of n ys → xs ≡ ys
square-injective n xs ys a b same = ext_get_or 0 xs ys (a ∙ sym b) (λ x p.
    let within : x < n * n = omega (arith, a, p) in
    let some = factor_positive n n x within in
    let i = div_below x n n some within in
    let j = mod_below x n some in
    let at = div-add-mod' x n in
    ap (λ k. get_or xs k 0) (sym at)
    ∙ sym (square-entry n xs (x / n) (x % n) i j) ∙ ap (λ M. entry 0 M (x / n) (x % n)) same ∙ square-entry n ys (x / n) (x % n) i j
    ∙ ap (λ k. get_or ys k 0) at)

-- what is kept for a matrix of elements
pub square-each : (f : FiniteField) (n : ℕ) (xs : List ℕ) → length xs ≡ n * n → AllElem (field_ring f) (square_of n xs) → EachElem (field_ring f) xs
square-each f n xs a all x p =
    let within : x < n * n = omega (arith, a, p) in
    let some = factor_positive n n x within in
    let i = div_below x n n some within in
    let j = mod_below x n some in
    subst (IsElem (field_ring f)) (square-entry n xs (x / n) (x % n) i j ∙ ap (λ k. get_or xs k 0) (div-add-mod' x n)) (all (x / n) (x % n) i j)

-- the matrix that is kept by a list of elements
pub square-all : (f : FiniteField) (n : ℕ) (xs : List ℕ) → length xs ≡ n * n → EachElem (field_ring f) xs → AllElem (field_ring f) (square_of n xs)
square-all f n xs a each i j p q = subst (IsElem (field_ring f)) (sym (square-entry n xs i j p q)) (each (i * n + j) (let b = place_below n i j p q in omega (arith, a, b)))

-- a write
pub square-write : (n : ℕ) (xs : List ℕ) (i j e : ℕ) → length xs ≡ n * n → i < n → j < n → square_of n (set xs (i * n + j) e) ≡ with_entry 0 (square_of n xs) i j e
square-write n xs i j e a p q = table-same n n (place n (set xs (i * n + j) e)) (λ k l. cond (eqb k i) (cond (eqb l j) e (entry 0 (square_of n xs) k l)) (entry 0 (square_of n xs) k l)) (λ k l b c.
    let old = square-entry n xs k l b c in
    let elsewhere = λ (h : (k * n + l) ≢ (i * n + j)). get_or-set_other xs (i * n + j) (k * n + l) e 0 h ∙ sym old in
    elim (cases_eq k i) [
      | inl row ↦ elim (cases_eq l j) [
        | inl col ↦
            ap₂ (λ r s. get_or (set xs (i * n + j) e) (r * n + s) 0) row col
            ∙ get_or-set_same xs (i * n + j) e 0 (let d = place_below n i j p q in omega (arith, a, d))
            ∙ sym (ap₂ (λ s t. cond s (cond t e (entry 0 (square_of n xs) k l)) (entry 0 (square_of n xs) k l)) (eq-eqb k i row) (eq-eqb l j col))
        | inr h ↦
            elsewhere (λ same. h (same_from_place k l i j n c q same).1)
            ∙ sym (ap₂ (λ s t. cond s (cond t e (entry 0 (square_of n xs) k l)) (entry 0 (square_of n xs) k l)) (eq-eqb k i row) (ne_eqb l j h))
      ]
      | inr h ↦
          elsewhere (λ same. h (same_from_place k l i j n c q same).0)
          ∙ sym (ap (λ s. cond s (cond (eqb l j) e (entry 0 (square_of n xs) k l)) (entry 0 (square_of n xs) k l)) (ne_eqb k i h))
    ])

-- the product of two matrices that are kept
pub square-product : (f : FiniteField) (n : ℕ) (xs ys zs : List ℕ)
    → ((i j : ℕ) → i < n → j < n → get_or zs (i * n + j) 0 ≡ sum_below (field_ring f) n (λ k. mul f.given (get_or xs (i * n + k) 0) (get_or ys (k * n + j) 0)))
    → square_of n zs ≡ product (field_ring f) (square_of n xs) (square_of n ys)
square-product f n xs ys zs same = table-same n n (place n zs) (product_entry (field_ring f) (square_of n xs) (square_of n ys)) (λ i j p q.
    same i j p q ∙ sum-same (field_ring f) n _ _ (λ k r. sym (ap₂ (mul f.given) (square-entry n xs i k p r) (square-entry n ys k j r q))))

-- the diagonal of the identity, filled up to row i
pub diagonal-step : (n i one : ℕ) → i < n → (let ones = λ (k l : ℕ). cond (eqb k l) one 0 in with_entry 0 (partial_table 0 n n ones i 0) i i one ≡ partial_table 0 n n ones (i + 1) 0)
diagonal-step n i one p =
    let ones = λ (k l : ℕ). cond (eqb k l) one 0 in
    let filled = λ (r : ℕ) (k l : ℕ). cond (is_before r 0 k l) (ones k l) 0 in
    table-same n n _ (filled (i + 1)) (λ k l b c.
    let old = entry-table 0 n n (filled i) k l b c in
    ap (λ x. cond (eqb k i) (cond (eqb l i) one x) x) old
    ∙ step k l)
  where
    step : (k l : ℕ) → cond (eqb k i) (cond (eqb l i) one (cond (is_before i 0 k l) (cond (eqb k l) one 0) 0)) (cond (is_before i 0 k l) (cond (eqb k l) one 0) 0) ≡ cond (is_before (i + 1) 0 k l) (cond (eqb k l) one 0) 0
    step k l = grind (arith, nat_tests)
