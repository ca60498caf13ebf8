-- Rows of one length, as a matrix.
use Rattle.std.proofs.Common.{◌≡◌, ℕ, ◌+◌, ◌<◌, List, [], length, map, get_or, refl, sym, ap, ◌∙◌, subst, arith}
use Rattle.std.specs.Prelude.{slice_index_or}
use Rattle.std.specs.List.{AllByRecursion, range_with_len}
use Rattle.std.proofs.lemmas.List.{ext_get_or}
use Rattle.std.proofs.lemmas.List.Elements.{All-from_recursion}
use Rattle.std.proofs.lemmas.List.FromFn.{get_or-map-range_with_len, length-map-range_with_len}
use Rattle.lie_ring.specs.Matrices.{table, entry}
use Rattle.lie_session.specs.Outcomes.{matrix_of}

-- a list is made of its elements
listed : {A : Type 0} (d : A) (xs : List A) (n : ℕ) → length xs ≡ n → map (λ i. slice_index_or xs i d) (range_with_len 0 n) ≡ xs
listed d xs n long =
    ext_get_or d (map (λ i. slice_index_or xs i d) (range_with_len 0 n)) xs (length-map-range_with_len (λ i. slice_index_or xs i d) 0 n ∙ sym long)
    (λ i within.
    (let low : i < n = subst (λ k. i < k) (length-map-range_with_len (λ i. slice_index_or xs i d) 0 n) within in
    get_or-map-range_with_len (λ i. slice_index_or xs i d) 0 n i i d low (omega arith)))

-- all rows have one length
pub row_length : (n : ℕ) (rows : List (List ℕ)) (i : ℕ) → AllByRecursion (λ r. length r ≡ n) rows → i < length rows → length (slice_index_or rows i []) ≡ n
row_length n rows i h within = All-from_recursion (λ r. length r ≡ n) rows h i [] within

-- the table of the entries of n rows of length n has these rows
pub table_rows : (n : ℕ) (rows : List (List ℕ)) → length rows ≡ n → AllByRecursion (λ r. length r ≡ n) rows → table n n (entry 0 (matrix_of n rows)) ≡ matrix_of n rows
table_rows n rows long h = ap (matrix_of n) same where
  row : ℕ → List ℕ
  row i = map (λ j. slice_index_or (slice_index_or rows i []) j 0) (range_with_len 0 n)

  same : map row (range_with_len 0 n) ≡ rows
  same =
      ext_get_or [] (map row (range_with_len 0 n)) rows (length-map-range_with_len row 0 n ∙ sym long)
      (λ i within.
      (let low : i < n = subst (λ k. i < k) (length-map-range_with_len row 0 n) within in
      let inside : i < length rows = subst (λ k. i < k) (sym long) low in
      get_or-map-range_with_len row 0 n i i [] low (omega arith) ∙ listed 0 (slice_index_or rows i []) n (row_length n rows i h inside)))
