-- A table that is filled row by row, and whose other places are zero.
-- For proofs: no public clause cites it.
-- Own: the order of the places.
use Rattle.std.specs.Prelude.{ℕ, eqb, ltb, cond, Bool}
use Rattle.lie_ring.specs.Matrices.{Matrix, table}

-- row k and column l come before row i and column j
abbrev pub is_before : ℕ → ℕ → ℕ → ℕ → Bool
is_before i j k l = cond (eqb k i) (ltb l j) (ltb k i)

-- the table of f where it is filled up to row i and column j
abbrev pub partial_table : {A : Type 0} → A → ℕ → ℕ → (ℕ → ℕ → A) → ℕ → ℕ → Matrix A
partial_table z h w f i j = table h w (λ k l. cond (is_before i j k l) (f k l) z)
