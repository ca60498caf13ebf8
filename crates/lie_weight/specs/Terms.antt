-- The terms (k, 1) in a list of terms.
-- For proofs: no public clause cites it.
use Rattle.std.specs.Prelude.{◌≡◌, ℕ, List}
use Rattle.std.specs.List.{Contains}
use Rattle.lie_const.specs.declared.term.Term.{Term}

-- t is a term (k, 1) of the list
abbrev pub IsTermHere : List Term → ℕ → Term → Type 0
IsTermHere ts k t = Contains ts t × (t.i ≡ k) × (t.j ≡ 1)

-- the list has no term (k, 1)
abbrev pub HasNoTerm : List Term → ℕ → Type 0
HasNoTerm ts k = (t : Term) → Contains ts t → t.i ≡ k → t.j ≡ 1 → ⊥
