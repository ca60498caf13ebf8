-- The entries of the size of X_r(f) as natural numbers, and what a column of it adds up to.
-- For proofs: no public clause cites it.
-- Own: sums that reach 2^126 are not made.
--
--   n^k |E_r^(k)| in row a and column b              size_term v r n a b (k - 1)
--   1 or 0, and the terms up to E_r^(m)              partial_size v r n a b m
--   1, and what the steps of a column add            steps_total n steps
use Rattle.std.specs.Prelude.{ℕ, suc, ◌+◌, ◌*◌, ◌^◌, ◌<◌, ◌≤ℤ◌, ℤ, pos, nat_abs, List, [], ◌∷◌, cond, eqb}
use Rattle.lie_ring.specs.Rings.{sum_below}
use Rattle.lie_ring.specs.Integers.{integers}
use Rattle.lie_ring.specs.Matrices.{Matrix, entry}
use Rattle.lie_mat.specs.Wide.{nat_sum_below}
use Rattle.lie_const.specs.Modules.{Module, divided_power}
use Rattle.lie_weight.specs.Factors.{IsOfSize, IsNatural, HasDiagonal}
use Rattle.lie_identities.specs.declared.steps.Step.{Step}

-- n^(k+1) |E_r^(k+1)|, in row a and column b
abbrev pub size_term : Module → ℤ → ℕ → ℕ → ℕ → ℕ → ℕ
size_term v r n a b k = n ^ suc k * nat_abs (entry (pos 0) (divided_power v r (suc k)) a b)

-- the entry of the identity, and the first m such terms
abbrev pub partial_size : Module → ℤ → ℕ → ℕ → ℕ → ℕ → ℕ
partial_size v r n a b m = cond (eqb a b) 1 0 + nat_sum_below m (size_term v r n a b)

-- a square matrix with no entry below 0, and with a diagonal of 1 at least
pub record IsSizes (n : ℕ) (M : Matrix ℤ) : Type 0 where
  pub size : IsOfSize n M
  pub natural : IsNatural n M
  pub diagonal : HasDiagonal n M

-- what the steps of a column add to the sum of the column, for f of the size n
abbrev pub steps_total : ℕ → List Step → ℕ
steps_total n [] = 0
steps_total n (s ∷ ss) = n ^ s.power * nat_abs s.value + steps_total n ss

-- no column adds up to more than c
abbrev pub HasColumnsWithin : Matrix ℤ → ℕ → Type 0
HasColumnsWithin M c = (j : ℕ) → j < M.width → sum_below integers M.height (λ i. entry (pos 0) M i j) ≤ℤ pos c
