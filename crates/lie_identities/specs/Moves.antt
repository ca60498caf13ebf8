-- What the entries of divided powers in a column add to a column, as polynomials.
-- For proofs: no public clause cites it.
-- Own: the list of additions, and the bounds under which no product is too wide.
--
--   f^k E_ab x                      moved (f^k) E_ab x
--   what a step adds                addition R f x s       the row, and f^k E_ab x
--   f, f^2, ..                      ArePowersOf f ps
use Rattle.std.specs.Prelude.{◌≡◌, ◌≢◌, ℕ, suc, ◌+◌, ◌*◌, ◌<◌, ◌≤◌, ◌^◌, ℤ, pos, nat_abs, ◌+ℤ◌, ◌<ℤ◌, ◌≤ℤ◌, List, length, slice_index_or}
use Rattle.std.specs.List.{All}
use Rattle.lie_ring.specs.Rings.{RingOn, Fits, sum_below}
use Rattle.lie_ring.specs.Integers.{integers}
use Rattle.lie_ring.specs.Powers.{power}
use Rattle.lie_ring.specs.Matrices.{Matrix, entry}
use Rattle.lie_datum.specs.RootList.{RootDatum}
use Rattle.lie_const.specs.Modules.{Module, dimension, top}
use Rattle.lie_poly.specs.Polynomials.{Polynomial, laurent, product, constant, size, degree}
use Rattle.lie_identities.specs.AuditRelations.{Factor, RootElement, CorootElement, coroot_power}
use Rattle.lie_identities.specs.Audit.{laurent_variables}
use Rattle.lie_identities.specs.declared.steps.Step.{Step}
use Rattle.lie_identities.specs.StepLists.{steps_of}
use Rattle.lie_identities.specs.Columns.{part, part_size, IsColumn}
use Rattle.lie_identities.specs.Additions.{added_in, size_in, AreAdditions}

-- f^k E_ab x
abbrev pub moved : Polynomial → ℤ → Polynomial → Polynomial
moved p n x = product (product p (constant n)) x

-- neither product is too wide
pub record IsNarrowMove (p : Polynomial) (n : ℤ) (x : Polynomial) : Type 0 where
  pub value : nat_abs n < 2 ^ 126
  pub size_first : size p * size (constant n) < 2 ^ 126
  pub size_second : size (product p (constant n)) * size x < 2 ^ 126
  pub degree_first : degree p + degree (constant n) < 2 ^ 30
  pub degree_second : degree (product p (constant n)) + degree x < 2 ^ 30

-- what a step of X_r(f) adds to a column with x in its row
abbrev pub addition : {A : Type 0} → RingOn A → A → A → Step → ℕ × A
addition R f x s = (s.row, R.mul (R.mul (power R f s.power) (R.of_int s.value)) x)

-- the list has f, f^2, ..
abbrev pub ArePowersOf : Polynomial → List Polynomial → Type 0
ArePowersOf f ps = (k : ℕ) (z : Polynomial) → k < length ps → (slice_index_or ps k z ≡ power laurent f (suc k)) × Fits laurent (slice_index_or ps k z)

-- the polynomial whose powers they are
abbrev pub base_of : List Polynomial → Polynomial
base_of ps = slice_index_or ps 0 laurent.zero

-- the list has the powers of its first member, of which there are n at least
pub record HasPowers (n : ℕ) (ps : List Polynomial) : Type 0 where
  pub some : 1 ≤ length ps
  pub enough : n ≤ length ps
  pub powers : ArePowersOf (base_of ps) ps

-- the step's power is one of n, and its products are not too wide
pub record IsNarrowStep (f : Polynomial) (n : ℕ) (x : Polynomial) (s : Step) : Type 0 where
  pub first : 1 ≤ s.power
  pub last : s.power ≤ n
  pub narrow : IsNarrowMove (power laurent f s.power) s.value x

-- all are such
abbrev pub AreNarrowSteps : Polynomial → ℕ → Polynomial → List Step → Type 0
AreNarrowSteps f n x ss = All (IsNarrowStep f n x) ss

-- X_r(f) can be multiplied with the column V, and no product or sum is too wide
pub record IsReadyForRoot (v : Module) (r : ℤ) (f : Polynomial) (V : Matrix Polynomial) : Type 0 where
  pub column : IsColumn (dimension v) V
  pub steps : (b : ℕ) → b < dimension v → AreNarrowSteps f (top v r) (entry laurent.zero V b 0) (steps_of v r b)
  pub room : (a : ℕ) → a < dimension v → (pos (size (entry laurent.zero V a 0)) +ℤ sum_below integers (dimension v) (part_size laurent v r f V a)) <ℤ pos (2 ^ 126)

-- the same of a_i^(t)
pub record IsReadyForCoroot (d : RootDatum) (v : Module) (i : ℕ) (V : Matrix Polynomial) : Type 0 where
  pub column : IsColumn (dimension v) V
  pub shallow : (a : ℕ) → a < dimension v → degree (coroot_power laurent_variables d v i a) + degree (entry laurent.zero V a 0) < 2 ^ 30

-- the same of a factor
abbrev pub IsReadyFor : RootDatum → Module → Factor Polynomial → Matrix Polynomial → Type 0
IsReadyFor d v (RootElement r f) V = IsReadyForRoot v r f V
IsReadyFor d v (CorootElement i) V = IsReadyForCoroot d v i V

-- the row of V is multiplied by its power of t in N
pub record IsRowMultiplied (d : RootDatum) (v : Module) (i row : ℕ) (V N : Matrix Polynomial) : Type 0 where
  pub column : IsColumn (dimension v) N
  pub here : entry laurent.zero N row 0 ≡ product (coroot_power laurent_variables d v i row) (entry laurent.zero V row 0)
  pub others : (a : ℕ) → a < dimension v → a ≢ row → entry laurent.zero N a 0 ≡ entry laurent.zero V a 0

-- the rows of V before n are multiplied by their powers of t in N
pub record AreRowsMultiplied (d : RootDatum) (v : Module) (i : ℕ) (V : Matrix Polynomial) (n : ℕ) (N : Matrix Polynomial) : Type 0 where
  pub column : IsColumn (dimension v) N
  pub done : (a : ℕ) → a < n → a < dimension v → entry laurent.zero N a 0 ≡ product (coroot_power laurent_variables d v i a) (entry laurent.zero V a 0)
  pub rest : (a : ℕ) → n ≤ a → a < dimension v → entry laurent.zero N a 0 ≡ entry laurent.zero V a 0

-- the list has what the entries of V in the rows before n add by X_r(f) - 1
pub record AddsRows (v : Module) (r : ℤ) (f : Polynomial) (V : Matrix Polynomial) (n : ℕ) (xs : List (ℕ × Polynomial)) : Type 0 where
  pub additions : AreAdditions laurent (dimension v) xs
  pub value : (a : ℕ) → a < dimension v → added_in laurent a xs ≡ sum_below laurent n (part laurent v r f V a)
  pub small : (a : ℕ) → a < dimension v → pos (size_in laurent a xs) ≤ℤ sum_below integers n (part_size laurent v r f V a)
