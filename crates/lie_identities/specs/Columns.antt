-- A side of a relation on one basis vector: a column that the factors act on, the last first.
-- For proofs: no public clause cites it.
-- Own: the columns, and the bounds under which no step of the walk is too wide.
--
--   v_b                              unit_column R n b
--   x_1 .. x_k v_b                   side_column y d v xs b        xs the factors
--   X_r(f) - 1, in row a, column b   moved_entry R v r f a b       its size: moved_size v r (size of f) a b
--   what row b adds in row a         part R v r f V a b            V a column
use Rattle.std.specs.Prelude.{◌≡◌, ℕ, suc, ◌+◌, ◌*◌, ◌^◌, ◌<◌, ◌≤◌, ℤ, pos, ◌*ℤ◌, nat_abs, List, [], ◌∷◌, cond, eqb, slice_index_or}
use Rattle.std.specs.List.{All}
use Rattle.lie_ring.specs.Rings.{RingOn, Fits, sum_below}
use Rattle.lie_ring.specs.Integers.{integers}
use Rattle.lie_ring.specs.Powers.{power}
use Rattle.lie_ring.specs.Matrices.{Matrix, table, entry, product, AllFit, IsShaped}
use Rattle.lie_datum.specs.RootDatum.{simple_coroot, IsSimpleIndex}
use Rattle.lie_datum.specs.Vectors.{pairing}
use Rattle.lie_datum.specs.RootList.{RootDatum, IsNumber}
use Rattle.lie_const.specs.Modules.{Module, dimension, top, divided_power}
use Rattle.lie_mat.specs.Wide.{IsHugeMatrix}
use Rattle.lie_poly.specs.Polynomials.{Polynomial, laurent, degree}
use Rattle.lie_identities.specs.AuditRelations.{Variables, Factor, RootElement, CorootElement, factor_matrix, side_size}

-- the column of the basis vector b, of n
abbrev pub unit_column : {A : Type 0} → RingOn A → ℕ → ℕ → Matrix A
unit_column R n b = table n 1 (λ a _. cond (eqb a b) R.one R.zero)

-- the side with these factors on the basis vector b
abbrev pub side_column : {A : Type 0} → Variables A → RootDatum → Module → List (Factor A) → ℕ → Matrix A
side_column y d v [] b = unit_column y.ring (dimension v) b
side_column y d v (x ∷ xs) b = product y.ring (factor_matrix y d v x) (side_column y d v xs b)

-- what X_r(f) has in row a and column b beside the identity
abbrev pub moved_entry : {A : Type 0} → RingOn A → Module → ℤ → A → ℕ → ℕ → A
moved_entry R v r f a b = sum_below R (top v r) (λ k. R.mul (power R f (suc k)) (R.of_int (entry (pos 0) (divided_power v r (suc k)) a b)))

-- its size, for f of the size n
abbrev pub moved_size : Module → ℤ → ℕ → ℕ → ℕ → ℤ
moved_size v r n a b = sum_below integers (top v r) (λ k. power integers (pos n) (suc k) *ℤ pos (nat_abs (entry (pos 0) (divided_power v r (suc k)) a b)))

-- what the entry of a column in the row b adds in the row a
abbrev pub part : {A : Type 0} → RingOn A → Module → ℤ → A → Matrix A → ℕ → ℕ → A
part R v r f V a b = R.mul (moved_entry R v r f a b) (entry R.zero V b 0)

-- its size
abbrev pub part_size : {A : Type 0} → RingOn A → Module → ℤ → A → Matrix A → ℕ → ℕ → ℤ
part_size R v r f V a b = moved_size v r (R.size f) a b *ℤ pos (R.size (entry R.zero V b 0))

-- a column of n rows, whose entries may be handed to a call
pub record IsColumn (n : ℕ) (V : Matrix Polynomial) : Type 0 where
  pub height : V.height ≡ n
  pub width : V.width ≡ 1
  pub shaped : IsShaped laurent.zero V
  pub fit : AllFit laurent V

-- a bound on the degrees of the entries of a factor; those of a coroot are powers of t, of at most 8 * 1,000,000 * 100
abbrev pub factor_degree : Module → Factor Polynomial → ℕ
factor_degree v (RootElement r f) = top v r * degree f
factor_degree v (CorootElement i) = 800000000

-- a bound on those of a side
abbrev pub side_degree : Module → List (Factor Polynomial) → ℕ
side_degree v [] = 0
side_degree v (x ∷ xs) = factor_degree v x + side_degree v xs

-- no weight has a pairing above that bound with a simple coroot
abbrev pub HasLightPairings : RootDatum → Module → Type 0
HasLightPairings d v = (i a : ℕ) → a < dimension v → nat_abs (pairing (slice_index_or v.weights a []) (simple_coroot d.base i)) ≤ 800000000

-- a factor of a root of the datum, with a polynomial that may be handed to a call, or of a simple coroot
abbrev pub IsFactorOf : RootDatum → Factor Polynomial → Type 0
IsFactorOf d (RootElement r f) = IsNumber d r × Fits laurent f
IsFactorOf d (CorootElement i) = IsSimpleIndex d.base i

-- such factors whose side is not large, and whose exponents stay below 2^30
pub record IsNarrowSide (d : RootDatum) (v : Module) (xs : List (Factor Polynomial)) : Type 0 where
  pub factors : All (IsFactorOf d) xs
  pub small : ¬ IsHugeMatrix (side_size laurent v xs)
  pub shallow : side_degree v xs < 2 ^ 30
