-- When a module is audited for a datum, its constants and its signs, and what fails first where it is not.
-- Source: Steinberg, Lectures on Chevalley Groups, 6 (generators and relations); a module that meets the relations over the Laurent polynomials meets them at all values but 0.
-- Own: the order in which a fault is named, and the bound 2^126 on the sizes.
--
--   the grading         IsGraded d v             E_r^(k) raises weights by k r
--   a large relation    IsLarge d c eta v q      a product of the sizes of the factors of a side has an entry of 2^126 at least
--   the identity        IsIdentity d c eta v q   both sides are equal, as matrices over the Laurent polynomials
--   audited             MeetsIdentities d c eta v
--   rows and columns    count from 0 here, and from 1 in a fault; entries stand by column, then row, coefficients by the exponent of t, then of u
use Rattle.std.specs.Prelude.{◌≡◌, ◌≢◌, ◌⊎◌, ℕ, ◌-◌, ◌<◌, ◌≤◌, ℤ, pos, List, [], ◌∷◌, ◌++◌, length, slice_index_or, Result, Ok, Err, ⊤}
use Rattle.std.specs.List.{All}
use Rattle.lie_ring.specs.Matrices.{Matrix, entry}
use Rattle.lie_datum.specs.Numbers.{place}
use Rattle.lie_datum.specs.Vectors.{plus, times}
use Rattle.lie_datum.specs.RootDatum.{vector, IsWithin}
use Rattle.lie_datum.specs.RootList.{RootDatum, root_of, IsNumber}
use Rattle.lie_const.specs.ConstantTables.{ConstantTable}
use Rattle.lie_const.specs.Modules.{Module, dimension, divided_power}
use Rattle.lie_const.specs.Signs.{Signs}
use Rattle.lie_mat.specs.Wide.{IsHugeMatrix}
use Rattle.lie_poly.specs.Polynomials.{Polynomial, monomial, coefficient, laurent}
use Rattle.lie_poly.specs.Differences.{IsFirstDifference}
use Rattle.lie_identities.specs.declared.relations.Rel.{Rel}
use Rattle.lie_identities.specs.declared.faults.AuditFault.{AuditFault}
use Rattle.lie_identities.specs.declared.faults.AuditFault.TheVariants.{NoMemory, Graded, Large, Relation}
use Rattle.lie_identities.specs.AuditRelations.{Variables, Factor, left_side, right_side, relations, side_matrix, side_size}

-- the Laurent polynomials, with their t and u
abbrev pub laurent_variables : Variables Polynomial
laurent_variables = record { ring = laurent; t_to = λ e. monomial (pos 1) e (pos 0); u = monomial (pos 1) (pos 0) (pos 1) }

-- ---- what is asked of a module
-- E_r^(k) has an entry other than 0 in row a and column b, and the weight of a is not that of b plus k r
pub record IsUngraded (d : RootDatum) (v : Module) (r : ℤ) (k a b : ℕ) : Type 0 where
  pub number : IsNumber d r
  pub first : 1 ≤ k
  pub row : a < dimension v
  pub col : b < dimension v
  pub nonzero : entry (pos 0) (divided_power v r k) a b ≢ pos 0
  pub weights : slice_index_or v.weights a [] ≢ plus (slice_index_or v.weights b []) (times (pos k) (vector d.base (root_of d r)))

-- there is no such entry
abbrev pub IsGraded : RootDatum → Module → Type 0
IsGraded d v = (r : ℤ) (k a b : ℕ) → ¬ IsUngraded d v r k a b

-- the factors of the left side, over the Laurent polynomials
abbrev pub left_factors : Rel → List (Factor Polynomial)
left_factors q = left_side laurent_variables q

-- the factors of the right side
abbrev pub right_factors : RootDatum → ConstantTable → Signs → Rel → List (Factor Polynomial)
right_factors d c eta q = right_side laurent_variables d c eta q

-- the matrix of the left side
abbrev pub left_matrix : RootDatum → Module → Rel → Matrix Polynomial
left_matrix d v q = side_matrix laurent_variables d v (left_factors q)

-- the matrix of the right side
abbrev pub right_matrix : RootDatum → ConstantTable → Signs → Module → Rel → Matrix Polynomial
right_matrix d c eta v q = side_matrix laurent_variables d v (right_factors d c eta q)

-- the relation holds on the module, for all t and u
abbrev pub IsIdentity : RootDatum → ConstantTable → Signs → Module → Rel → Type 0
IsIdentity d c eta v q = left_matrix d v q ≡ right_matrix d c eta v q

-- the product of the sizes, on one of the two sides, has an entry of 2^126 at least
abbrev pub IsLarge : RootDatum → ConstantTable → Signs → Module → Rel → Type 0
IsLarge d c eta v q = IsHugeMatrix (side_size laurent v (left_factors q)) ⊎ IsHugeMatrix (side_size laurent v (right_factors d c eta q))

-- the relation is not large, and holds
pub record IsMet (d : RootDatum) (c : ConstantTable) (eta : Signs) (v : Module) (q : Rel) : Type 0 where
  pub small : ¬ IsLarge d c eta v q
  pub identity : IsIdentity d c eta v q

-- the module is audited: it is graded, no relation is large, and each holds
pub record MeetsIdentities (d : RootDatum) (c : ConstantTable) (eta : Signs) (v : Module) : Type 0 where
  pub graded : IsGraded d v
  pub relations : All (IsMet d c eta v) (relations d)

-- ---- what fails first
-- row a and column b stand before row i and column j
abbrev pub IsEntryBefore : ℕ → ℕ → ℕ → ℕ → Type 0
IsEntryBefore a b i j = (b < j) ⊎ ((b ≡ j) × (a < i))

-- the same within the matrices E_q^(l) and E_r^(k), where roots stand in the full order, then k rises
abbrev pub IsBefore : RootDatum → ℤ → ℕ → ℕ → ℕ → ℤ → ℕ → ℕ → ℕ → Type 0
IsBefore d q l a b r k i j =
    (place (length d.positive) q < place (length d.positive) r)
    ⊎ ((q ≡ r) × ((l < k) ⊎ ((l ≡ k) × IsEntryBefore a b i j)))

-- the first entry that is not graded, with its row and its column counted from 1
pub record IsFirstUngraded (d : RootDatum) (v : Module) (r : ℤ) (k row col : ℕ) : Type 0 where
  pub row_first : 1 ≤ row
  pub col_first : 1 ≤ col
  pub here : IsUngraded d v r k (row - 1) (col - 1)
  pub earlier : (q : ℤ) (l a b : ℕ) → IsBefore d q l a b r k (row - 1) (col - 1) → ¬ IsUngraded d v q l a b

-- q is a relation, and all relations before it are met
pub record AreMetBefore (d : RootDatum) (c : ConstantTable) (eta : Signs) (v : Module) (q : Rel) : Type 0 where
  pub before : List Rel
  pub after : List Rel
  pub split : relations d ≡ before ++ q ∷ after
  pub met : All (IsMet d c eta v) before

-- the first place at which two matrices differ, with its row and its column counted from 1
pub record IsFirstDifferentEntry (M N : Matrix Polynomial) (row col : ℕ) (et eu left right : ℤ) : Type 0 where
  pub row_first : 1 ≤ row
  pub row_last : row ≤ M.height
  pub col_first : 1 ≤ col
  pub col_last : col ≤ M.width
  pub here : IsFirstDifference (coefficient (entry laurent.zero M (row - 1) (col - 1))) (coefficient (entry laurent.zero N (row - 1) (col - 1))) et eu left right
  pub earlier : (a b : ℕ) → a < M.height → b < M.width → IsEntryBefore a b (row - 1) (col - 1) → entry laurent.zero M a b ≡ entry laurent.zero N a b

-- the cause of each fault; want of memory has none
abbrev pub IsAuditFault : RootDatum → ConstantTable → Signs → Module → AuditFault → Type 0
IsAuditFault d c eta v NoMemory = ⊤
IsAuditFault d c eta v (Graded r k row col) = IsFirstUngraded d v r k row col
IsAuditFault d c eta v (Large q) = IsGraded d v × AreMetBefore d c eta v q × IsLarge d c eta v q
IsAuditFault d c eta v (Relation q row col et eu left right) =
    IsGraded d v × AreMetBefore d c eta v q × (¬ IsLarge d c eta v q)
    × IsFirstDifferentEntry (left_matrix d v q) (right_matrix d c eta v q) row col et eu left right

-- what `audit` answers: the module, which is audited, or the first fault
abbrev pub Audits : RootDatum → ConstantTable → Signs → Module → Result Module AuditFault → Type 0
Audits d c eta v (Ok w) = (w ≡ v) × MeetsIdentities d c eta v
Audits d c eta v (Err f) = IsAuditFault d c eta v f

-- the cases of `Audits` exclude one another: want of memory aside, a module has one answer
abbrev pub OneAuditAnswer : Type 0
OneAuditAnswer = (d : RootDatum) (c : ConstantTable) (eta : Signs) (v : Module) (x y : Result Module AuditFault) →
    Audits d c eta v x → Audits d c eta v y → x ≢ Err NoMemory → y ≢ Err NoMemory → x ≡ y

-- no weight has a coordinate above 1,000,000 in absolute value
abbrev pub HasLightWeights : Module → Type 0
HasLightWeights v = All (IsWithin 1000000) v.weights
