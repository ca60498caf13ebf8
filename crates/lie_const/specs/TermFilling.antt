-- The terms while they are listed: one (i, j) after another, then one pair after another.
-- Own: all of it; no public clause cites it.
use Rattle.std.specs.Prelude.{◌≡◌, ℕ, ◌<◌, ◌≤◌, ◌^◌, ℤ, pos, List, [], ◌∷◌, ◌++◌, length, slice_get, slice_index_or, Some, true, false, unsigned_abs, ⊤}
use Rattle.std.specs.Option.{is_some}
use Rattle.lie_datum.specs.Vectors.{plus, times}
use Rattle.lie_datum.specs.RootList.{RootDatum, IsNumber}
use Rattle.lie_const.specs.declared.term.Term.{Term}
use Rattle.lie_const.specs.declared.faults.ConstFault.{ConstFault}
use Rattle.lie_const.specs.declared.faults.ConstFault.TheVariants.{NoMemory, Constant, Fraction}
use Rattle.lie_const.specs.StructureConstants.{Table, coeffs_of, find_root}
use Rattle.lie_const.specs.CommutatorTerms.{term_exponents, term_vector, string_product, IsTerm, AreTerms, IsFraction, IsPair}
use Rattle.lie_const.specs.ConstantTables.{pair_place}

-- C_ijrs is the first term of r and s that isn't whole
pub record IsFirstInPair (d : RootDatum) (n : Table) (r s : ℤ) (i j : ℕ) : Type 0 where
  pub term : ℕ
  pub exponents : slice_get (term_exponents d r s) term ≡ Some (i, j)
  pub fraction : IsFraction d n r s (i, j)
  pub earlier : (t : ℕ) (e : ℕ × ℕ) → t < term → slice_get (term_exponents d r s) t ≡ Some e → ¬ IsFraction d n r s e

-- the fault of a pair: its first term that isn't whole
abbrev pub IsPairFault : RootDatum → Table → ℤ → ℤ → ConstFault → Type 0
IsPairFault d n r s NoMemory = ⊤
IsPairFault d n r s (Constant p q a e) = ⊥
IsPairFault d n r s (Fraction p q i j) = (p ≡ r) × (q ≡ s) × IsPair d r s × IsFirstInPair d n r s i j

-- after i steps from s along r: the last root, and the product of the values
pub record IsWalked (d : RootDatum) (n : Table) (r s : ℤ) (i : ℕ) (product last : ℤ) : Type 0 where
  pub number : IsNumber d last
  pub coeffs : coeffs_of d last ≡ plus (times (pos i) (coeffs_of d r)) (coeffs_of d s)
  pub value : product ≡ string_product d n (coeffs_of d r) (coeffs_of d s) i
  pub bound : unsigned_abs product ≤ 128 ^ i

-- the list with the term of (i, j) behind it, if i r + j s is a root
pub data IsAdded (d : RootDatum) (n : Table) (r s : ℤ) (e : ℕ × ℕ) (old new : List Term) : Type 0 where
  absent : is_some (find_root d (term_vector d r s e)) ≡ false → new ≡ old → IsAdded d n r s e old new
  present : (t : Term) → is_some (find_root d (term_vector d r s e)) ≡ true → IsTerm d n r s e t → new ≡ old ++ t ∷ [] → IsAdded d n r s e old new

-- the fault of one term that isn't whole
abbrev pub IsTermFault : RootDatum → Table → ℤ → ℤ → ℕ × ℕ → ConstFault → Type 0
IsTermFault d n r s e NoMemory = ⊤
IsTermFault d n r s e (Constant p q a v) = ⊥
IsTermFault d n r s e (Fraction p q i j) = (p ≡ r) × (q ≡ s) × ((i, j) ≡ e) × (is_some (find_root d (term_vector d r s e)) ≡ true) × IsFraction d n r s e

-- the lists of the terms of the pairs before a place
pub record AreListed (d : RootDatum) (n : Table) (m at : ℕ) (lists : List (List Term)) : Type 0 where
  pub count : length lists ≡ at
  pub terms : (r s : ℤ) → IsPair d r s → pair_place m r s < at → AreTerms d n r s (slice_index_or lists (pair_place m r s) [])
