-- What a table of constants and terms holds, and what `Constants::load` answers.
use Rattle.std.specs.Prelude.{◌≡◌, ◌≢◌, ℕ, ◌+◌, ◌*◌, ℤ, pos, neg_ℤ, List, [], length, slice_index_or, Result, Ok, Err, ⊤}
use Rattle.lie_datum.specs.Numbers.{place}
use Rattle.lie_datum.specs.RootList.{RootDatum, IsNumber, IsLoaded}
use Rattle.lie_const.specs.declared.term.Term.{Term}
use Rattle.lie_const.specs.declared.faults.ConstFault.{ConstFault}
use Rattle.lie_const.specs.declared.faults.ConstFault.TheVariants.{NoMemory, Constant, Fraction}
use Rattle.lie_const.specs.StructureConstants.{Table, StandsFor, IsFirstFailure}
use Rattle.lie_const.specs.CommutatorTerms.{AreTerms, IsPair, IsFirstFraction}

-- the values and the terms of each two roots in the full order, row by row, where there are m positive roots
pub record ConstantTable : Type 0 where
  pub positive : ℕ
  pub values : List ℤ
  pub terms : List (List Term)

-- the place of a pair in such a list, counted from 0
abbrev pub pair_place : ℕ → ℤ → ℤ → ℕ
pair_place m r s = place m r * (2 * m) + place m s

-- the value at r and s in a list of all values
abbrev pub value_in : ℕ → List ℤ → Table
value_in m values r s = slice_index_or values (pair_place m r s) (pos 0)

-- N_rs
abbrev pub value_of : ConstantTable → Table
value_of c = value_in c.positive c.values

-- the terms of r and s
abbrev pub terms_of : ConstantTable → ℤ → ℤ → List Term
terms_of c r s = slice_index_or c.terms (pair_place c.positive r s) []

-- what `load` answers for a datum: a table that stands for it with the terms of each two roots, or the first failure
abbrev pub LoadsConstants : RootDatum → Result ConstantTable ConstFault → Type 0
LoadsConstants d (Ok c) = (c.positive ≡ length d.positive) × StandsFor d (value_of c) × ((r s : ℤ) → IsPair d r s → AreTerms d (value_of c) r s (terms_of c r s))
LoadsConstants d (Err NoMemory) = ⊤
LoadsConstants d (Err (Constant r s a e)) = IsFirstFailure d r s a e
LoadsConstants d (Err (Fraction r s i j)) = (n : Table) × StandsFor d n × IsFirstFraction d n r s i j

-- two tables say the same of each two roots
pub record IsSameTable (d : RootDatum) (c c' : ConstantTable) : Type 0 where
  pub positive : c.positive ≡ c'.positive
  pub values : (r s : ℤ) → IsNumber d r → IsNumber d s → value_of c r s ≡ value_of c' r s
  pub terms : (r s : ℤ) → IsPair d r s → terms_of c r s ≡ terms_of c' r s

-- two answers are the same fault, or tables that say the same
abbrev pub IsSameAnswer : RootDatum → Result ConstantTable ConstFault → Result ConstantTable ConstFault → Type 0
IsSameAnswer d (Ok c) (Ok c') = IsSameTable d c c'
IsSameAnswer d (Ok c) (Err f) = ⊥
IsSameAnswer d (Err f) (Ok c) = ⊥
IsSameAnswer d (Err f) (Err f') = f ≡ f'

-- the cases of `LoadsConstants` exclude one another: want of memory aside, a loaded datum has one answer
abbrev pub LoadsOneWay : Type 0
LoadsOneWay = (d : RootDatum) (x y : Result ConstantTable ConstFault) → IsLoaded d → LoadsConstants d x → LoadsConstants d y → x ≢ Err NoMemory → y ≢ Err NoMemory → IsSameAnswer d x y
