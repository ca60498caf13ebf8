-- The values while they are determined, and how a value is put at a pair.
-- Own: all of it; no public clause cites it.
use Rattle.std.specs.Prelude.{◌≡◌, ℕ, ◌+◌, ℤ, pos, neg_ℤ, ◌*ℤ◌, List, length, slice_set, ◌⊎◌}
use Rattle.lie_datum.specs.RootList.{RootDatum, root_of, IsString}
use Rattle.lie_const.specs.StructureConstants.{Table, Place, Precedes, IsSpecial, at_part, HasSigns, HoldsAt}
use Rattle.lie_const.specs.ConstantTables.{pair_place, value_in}

-- values for each two roots in the full order, row by row, where there are m positive roots
pub record PairValues : Type 0 where
  pub positive : ℕ
  pub values : List ℤ

-- the values as a table
abbrev pub table_in : PairValues → Table
table_in v = value_in v.positive v.values

-- v with the value c at (r, s)
abbrev pub put_one : PairValues → ℤ → ℤ → ℤ → PairValues
put_one v r s c = record { positive = v.positive; values = slice_set v.values (pair_place v.positive r s) c }

-- v with the value c at (r, s), and what the two sign rules give from it
abbrev pub put : PairValues → ℤ → ℤ → ℤ → PairValues
put v r s c = put_one (put_one (put_one (put_one v r s c) s r (neg_ℤ c)) (neg_ℤ r) (neg_ℤ s) (neg_ℤ c)) (neg_ℤ s) (neg_ℤ r) c

-- the value c meets the equation c a = e of the pair (r, s), and is p + 1 or its opposite
pub record IsUnitSolution (d : RootDatum) (r s a e c : ℤ) : Type 0 where
  pub solves : (c *ℤ a) ≡ e
  pub unit : (p q : ℕ) → IsString d (root_of d r) (root_of d s) p q → (c ≡ pos (p + 1)) ⊎ (c ≡ neg_ℤ (pos (p + 1)))

-- the equation of the pair (r, s) has neither p + 1 nor its opposite as its solution
abbrev pub HasNoSolution : RootDatum → ℤ → ℤ → ℤ → ℤ → Type 0
HasNoSolution d r s a e = (p q : ℕ) → IsString d (root_of d r) (root_of d s) p q → ¬ (e ≡ pos (p + 1) *ℤ a) × ¬ (e ≡ neg_ℤ (pos (p + 1) *ℤ a))

-- the place behind, with the same special pair
abbrev pub next : Place → Place
next at = at_part at.sum at.first (at.part + 1)

-- the values hold at all places before this one
pub record IsFilled (d : RootDatum) (v : PairValues) (at : Place) : Type 0 where
  pub count : v.positive ≡ length d.positive
  pub signs : HasSigns d (table_in v)
  pub before : (b : Place) → Precedes b at → HoldsAt d (table_in v) b

-- the pair that is determined at a place
pub data IsPairAt (d : RootDatum) : Place → ℤ → ℤ → Type 0 where
  own_pair : (r s k : ℤ) → IsSpecial d r s k → IsPairAt d (at_part k r 0) r s
  right_pair : (r s k : ℤ) → IsSpecial d r s k → IsPairAt d (at_part k r 1) s (neg_ℤ k)
  left_pair : (r s k : ℤ) → IsSpecial d r s k → IsPairAt d (at_part k r 2) (neg_ℤ k) r
