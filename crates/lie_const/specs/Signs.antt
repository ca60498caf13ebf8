-- The signs of the Weyl representatives on root elements.
-- Source: Carter, Simple Groups of Lie Type, chapter 6 and 7.2 (n_r x_s(t) n_r^-1).
-- Own: the sign is read off the adjoint module, and what is asked of it.
--
--   s_i s           image d i s           i counts from 1, s is a signed number
--   eta_is          eta i s               n_i x_s(a) n_i^-1 = x_(s_i s)(eta_is a)
--   the entry       sign_entry d v i s    of N_i in row e_(s_i s) and column e_s of the adjoint module
use Rattle.std.specs.Prelude.{◌≡◌, ◌⊎◌, ℕ, ◌-◌, ◌+◌, ◌*◌, ◌<◌, ℤ, pos, negsuc, neg_ℤ, ◌<ℤ◌, List, length, slice_index_or}
use Rattle.std.specs.List.{All}
use Rattle.lie_ring.specs.Integers.{integers}
use Rattle.lie_ring.specs.Matrices.{entry}
use Rattle.lie_datum.specs.Numbers.{place}
use Rattle.lie_datum.specs.RootDatum.{rank, IsSimpleIndex, reflected}
use Rattle.lie_datum.specs.RootList.{RootDatum, root_of, IsNumber}
use Rattle.lie_const.specs.CommutatorTerms.{number_of}
use Rattle.lie_const.specs.Modules.{Module, weyl_element}
use Rattle.lie_const.specs.Adjoint.{basis_place}

-- the signs, by simple index and signed number
abbrev pub Signs : Type 0
Signs = ℕ → ℤ → ℤ

-- the number of s_i s
abbrev pub image : RootDatum → ℕ → ℤ → ℤ
image d i s = number_of d (reflected d.base i (root_of d s)).coeffs

-- what the adjoint module has for the sign of i and s
abbrev pub sign_entry : RootDatum → Module → Signs
sign_entry d v i s = entry (pos 0) (weyl_element integers v i) (basis_place d (image d i s)) (basis_place d s)

-- what is asked of the sign of i and s: it is 1 or -1, it is -1 at a_i and at -a_i, and for a negative root it is that of the opposite root
pub record IsGoodSign (eta : Signs) (i : ℕ) (s : ℤ) : Type 0 where
  pub unit : (eta i s ≡ pos 1) ⊎ (eta i s ≡ negsuc 0)
  pub own : (s ≡ pos i) ⊎ (s ≡ neg_ℤ (pos i)) → eta i s ≡ negsuc 0
  pub opposite : s <ℤ pos 0 → eta i s ≡ eta i (neg_ℤ s)

-- the signs are the entries of the adjoint module v, and are as they should be
pub record AreSigns (d : RootDatum) (v : Module) (eta : Signs) : Type 0 where
  pub entries : (i : ℕ) (s : ℤ) → IsSimpleIndex d.base i → IsNumber d s → eta i s ≡ sign_entry d v i s
  pub good : (i : ℕ) (s : ℤ) → IsSimpleIndex d.base i → IsNumber d s → IsGoodSign eta i s

-- for i rising and s in the full order, (i, s) is the first whose entry is not as it should be, and has the value c
pub record IsFirstBadSign (d : RootDatum) (v : Module) (i : ℕ) (s c : ℤ) : Type 0 where
  pub index : IsSimpleIndex d.base i
  pub number : IsNumber d s
  pub value : c ≡ sign_entry d v i s
  pub bad : ¬ IsGoodSign (sign_entry d v) i s
  pub earlier : (j : ℕ) (r : ℤ) → IsSimpleIndex d.base j → IsNumber d r →
      (j < i) ⊎ ((j ≡ i) × (place (length d.positive) r < place (length d.positive) s)) → IsGoodSign (sign_entry d v) j r

-- the signs of a number of simple indices and of positive roots: for i rising, one for each root in the full order
pub record SignTable : Type 0 where
  pub rank : ℕ
  pub positive : ℕ
  pub signs : List ℤ

-- eta_is in a table
abbrev pub eta_of : SignTable → Signs
eta_of t i s = slice_index_or t.signs ((i - 1) * (2 * t.positive) + place t.positive s) (pos 1)

-- the table has the signs of a datum, whatever they are
pub record IsSignTable (d : RootDatum) (t : SignTable) : Type 0 where
  pub rank : t.rank ≡ rank d.base
  pub positive : t.positive ≡ length d.positive

-- the table has one sign for each simple index and each root
abbrev pub HasSignCount : SignTable → Type 0
HasSignCount t = length t.signs ≡ t.rank * (2 * t.positive)

-- the list has a member for each simple index and each root, each 1 or -1
pub record IsSignList (rank positive : ℕ) (signs : List ℤ) : Type 0 where
  pub count : length signs ≡ rank * (2 * positive)
  pub units : All (λ c. (c ≡ pos 1) ⊎ (c ≡ negsuc 0)) signs
