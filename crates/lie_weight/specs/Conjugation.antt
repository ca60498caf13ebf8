-- The root vectors of roots that are not simple, as conjugates of those of lower roots.
-- Source: Carter, Simple Groups of Lie Type, chapter 6 and 7.2 (n_r x_s(t) n_r^-1).
-- Own: which simple reflection lowers a root, and the bound on the sizes that are met.
--
--   |r|                absolute_height d r         the height of r or of -r, whichever is positive
--   s = s_i r          IsLowering d i r s          i is least such that s_i lowers r; r is neither simple nor the negative of a simple root
--   E_r^(k)            IsConjugate d eta v i r s k    eta_is^k N_i E_s^(k) N_i^-1
--   |M|                absolute M                  entry by entry
--   F_r                absolute_element v r        1 + |E_r^(1)| + |E_r^(2)| + ..
--   the work           work v i s k                F_i F_-i F_i |E_s^(k)| F_i F_-i F_i, which bounds the conjugate and all that leads to it
use Rattle.std.specs.Prelude.{◌≡◌, ◌⊎◌, ℕ, suc, ◌<◌, ◌≤◌, ℤ, pos, neg_ℤ, ◌+ℤ◌, nat_abs, unsigned_abs, length, cond, eqb}
use Rattle.lie_ring.specs.Rings.{sum_below}
use Rattle.lie_ring.specs.Integers.{integers}
use Rattle.lie_ring.specs.Powers.{power}
use Rattle.lie_ring.specs.Matrices.{Matrix, table, entry, product, scaled}
use Rattle.lie_mat.specs.Wide.{IsHugeMatrix}
use Rattle.lie_datum.specs.Numbers.{place}
use Rattle.lie_datum.specs.RootDatum.{rank, reflected, IsSimpleIndex}
use Rattle.lie_datum.specs.RootList.{RootDatum, root_of, height, IsNumber}
use Rattle.lie_const.specs.Modules.{Module, dimension, top, divided_power, weyl_element, weyl_inverse}
use Rattle.lie_const.specs.Signs.{Signs}

-- the absolute value of the height
abbrev pub absolute_height : RootDatum → ℤ → ℕ
absolute_height d r = unsigned_abs (height (root_of d r))

-- the absolute height of s_i r
abbrev pub reflected_height : RootDatum → ℕ → ℤ → ℕ
reflected_height d i r = unsigned_abs (height (reflected d.base i (root_of d r)))

-- r is neither simple nor the negative of a simple root, i is the least simple index with s_i r lower than r, and s = s_i r
pub record IsLowering (d : RootDatum) (i : ℕ) (r s : ℤ) : Type 0 where
  pub index : IsSimpleIndex d.base i
  pub from : IsNumber d r
  pub past : rank d.base < unsigned_abs r
  pub number : IsNumber d s
  pub root : root_of d s ≡ reflected d.base i (root_of d r)
  pub lower : reflected_height d i r < absolute_height d r
  pub least : (j : ℕ) → IsSimpleIndex d.base j → j < i → absolute_height d r ≤ reflected_height d j r

-- N_i M N_i^-1
abbrev pub conjugated : Module → ℕ → Matrix ℤ → Matrix ℤ
conjugated v i M = product integers (product integers (weyl_element integers v i) M) (weyl_inverse integers v i)

-- E_r^(k) is eta_is^k N_i E_s^(k) N_i^-1
abbrev pub IsConjugate : Signs → Module → ℕ → ℤ → ℤ → ℕ → Type 0
IsConjugate eta v i r s k = divided_power v r k ≡ scaled integers (power integers (eta i s) k) (conjugated v i (divided_power v s k))

-- it is for the i and s that lower r
abbrev pub IsCompletedAt : RootDatum → Signs → Module → ℤ → Type 0
IsCompletedAt d eta v r = (i : ℕ) (s : ℤ) (k : ℕ) → IsLowering d i r s → 1 ≤ k → IsConjugate eta v i r s k

-- at the roots of less absolute height than h
abbrev pub IsCompletedBelow : RootDatum → Signs → Module → ℕ → Type 0
IsCompletedBelow d eta v h = (r : ℤ) → absolute_height d r < h → IsCompletedAt d eta v r

-- at all roots
abbrev pub IsCompleted : RootDatum → Signs → Module → Type 0
IsCompleted d eta v = (r : ℤ) → IsCompletedAt d eta v r

-- the absolute values of the entries
abbrev pub absolute : Matrix ℤ → Matrix ℤ
absolute M = table M.height M.width (λ a b. pos (nat_abs (entry (pos 0) M a b)))

-- F_r
unfoldable pub absolute_element : Module → ℤ → Matrix ℤ
absolute_element v r = table (dimension v) (dimension v) (λ a b.
    cond (eqb a b) (pos 1) (pos 0) +ℤ sum_below integers (top v r) (λ k. pos (nat_abs (entry (pos 0) (divided_power v r (suc k)) a b))))

-- F_i F_-i F_i
unfoldable pub absolute_weyl : Module → ℕ → Matrix ℤ
absolute_weyl v i = product integers (absolute_element v (pos i)) (product integers (absolute_element v (neg_ℤ (pos i))) (absolute_element v (pos i)))

-- the product of the seven absolute values
abbrev pub work : Module → ℕ → ℤ → ℕ → Matrix ℤ
work v i s k = product integers (product integers (absolute_weyl v i) (absolute (divided_power v s k))) (absolute_weyl v i)

-- the work at r and k is huge
pub record IsHuge (d : RootDatum) (v : Module) (r : ℤ) (k : ℕ) : Type 0 where
  pub index : ℕ
  pub lowered : ℤ
  pub lowering : IsLowering d index r lowered
  pub first : 1 ≤ k
  pub work : IsHugeMatrix (work v index lowered k)

-- q and j stand before r and k: by rising absolute height, then by the full order, then by rising k
abbrev pub Precedes : RootDatum → ℤ → ℕ → ℤ → ℕ → Type 0
Precedes d q j r k =
    (absolute_height d q < absolute_height d r)
    ⊎ ((absolute_height d q ≡ absolute_height d r) × ((place (length d.positive) q < place (length d.positive) r) ⊎ ((q ≡ r) × (j < k))))

-- r and k are the first that are huge
pub record IsFirstHuge (d : RootDatum) (v : Module) (r : ℤ) (k : ℕ) : Type 0 where
  pub huge : IsHuge d v r k
  pub before : (q : ℤ) (j : ℕ) → IsNumber d q → Precedes d q j r k → ¬ IsHuge d v q j
