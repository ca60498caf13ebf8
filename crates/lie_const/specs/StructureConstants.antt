-- The structure constants N_rs of a root datum, in a Chevalley basis whose signs are fixed on extraspecial pairs.
--
--   N_rs             n r s                      r and s are signed numbers of roots
--   r + s = k        IsSum d r s k              all three are roots
--   |r|^2            norm d r                   the sum of the squares of the pairings of r with all coroots
--   |s - r|^2        gap d s r                  or 1 where s - r is no root
--   N_rs A = E       IsForced d n at r s A E    the equation of the pair (r, s), which is determined at the place `at`
--
-- Source: Carter, Simple Groups of Lie Type, 4.1 and 4.2; special and extraspecial pairs are his.
-- Own: the signs on extraspecial pairs, which are all positive; the order in which the pairs are determined.
use Rattle.std.specs.Prelude.{◌≡◌, ◌≢◌, ℕ, ◌+◌, ◌<◌, ℤ, pos, neg_ℤ, ◌+ℤ◌, ◌*ℤ◌, ◌≤ℤ◌, ◌<ℤ◌, ◌⊎◌, Option}
use Rattle.std.specs.List.{find}
use Rattle.std.specs.Option.{option_map_or}
use Rattle.lie_datum.specs.Vectors.{Vector, plus, minus}
pub use Rattle.lie_datum.specs.Vectors.{same_vector}
use Rattle.lie_datum.specs.declared.root_pair.Root.{Root}
use Rattle.lie_datum.specs.RootList.{RootDatum, all_roots, root_of, IsNumber, IsString, length2}

-- the values N_rs, by signed numbers
abbrev pub Table : Type 0
Table = ℤ → ℤ → ℤ

-- the coefficients of the root of a signed number
abbrev pub coeffs_of : RootDatum → ℤ → Vector
coeffs_of d r = (root_of d r).coeffs

-- r + s = k, and all three are roots
pub record IsSum (d : RootDatum) (r s k : ℤ) : Type 0 where
  pub left : IsNumber d r
  pub right : IsNumber d s
  pub number : IsNumber d k
  pub is : coeffs_of d k ≡ plus (coeffs_of d r) (coeffs_of d s)

-- a special pair: positive roots, r before s, with the sum k
pub record IsSpecial (d : RootDatum) (r s k : ℤ) : Type 0 where
  pub positive : pos 0 <ℤ r
  pub before : r <ℤ s
  pub sum : IsSum d r s k

-- an extraspecial pair: the special pair of its sum whose r is first
pub record IsExtraspecial (d : RootDatum) (r s k : ℤ) : Type 0 where
  pub special : IsSpecial d r s k
  pub first : (r' s' : ℤ) → IsSpecial d r' s' k → r ≤ℤ r'

-- the root with these coefficients, if there is one
abbrev pub find_root : RootDatum → Vector → Option Root
find_root d v = find (λ r. same_vector r.coeffs v) (all_roots d)

-- |r|^2
abbrev pub norm : RootDatum → ℤ → ℤ
norm d r = length2 d (root_of d r)

-- |v|^2 where v is a root, and 1 where it is none
abbrev pub norm_or_one : RootDatum → Vector → ℤ
norm_or_one d v = option_map_or (length2 d) (find_root d v) (pos 1)

-- |s - r|^2 where s - r is a root, and 1 where it is none
abbrev pub gap : RootDatum → ℤ → ℤ → ℤ
gap d s r = norm_or_one d (plus (coeffs_of d s) (minus (coeffs_of d r)))

-- where a pair stands in the order of determination: by the sum of its special pair, the first root of that pair, and its part
pub record Place : Type 0 where
  pub sum : ℤ
  pub first : ℤ
  pub part : ℕ

-- the sums in order, then the first roots in order, then the parts
abbrev pub Precedes : Place → Place → Type 0
Precedes a b = (a.sum <ℤ b.sum) ⊎ (((a.sum ≡ b.sum) × (a.first <ℤ b.first)) ⊎ ((a.sum ≡ b.sum) × (a.first ≡ b.first) × (a.part < b.part)))

-- the place with the sum k, the first root r, and this part
abbrev pub at_part : ℤ → ℤ → ℕ → Place
at_part k r part = record { sum = k; first = r; part = part }

-- the pair (r, s) that is determined at a place, with its equation N_rs A = E: for the special pair (r, s) of the sum k
-- the pair itself, then (s, -k), then (-k, r)
pub data IsForced (d : RootDatum) (n : Table) : Place → ℤ → ℤ → ℤ → ℤ → Type 0 where
  -- on an extraspecial pair N_rs = p + 1
  extra : (r s k : ℤ) (p q : ℕ) → IsExtraspecial d r s k → IsString d (root_of d r) (root_of d s) p q →
      IsForced d n (at_part k r 0) r s (pos 1) (pos (p + 1))
  -- on another special pair, with the extraspecial pair (r0, s0) of the same sum:
  -- N_rs N_(r0,s0) |s - r0|^2 |r - r0|^2 = |k|^2 (N_(s,-r0) N_(r,-s0) |r - r0|^2 + N_(-r0,r) N_(s,-s0) |s - r0|^2)
  own : (r s k r0 s0 : ℤ) → IsSpecial d r s k → IsExtraspecial d r0 s0 k → r0 ≢ r →
      IsForced d n (at_part k r 0) r s
      (n r0 s0 *ℤ gap d s r0 *ℤ gap d r r0)
      (norm d k *ℤ (n s (neg_ℤ r0) *ℤ n r (neg_ℤ s0) *ℤ gap d r r0 +ℤ n (neg_ℤ r0) r *ℤ n s (neg_ℤ s0) *ℤ gap d s r0))
  -- N_(s,-k) |k|^2 = N_rs |r|^2
  right : (r s k : ℤ) → IsSpecial d r s k → IsForced d n (at_part k r 1) s (neg_ℤ k) (norm d k) (n r s *ℤ norm d r)
  -- N_(-k,r) |k|^2 = N_rs |s|^2
  left : (r s k : ℤ) → IsSpecial d r s k → IsForced d n (at_part k r 2) (neg_ℤ k) r (norm d k) (n r s *ℤ norm d s)

-- the rules that hold at every pair: N_rs is 0 where r + s is no root, as at equal and at opposite roots, N_sr = -N_rs, and N_(-r,-s) = -N_rs
pub record HasSigns (d : RootDatum) (n : Table) : Type 0 where
  pub none : (r s : ℤ) → IsNumber d r → IsNumber d s → ((k : ℤ) → ¬ IsSum d r s k) → n r s ≡ pos 0
  pub swapped : (r s : ℤ) → IsNumber d r → IsNumber d s → n s r ≡ neg_ℤ (n r s)
  pub opposite : (r s : ℤ) → IsNumber d r → IsNumber d s → n (neg_ℤ r) (neg_ℤ s) ≡ neg_ℤ (n r s)

-- N_rs is p + 1 or its opposite, by the string of s along r
abbrev pub IsUnitValue : RootDatum → Table → ℤ → ℤ → Type 0
IsUnitValue d n r s = (p q : ℕ) → IsString d (root_of d r) (root_of d s) p q → (n r s ≡ pos (p + 1)) ⊎ (n r s ≡ neg_ℤ (pos (p + 1)))

-- the equation of a place holds, and its value is p + 1 or the opposite
abbrev pub HoldsAt : RootDatum → Table → Place → Type 0
HoldsAt d n at = (r s a e : ℤ) → IsForced d n at r s a e → ((n r s *ℤ a) ≡ e) × IsUnitValue d n r s

-- the table stands for the datum
pub record StandsFor (d : RootDatum) (n : Table) : Type 0 where
  pub signs : HasSigns d n
  pub values : (at : Place) → HoldsAt d n at

-- (r, s) is the first pair whose forced value fails: with its equation N_rs a = e, the number e is neither (p + 1) a nor -(p + 1) a.
-- The table is one that holds before this pair.
pub record IsFirstFailure (d : RootDatum) (r s a e : ℤ) : Type 0 where
  pub table : Table
  pub signs : HasSigns d table
  pub at : Place
  pub before : (b : Place) → Precedes b at → HoldsAt d table b
  pub forced : IsForced d table at r s a e
  pub fails : (p q : ℕ) → IsString d (root_of d r) (root_of d s) p q → (e ≢ (pos (p + 1) *ℤ a)) × (e ≢ neg_ℤ (pos (p + 1) *ℤ a))

-- two tables that stand for one datum are equal
abbrev pub IsUnique : RootDatum → Type 0
IsUnique d = (m n : Table) → StandsFor d m → StandsFor d n → (r s : ℤ) → IsNumber d r → IsNumber d s → m r s ≡ n r s
