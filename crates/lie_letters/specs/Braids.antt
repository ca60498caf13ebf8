-- Braid values: the product of the signs along the braid of two simple reflections.
-- Source: Geck, Pfeiffer, Characters of Finite Coxeter Groups and Iwahori-Hecke Algebras, 1.2 (braid relations, Matsumoto's theorem).
-- Own: which root the walk begins at, and that the value is to be 1.
--
--   m                       the order of s_i s_j, IsOrder
--   n_j n_i n_j ..          alternating j i (m - 1)      the first letter acts first
--   the braid value         IsBraidValue d eta i j c
use Rattle.std.specs.Prelude.{◌≡◌, ◌≢◌, ◌⊎◌, ℕ, zero, suc, ◌-◌, ◌<◌, ℤ, pos, ◌*ℤ◌, List, [], ◌∷◌}
use Rattle.lie_datum.specs.RootDatum.{IsSimpleIndex}
use Rattle.lie_datum.specs.RootList.{RootDatum}
use Rattle.lie_weyl.specs.Orders.{IsOrder}
use Rattle.lie_const.specs.Signs.{Signs, image}

-- the product of the signs on the way from the root s along the word
abbrev pub carried_sign : RootDatum → Signs → List ℕ → ℤ → ℤ
carried_sign d eta [] s = pos 1
carried_sign d eta (i ∷ w) s = eta i s *ℤ carried_sign d eta w (image d i s)

-- i j i j .., n letters
abbrev pub alternating : ℕ → ℕ → ℕ → List ℕ
alternating i j zero = []
alternating i j (suc n) = i ∷ alternating j i n

-- the value of the braid of i and j: with m the order of s_i s_j, from a_i on along n_j n_i n_j .., m - 1 letters
pub record IsBraidValue (d : RootDatum) (eta : Signs) (i j : ℕ) (c : ℤ) : Type 0 where
  pub order : ℕ
  pub is_order : IsOrder d (i ∷ j ∷ []) order
  pub value : c ≡ carried_sign d eta (alternating j i (order - 1)) (pos i)

-- each braid value is 1
abbrev pub HasBraids : RootDatum → Signs → Type 0
HasBraids d eta = (i j : ℕ) → IsSimpleIndex d.base i → IsSimpleIndex d.base j → i < j → IsBraidValue d eta i j (pos 1)

-- i, then j, is the first pair whose braid value c is not 1
pub record IsFirstBadBraid (d : RootDatum) (eta : Signs) (i j : ℕ) (c : ℤ) : Type 0 where
  pub left : IsSimpleIndex d.base i
  pub right : IsSimpleIndex d.base j
  pub before : i < j
  pub value : IsBraidValue d eta i j c
  pub bad : c ≢ pos 1
  pub earlier : (k l : ℕ) → IsSimpleIndex d.base k → IsSimpleIndex d.base l → k < l → (k < i) ⊎ ((k ≡ i) × (l < j)) → IsBraidValue d eta k l (pos 1)
