-- Orders of the products of two simple reflections, by the Cartan integers.
-- Source: Humphreys, Introduction to Lie Algebras and Representation Theory, 9.4 (pairs of roots, by the product of their Cartan integers).
use Rattle.std.specs.Prelude.{◌≢◌, ◌≤◌, ◌<◌, ℕ, zero, suc, ℤ, pos, negsuc, ◌*ℤ◌, List, [], ◌∷◌, ◌++◌}
use Rattle.lie_datum.specs.RootDatum.{cartan, IsSimpleIndex}
use Rattle.lie_datum.specs.RootList.{RootDatum, IsLoaded}
use Rattle.lie_weyl.specs.WeylElement.{SameProduct}

-- the word n times
abbrev pub repeated : ℕ → List ℕ → List ℕ
repeated zero w = []
repeated (suc n) w = w ++ repeated n w

-- the m-th power of the product of w is 1, and no lower one is
pub record IsOrder (d : RootDatum) (w : List ℕ) (m : ℕ) : Type 0 where
  pub some : 1 ≤ m
  pub one : SameProduct d (repeated m w) []
  pub least : (k : ℕ) → 1 ≤ k → k < m → ¬ SameProduct d (repeated k w) []

-- the order for the product c_ij c_ji, and 0 where it is none of 0, 1, 2, 3
abbrev pub order_for : ℤ → ℕ
order_for (pos zero) = 2
order_for (pos (suc zero)) = 3
order_for (pos (suc (suc zero))) = 4
order_for (pos (suc (suc (suc zero)))) = 6
order_for (pos (suc (suc (suc (suc n))))) = 0
order_for (negsuc n) = 0

-- for different i and j the order of s_i s_j is 2, 3, 4, 6 where c_ij c_ji is 0, 1, 2, 3
abbrev pub OrdersOfProducts : Type 0
OrdersOfProducts =
    (d : RootDatum) → IsLoaded d → (i j : ℕ) → IsSimpleIndex d.base i → IsSimpleIndex d.base j → i ≢ j →
    IsOrder d (i ∷ j ∷ []) (order_for (cartan d.base i j *ℤ cartan d.base j i))
