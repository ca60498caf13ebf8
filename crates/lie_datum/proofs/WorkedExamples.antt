-- The definitions at work on A_2 and on B_2, with unit vectors as simple coroots.
use Rattle.std.proofs.Common.{◌≡◌, ℤ, pos, negsuc, [], ◌∷◌, replicate, refl, Some, None}
use Rattle.std.specs.declared.cmp.Ordering.TheVariants.{Less}
use Rattle.lie_datum.specs.Vectors.{Vector, pairing}
use Rattle.lie_datum.specs.Numbers.{place}
use Rattle.lie_datum.specs.RootDatum.{Root, cartan, vector, simple, opposite, reflected}
use Rattle.lie_datum.specs.RootList.{RootDatum, height, root_cmp, numbered, root_of, length2}
use Rattle.lie_datum.specs.Laws.{reflected_in, positive_coroots}

-- x and y, and six zeros
abbrev pair : ℤ → ℤ → Vector
pair x y = x ∷ (y ∷ replicate 6 (pos 0))

abbrev root : Vector → Vector → Root
root coeffs co_coeffs = record { coeffs = coeffs; co_coeffs = co_coeffs }

abbrev a2 : RootDatum
a2 = record {
  base = record {
    dim = 2;
    roots = pair (pos 2) (negsuc 0) ∷ (pair (negsuc 0) (pos 2) ∷ []);
    coroots = pair (pos 1) (pos 0) ∷ (pair (pos 0) (pos 1) ∷ []);
  };
  positive = simple 1 ∷ (simple 2 ∷ (root (pair (pos 1) (pos 1)) (pair (pos 1) (pos 1)) ∷ []));
}

-- c_12 = -2 and c_21 = -1, so the second simple root is short
abbrev b2 : RootDatum
b2 = record {
  base = record {
    dim = 2;
    roots = pair (pos 2) (negsuc 1) ∷ (pair (negsuc 0) (pos 2) ∷ []);
    coroots = pair (pos 1) (pos 0) ∷ (pair (pos 0) (pos 1) ∷ []);
  };
  positive =
      simple 1 ∷ (simple 2 ∷ (root (pair (pos 1) (pos 1)) (pair (pos 2) (pos 1))
      ∷ (root (pair (pos 1) (pos 2)) (pair (pos 1) (pos 1)) ∷ [])));
}

a2_entry : cartan a2.base 1 2 ≡ negsuc 0
a2_entry = refl

b2_entry : cartan b2.base 1 2 ≡ negsuc 1
b2_entry = refl

b2_other_entry : cartan b2.base 2 1 ≡ negsuc 0
b2_other_entry = refl

-- s_1 a_2 = a_1 + a_2 and s_2 a_1 = a_1 + 2 a_2, with coroots 2 a_1^ + a_2^ and a_1^ + a_2^
b2_first_image : reflected b2.base 1 (simple 2) ≡ root (pair (pos 1) (pos 1)) (pair (pos 2) (pos 1))
b2_first_image = refl

b2_second_image : reflected b2.base 2 (simple 1) ≡ root (pair (pos 1) (pos 2)) (pair (pos 1) (pos 1))
b2_second_image = refl

-- a root goes to its opposite under its own reflection
b2_own_image : reflected_in b2.base (root_of b2 (pos 3)) (root_of b2 (pos 3)) ≡ opposite (root_of b2 (pos 3))
b2_own_image = refl

-- the simple roots have one height, and the greater coefficient vector comes first
a2_order : root_cmp (simple 1) (simple 2) ≡ Less
a2_order = refl

a2_height : height (root_of a2 (pos 3)) ≡ pos 2
a2_height = refl

-- signed numbers, and their places in r_1, r_2, r_3, r_(-1), r_(-2), r_(-3)
a2_opposite : numbered a2 (negsuc 0) ≡ Some (opposite (simple 1))
a2_opposite = refl

a2_no_root : numbered a2 (pos 4) ≡ None
a2_no_root = refl

a2_place : place 3 (negsuc 1) ≡ 4
a2_place = refl

-- the squares of the pairings with all coroots: 12 in A_2, 24 and 12 in B_2
a2_length : length2 a2 (simple 1) ≡ pos 12
a2_length = refl

b2_long : length2 b2 (simple 1) ≡ pos 24
b2_long = refl

b2_short : length2 b2 (simple 2) ≡ pos 12
b2_short = refl

-- a_1 + 2 a_2 pairs with the sum of the positive coroots to twice its height 3
b2_height_law : pairing (vector b2.base (root_of b2 (pos 4))) (positive_coroots b2) ≡ pos 6
b2_height_law = refl
