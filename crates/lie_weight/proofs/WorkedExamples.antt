-- The definitions at work on the rank two with c_12 = -1 and c_21 = -2, and the orbit of (1, 0): (1, 0), (-1, 1), (1, -1), (-1, 0).
-- The coroots are unit vectors. r_3 = a_1 + a_2 is lowered to a_1 by s_2, and the sign of 2 and a_1 is -1.
use Rattle.std.proofs.Common.{◌≡◌, ℤ, pos, negsuc, List, [], ◌∷◌, replicate, refl}
use Rattle.lie_ring.specs.Matrices.{Matrix}
use Rattle.lie_datum.specs.Vectors.{Vector}
use Rattle.lie_datum.specs.RootDatum.{simple}
use Rattle.lie_datum.specs.RootList.{RootDatum}
use Rattle.lie_const.specs.Modules.{Module, root_element, weyl_element, weyl_inverse}
use Rattle.lie_const.specs.Signs.{Signs}
use Rattle.lie_weight.specs.OrbitModules.{step_matrix}
use Rattle.lie_weight.specs.Duals.{dual_power}
use Rattle.lie_weight.specs.Conjugation.{conjugated, IsConjugate, absolute_height, reflected_height}

-- x and y, and six zeros
abbrev pair : ℤ → ℤ → Vector
pair x y = x ∷ (y ∷ replicate 6 (pos 0))

abbrev c2 : RootDatum
c2 = record {
  base = record {
    dim = 2;
    roots = pair (pos 2) (negsuc 0) ∷ (pair (negsuc 1) (pos 2) ∷ []);
    coroots = pair (pos 1) (pos 0) ∷ (pair (pos 0) (pos 1) ∷ []);
  };
  positive =
      simple 1 ∷ (simple 2 ∷ (record { coeffs = pair (pos 1) (pos 1); co_coeffs = pair (pos 1) (pos 2) }
      ∷ (record { coeffs = pair (pos 2) (pos 1); co_coeffs = pair (pos 1) (pos 1) } ∷ [])));
}

abbrev orbit : List Vector
orbit = pair (pos 1) (pos 0) ∷ (pair (negsuc 0) (pos 1) ∷ (pair (pos 1) (negsuc 0) ∷ (pair (negsuc 0) (pos 0) ∷ [])))

abbrev row : ℤ → ℤ → ℤ → ℤ → List ℤ
row a b c e = a ∷ (b ∷ (c ∷ (e ∷ [])))

abbrev none : List ℤ
none = row (pos 0) (pos 0) (pos 0) (pos 0)

abbrev square : List ℤ → List ℤ → List ℤ → List ℤ → Matrix ℤ
square a b c e = record { height = 4; width = 4; rows = a ∷ (b ∷ (c ∷ (e ∷ []))) }

-- ---- the steps: a_1 leads from the second weight to the first and from the last to the third, a_2 from the third to the second
steps_of_1 : step_matrix c2 orbit (pos 1) ≡ square (row (pos 0) (pos 1) (pos 0) (pos 0)) none (row (pos 0) (pos 0) (pos 0) (pos 1)) none
unfolding step_matrix
steps_of_1 = refl

steps_of_2 : step_matrix c2 orbit (pos 2) ≡ square none (row (pos 0) (pos 0) (pos 1) (pos 0)) none none
unfolding step_matrix
steps_of_2 = refl

steps_of_minus_2 : step_matrix c2 orbit (negsuc 1) ≡ square none none (row (pos 0) (pos 1) (pos 0) (pos 0)) none
unfolding step_matrix
steps_of_minus_2 = refl

-- ---- s_1 does not lower r_3, which has height 2, and s_2 does
not_by_1 : reflected_height c2 1 (pos 3) ≡ 2
not_by_1 = refl

by_2 : reflected_height c2 2 (pos 3) ≡ 1
by_2 = refl

height_of_3 : absolute_height c2 (pos 3) ≡ 2
height_of_3 = refl

-- ---- the conjugate by N_2, with its sign
abbrev steps : ℤ → List (Matrix ℤ)
steps r = step_matrix c2 orbit r ∷ []

-- the module with the steps of the simple roots, and these matrices for r_3
abbrev space : List (Matrix ℤ) → Module
space Ms = record { positive = 4; weights = orbit; powers = steps (pos 1) ∷ (steps (pos 2) ∷ (Ms ∷ ([] ∷ (steps (negsuc 0) ∷ (steps (negsuc 1) ∷ ([] ∷ ([] ∷ []))))))) }

abbrev minus_one : Signs
minus_one i s = negsuc 0

abbrev third : Matrix ℤ
third = square (row (pos 0) (pos 0) (pos 1) (pos 0)) (row (pos 0) (pos 0) (pos 0) (negsuc 0)) none none

third_is_conjugate : IsConjugate minus_one (space (third ∷ [])) 2 (pos 3) (pos 1) 1
unfolding step_matrix root_element weyl_element weyl_inverse
third_is_conjugate = refl

-- N_2 E_1 N_2^-1 itself is the opposite of it
third_by_conjugation : conjugated (space []) 2 (step_matrix c2 orbit (pos 1)) ≡ square (row (pos 0) (pos 0) (negsuc 0) (pos 0)) (row (pos 0) (pos 0) (pos 0) (pos 1)) none none
unfolding step_matrix root_element weyl_element weyl_inverse
third_by_conjugation = refl

-- ---- the dual has rows for columns, and the opposite sign for E_r^(1)
dual_third : dual_power (space (third ∷ [])) (pos 3) 1 ≡ square none none (row (negsuc 0) (pos 0) (pos 0) (pos 0)) (row (pos 0) (pos 1) (pos 0) (pos 0))
dual_third = refl
