-- The definitions at work on the adjoint module of A_1, with a_1 = (2) and the coroot (1), in the basis e_1, h_1, e_(-1).
use Rattle.std.proofs.Common.{◌≡◌, ℤ, pos, negsuc, List, [], ◌∷◌, replicate, refl}
use Rattle.lie_ring.specs.Integers.{integers}
use Rattle.lie_ring.specs.Matrices.{Matrix}
use Rattle.lie_datum.specs.Vectors.{Vector}
use Rattle.lie_datum.specs.RootDatum.{simple}
use Rattle.lie_datum.specs.RootList.{RootDatum}
use Rattle.lie_const.specs.StructureConstants.{Table}
use Rattle.lie_const.specs.Modules.{Module, root_element, weyl_element}
use Rattle.lie_const.specs.Adjoint.{RootVector, CorootVector, basis_vector, basis_place, bracket_matrix, matrix_power}
use Rattle.lie_const.specs.Signs.{sign_entry}

-- the number, and seven zeros
abbrev one_entry : ℤ → Vector
one_entry x = x ∷ replicate 7 (pos 0)

abbrev a1 : RootDatum
a1 = record { base = record { dim = 1; roots = one_entry (pos 2) ∷ []; coroots = one_entry (pos 1) ∷ [] }; positive = simple 1 ∷ [] }

-- no sum of two roots is a root
abbrev no_constants : Table
no_constants r s = pos 0

abbrev square : List (List ℤ) → Matrix ℤ
square rows = record { height = 3; width = 3; rows = rows }

abbrev row : ℤ → ℤ → ℤ → List ℤ
row a b c = a ∷ (b ∷ (c ∷ []))

basis-middle : basis_vector a1 1 ≡ CorootVector 1
basis-middle = refl

basis-last : basis_vector a1 (basis_place a1 (negsuc 0)) ≡ RootVector (negsuc 0)
basis-last = refl

-- e_1 h_1 = -2 e_1 and e_1 e_(-1) = h_1
bracket-a1 : bracket_matrix a1 no_constants (pos 1) ≡ square (row (pos 0) (negsuc 1) (pos 0) ∷ (row (pos 0) (pos 0) (pos 1) ∷ (row (pos 0) (pos 0) (pos 0) ∷ [])))
unfolding bracket_matrix
bracket-a1 = refl

-- the square of e_1 takes e_(-1) to -2 e_1
bracket-square-a1 : matrix_power 3 (bracket_matrix a1 no_constants (pos 1)) 2 ≡ square (row (pos 0) (pos 0) (negsuc 1) ∷ (row (pos 0) (pos 0) (pos 0) ∷ (row (pos 0) (pos 0) (pos 0) ∷ [])))
unfolding bracket_matrix
bracket-square-a1 = refl

abbrev adjoint : Module
adjoint = record {
  positive = 1;
  weights = one_entry (pos 2) ∷ (one_entry (pos 0) ∷ (one_entry (negsuc 1) ∷ []));
  powers =
      (square (row (pos 0) (negsuc 1) (pos 0) ∷ (row (pos 0) (pos 0) (pos 1) ∷ (row (pos 0) (pos 0) (pos 0) ∷ [])))
      ∷ (square (row (pos 0) (pos 0) (negsuc 0) ∷ (row (pos 0) (pos 0) (pos 0) ∷ (row (pos 0) (pos 0) (pos 0) ∷ []))) ∷ []))
      ∷ ((square (row (pos 0) (pos 0) (pos 0) ∷ (row (negsuc 0) (pos 0) (pos 0) ∷ (row (pos 0) (pos 2) (pos 0) ∷ [])))
      ∷ (square (row (pos 0) (pos 0) (pos 0) ∷ (row (pos 0) (pos 0) (pos 0) ∷ (row (negsuc 0) (pos 0) (pos 0) ∷ []))) ∷ [])) ∷ []);
}

-- X_1(1), and N_1, which exchanges e_1 and e_(-1) with the sign -1
root-element-a1 : root_element integers adjoint (pos 1) (pos 1) ≡ square (row (pos 1) (negsuc 1) (negsuc 0) ∷ (row (pos 0) (pos 1) (pos 1) ∷ (row (pos 0) (pos 0) (pos 1) ∷ [])))
unfolding root_element
root-element-a1 = refl

weyl-element-a1 : weyl_element integers adjoint 1 ≡ square (row (pos 0) (pos 0) (negsuc 0) ∷ (row (pos 0) (negsuc 0) (pos 0) ∷ (row (negsuc 0) (pos 0) (pos 0) ∷ [])))
unfolding weyl_element root_element
weyl-element-a1 = refl

sign-a1 : sign_entry a1 adjoint 1 (pos 1) ≡ negsuc 0
unfolding weyl_element root_element
sign-a1 = refl
