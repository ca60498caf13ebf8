-- The relations at work on the natural module of SL_2, with the weights 1 and -1, and on one with a 2 in place of a 1.
-- No relation of A_1 reads a structure constant, so the table of constants is any. Then a cover line of a torus.
use Rattle.std.proofs.Common.{◌≡◌, zero, suc, ℤ, pos, negsuc, [], ◌∷◌, replicate, refl, ap, arith}
use Rattle.std.proofs.lemmas.Int.{ints}
use Rattle.lie_ring.specs.Matrices.{Matrix, entry}
use Rattle.lie_datum.specs.Vectors.{Vector, combination, unit, entry as coordinate}
use Rattle.lie_datum.specs.RootDatum.{simple, IsWithin}
use Rattle.lie_datum.specs.RootList.{RootDatum}
use Rattle.lie_const.specs.ConstantTables.{ConstantTable}
use Rattle.lie_const.specs.Modules.{Module, root_element}
use Rattle.lie_const.specs.Signs.{Signs}
use Rattle.lie_poly.specs.Polynomials.{monomial, laurent}
use Rattle.lie_identities.specs.declared.relations.Rel.TheVariants.{S1, S6, S7}
use Rattle.lie_identities.specs.AuditRelations.{relations}
use Rattle.lie_identities.specs.CoverLines.{IsCombination, IsFirstDifferentCoordinate}
use Rattle.lie_identities.specs.Audit.{left_matrix, right_matrix, IsIdentity}

abbrev weight : ℤ → Vector
weight x = x ∷ replicate 7 (pos 0)

abbrev a1 : RootDatum
a1 = record { base = record { dim = 1; roots = weight (pos 2) ∷ []; coroots = weight (pos 1) ∷ [] }; positive = simple 1 ∷ [] }

abbrev square : ℤ → ℤ → ℤ → ℤ → Matrix ℤ
square a b c e = record { height = 2; width = 2; rows = (a ∷ (b ∷ [])) ∷ ((c ∷ (e ∷ [])) ∷ []) }

-- the module in which e_1 takes the second basis vector to this multiple of the first
abbrev space : ℤ → Module
space n = record {
  positive = 1;
  weights = weight (pos 1) ∷ (weight (negsuc 0) ∷ []);
  powers = (square (pos 0) n (pos 0) (pos 0) ∷ []) ∷ ((square (pos 0) (pos 0) (pos 1) (pos 0) ∷ []) ∷ []);
}

abbrev signs : Signs
signs i s = negsuc 0

a1_relations : relations a1 ≡ S1 (pos 1) ∷ (S1 (negsuc 0) ∷ (S6 1 ∷ (S7 1 (pos 1) ∷ (S7 1 (negsuc 0) ∷ []))))
unfolding relations
a1_relations = refl

-- ---- the natural module meets each
module _ (c : ConstantTable) where
  natural_S1 : IsIdentity a1 c signs (space (pos 1)) (S1 (pos 1))
  unfolding root_element
  natural_S1 = refl

  natural_opposite_S1 : IsIdentity a1 c signs (space (pos 1)) (S1 (negsuc 0))
  unfolding root_element
  natural_opposite_S1 = refl

  natural_S6 : IsIdentity a1 c signs (space (pos 1)) (S6 1)
  unfolding root_element
  natural_S6 = refl

  natural_S7 : IsIdentity a1 c signs (space (pos 1)) (S7 1 (pos 1))
  unfolding root_element
  natural_S7 = refl

  natural_opposite_S7 : IsIdentity a1 c signs (space (pos 1)) (S7 1 (negsuc 0))
  unfolding root_element
  natural_opposite_S7 = refl

  -- ---- with a 2, S1 holds, and S6 fails in the first row and column: 1 on the left, t on the right
  doubled_S1 : IsIdentity a1 c signs (space (pos 2)) (S1 (pos 1))
  unfolding root_element
  doubled_S1 = refl

  doubled_opposite_S1 : IsIdentity a1 c signs (space (pos 2)) (S1 (negsuc 0))
  unfolding root_element
  doubled_opposite_S1 = refl

  doubled_left : entry laurent.zero (left_matrix a1 (space (pos 2)) (S6 1)) 0 0 ≡ monomial (pos 1) (pos 0) (pos 0)
  unfolding root_element
  doubled_left = refl

  doubled_right : entry laurent.zero (right_matrix a1 c signs (space (pos 2)) (S6 1)) 0 0 ≡ monomial (pos 1) (pos 1) (pos 0)
  doubled_right = refl

-- ---- a torus of rank 1, with the weights 2 and 3: the line (-1, 1) covers its axis, and (1, 1) gives 5
abbrev torus : Module
torus = record { positive = 0; weights = weight (pos 2) ∷ (weight (pos 3) ∷ []); powers = [] }

difference_is_the_axis : combination (negsuc 0 ∷ (pos 1 ∷ [])) torus.weights ≡ unit 8 1
difference_is_the_axis = refl

difference_is_a_line : IsCombination torus 1 (negsuc 0 ∷ (pos 1 ∷ []))
difference_is_a_line = record { count = refl; small = small; sum = λ k l. ap (λ (x : Vector). coordinate x k) difference_is_the_axis }
  where
    small : IsWithin 1000000 (negsuc 0 ∷ (pos 1 ∷ []))
    small zero d l = omega arith
    small (suc zero) d l = omega arith
    small (suc (suc k)) d l = absurd (let never : ⊥ = omega (arith, l) in never)

sum_is_5 : IsFirstDifferentCoordinate torus 1 (pos 1 ∷ (pos 1 ∷ [])) 1 (pos 5)
sum_is_5 = record { first = omega arith; last = omega arith; here = refl; different = λ e. (let k : pos 5 ≡ pos 1 = e in omega (arith, ints, k)); before = λ k l. absurd (let never : ⊥ = omega (arith, l) in never) }
