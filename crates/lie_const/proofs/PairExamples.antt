-- The definitions at work on a pair of A_2 and one of G_2: forced values and terms.
use Rattle.std.proofs.Common.{◌≡◌, ℤ, pos, negsuc, ◌*ℤ◌, List, [], ◌∷◌, ◌&&◌, cond, replicate, refl, arith}
use Rattle.std.proofs.lemmas.Int.{ints}
use Rattle.std.specs.Ordering.{int_eq}
use Rattle.lie_datum.specs.Vectors.{Vector, minus}
use Rattle.lie_datum.specs.declared.root_pair.Root.{Root}
use Rattle.lie_datum.specs.RootList.{RootDatum, IsLoaded}
use Rattle.lie_datum.proofs.LoadedTest.{loaded_from}
use Rattle.lie_const.specs.declared.term.Term.{Term}
use Rattle.lie_const.specs.StructureConstants.{Table, coeffs_of, gap, norm, at_part, IsForced, extra, own, right}
use Rattle.lie_const.specs.CommutatorTerms.{coefficient, IsTerm, term_exponents}
use Rattle.lie_const.proofs.TableTest.{special_from, extraspecial_from, run_from}

-- x and y, and six zeros
abbrev pair : ℤ → ℤ → Vector
pair x y = x ∷ (y ∷ replicate 6 (pos 0))

abbrev root : Vector → Vector → Root
root c e = record { coeffs = c; co_coeffs = e }

-- A_2, simply connected: r_3 = a_1 + a_2
abbrev a2 : RootDatum
a2 = record {
  base = record { dim = 2; roots = pair (pos 2) (negsuc 0) ∷ (pair (negsuc 0) (pos 2) ∷ []); coroots = pair (pos 1) (pos 0) ∷ (pair (pos 0) (pos 1) ∷ []) };
  positive =
      root (pair (pos 1) (pos 0)) (pair (pos 1) (pos 0)) ∷ (root (pair (pos 0) (pos 1)) (pair (pos 0) (pos 1))
      ∷ (root (pair (pos 1) (pos 1)) (pair (pos 1) (pos 1)) ∷ []));
}

a2_loaded : IsLoaded a2
a2_loaded = loaded_from a2 refl

-- a table by its entries r, s, N_rs, and 0 elsewhere
abbrev listed : List (ℤ × ℤ × ℤ) → Table
listed [] r s = pos 0
listed (x ∷ xs) r s = cond (int_eq r x.0 && int_eq s x.1) x.2 (listed xs r s)

-- no value but N_12 is read below
abbrev a2_values : Table
a2_values = listed ((pos 1, pos 2, pos 1) ∷ [])

-- (r_1, r_2) is the extraspecial pair of the sum r_3, and r_2 - r_1 is no root: N_12 = 1
a2_extraspecial : IsForced a2 a2_values (at_part (pos 3) (pos 1) 0) (pos 1) (pos 2) (pos 1) (pos 1)
a2_extraspecial =
    extra (pos 1) (pos 2) (pos 3) 0 1 (extraspecial_from a2 a2_loaded (pos 1) (pos 2) (pos 3) refl refl refl (omega (arith, ints)) refl refl)
    (run_from a2 a2_loaded (minus (coeffs_of a2 (pos 1))) (coeffs_of a2 (pos 2)) 0 refl, run_from a2 a2_loaded (coeffs_of a2 (pos 1)) (coeffs_of a2 (pos 2)) 1 refl)

-- all roots have |r|^2 = 12, so N_(2,-3) 12 = N_12 12
a2_mixed : IsForced a2 a2_values (at_part (pos 3) (pos 1) 1) (pos 2) (negsuc 2) (pos 12) (pos 12)
a2_mixed = right (pos 1) (pos 2) (pos 3) (special_from a2 a2_loaded (pos 1) (pos 2) (pos 3) refl refl refl (omega (arith, ints)) refl)

-- the term of r_1 and r_2 at r_3 is N_12
a2_term : IsTerm a2 a2_values (pos 1) (pos 2) (1, 1) (record { i = 1; j = 1; root = pos 3; value = pos 1 })
a2_term = record { i = refl; j = refl; root = refl; value = refl }

-- G_2 with c_12 = -1 and c_21 = -3: a_1 is short, r_3 = a_1 + a_2, r_4 = 2 a_1 + a_2, r_5 = 3 a_1 + a_2, r_6 = 3 a_1 + 2 a_2
abbrev g2 : RootDatum
g2 = record {
  base = record { dim = 2; roots = pair (pos 2) (negsuc 0) ∷ (pair (negsuc 2) (pos 2) ∷ []); coroots = pair (pos 1) (pos 0) ∷ (pair (pos 0) (pos 1) ∷ []) };
  positive =
      root (pair (pos 1) (pos 0)) (pair (pos 1) (pos 0)) ∷ (root (pair (pos 0) (pos 1)) (pair (pos 0) (pos 1))
      ∷ (root (pair (pos 1) (pos 1)) (pair (pos 1) (pos 3)) ∷ (root (pair (pos 2) (pos 1)) (pair (pos 2) (pos 3))
      ∷ (root (pair (pos 3) (pos 1)) (pair (pos 1) (pos 1)) ∷ (root (pair (pos 3) (pos 2)) (pair (pos 1) (pos 2)) ∷ [])))));
}

g2_loaded : IsLoaded g2
g2_loaded = loaded_from g2 refl

-- the values that are read below
abbrev g2_values : Table
g2_values =
    listed ((pos 1, pos 2, pos 1) ∷ ((pos 3, pos 1, negsuc 1) ∷ ((pos 2, pos 5, pos 1) ∷ ((pos 3, pos 4, negsuc 2) ∷ ((negsuc 1, pos 3, negsuc 0) ∷ ((pos 4, negsuc 4, pos 1) ∷ []))))))

-- short roots have |r|^2 = 16 and long ones 48
g2_short : norm g2 (pos 1) ≡ pos 16
g2_short = refl

g2_long : norm g2 (pos 6) ≡ pos 48
g2_long = refl

-- (r_3, r_4) is a special pair of the sum r_6, whose extraspecial pair is (r_2, r_5): N_34 16 = 48 N_(-2,3) N_(4,-5), which is -48
g2_own : IsForced g2 g2_values (at_part (pos 6) (pos 3) 0) (pos 3) (pos 4) (pos 16) (negsuc 47)
g2_own =
    own (pos 3) (pos 4) (pos 6) (pos 2) (pos 5) (special_from g2 g2_loaded (pos 3) (pos 4) (pos 6) refl refl refl (omega (arith, ints)) refl)
    (extraspecial_from g2 g2_loaded (pos 2) (pos 5) (pos 6) refl refl refl (omega (arith, ints)) refl refl) (λ e. omega (arith, ints, e))

g2_solved : g2_values (pos 3) (pos 4) *ℤ pos 16 ≡ negsuc 47
g2_solved = refl

-- r_1 and r_2 have terms at r_3, r_4, r_5, r_6, and none at a_1 + 2 a_2, a_1 + 3 a_2, 2 a_1 + 3 a_2
g2_exponents : term_exponents g2 (pos 1) (pos 2) ≡ (1, 1) ∷ ((2, 1) ∷ ((3, 1) ∷ ((3, 2) ∷ [])))
g2_exponents = refl

-- the term at r_6 = 3 r_1 + 2 r_2: C_32 = N_31 N_34 / 6, which is 1
g2_term : IsTerm g2 g2_values (pos 1) (pos 2) (3, 2) (record { i = 3; j = 2; root = pos 6; value = pos 1 })
g2_term = record { i = refl; j = refl; root = refl; value = refl }
