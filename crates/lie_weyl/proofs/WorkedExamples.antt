-- The definitions at work on A_2, with a_1 = (2, -1), a_2 = (-1, 2) and the unit vectors as coroots.
use Rattle.std.proofs.Common.{◌≡◌, ℤ, pos, negsuc, List, [], ◌∷◌, true, refl}
use Rattle.lie_datum.specs.declared.root_pair.Root.{Root}
use Rattle.lie_datum.specs.RootDatum.{Base, simple}
use Rattle.lie_weyl.specs.WeylElement.{moved, is_negative, word_length}

abbrev vector : ℤ → ℤ → List ℤ
vector a b = a ∷ (b ∷ (pos 0 ∷ (pos 0 ∷ (pos 0 ∷ (pos 0 ∷ (pos 0 ∷ (pos 0 ∷ [])))))))

abbrev a2 : Base
a2 = record { dim = 2; roots = vector (pos 2) (negsuc 0) ∷ (vector (negsuc 0) (pos 2) ∷ []); coroots = vector (pos 1) (pos 0) ∷ (vector (pos 0) (pos 1) ∷ []) }

-- the root with these coefficients, which are those of its coroot too
abbrev both : ℤ → ℤ → Root
both a b = record { coeffs = vector a b; co_coeffs = vector a b }

-- s_1 s_2 a_1 = a_2
s12-a1 : moved a2 (1 ∷ (2 ∷ [])) (simple 1) ≡ simple 2
s12-a1 = refl

-- s_1 s_2 a_2 = - a_1 - a_2, a negative root
s12-a2 : moved a2 (1 ∷ (2 ∷ [])) (simple 2) ≡ both (negsuc 0) (negsuc 0)
s12-a2 = refl

below : is_negative (moved a2 (1 ∷ (2 ∷ [])) (simple 2)) ≡ true
below = refl

-- s_1 s_2 s_1 makes all three positive roots negative, and s_1 s_2 two of them
length-121 : word_length (record { base = a2; positive = both (pos 1) (pos 0) ∷ (both (pos 0) (pos 1) ∷ (both (pos 1) (pos 1) ∷ [])) }) (1 ∷ (2 ∷ (1 ∷ []))) ≡ 3
length-121 = refl

length-12 : word_length (record { base = a2; positive = both (pos 1) (pos 0) ∷ (both (pos 0) (pos 1) ∷ (both (pos 1) (pos 1) ∷ [])) }) (1 ∷ (2 ∷ [])) ≡ 2
length-12 = refl
