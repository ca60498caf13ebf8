-- Lawful frames with signs: A_1 over the field of two, A_2 and B_2 over the field of three, with their adjoint modules.
use Rattle.std.proofs.Common.{◌≡◌, ℕ, false, List, [], ◌∷◌, ℤ, pos, negsuc, refl}
use Rattle.lie_ring.specs.Matrices.{Matrix}
use Rattle.lie_const.specs.ConstantTables.{value_of}
use Rattle.lie_const.specs.Modules.{Module, weyl_element, root_element}
use Rattle.lie_const.specs.Signs.{SignTable}
use Rattle.lie_letters.specs.SignedFrames.{AreFrameSigns, IsLawfulSigned}
use Rattle.lie_letters.proofs.AdjointTest.{sparse}
use Rattle.lie_letters.proofs.SignTest.{signs_test, signs_from}
use Rattle.lie_letters.proofs.FrameExamples.{pair, two, three, a1, a1_loaded, a1_table, a1_constants, a1_lawful, a2, a2_loaded, a2_table, a2_constants, a2_lawful, b2, b2_loaded, b2_table, b2_constants, b2_lawful}

-- ---- A_1
-- the adjoint module: E_r^(1) and E_r^(2) for each root, in the full order
abbrev a1_powers : List (List (Matrix ℤ))
a1_powers =
    (sparse 3 ((0, 1, negsuc 1) ∷ (1, 2, pos 1) ∷ [])
    ∷ sparse 3 ((0, 2, negsuc 0) ∷ []) ∷ [])
    ∷ (sparse 3 ((1, 0, negsuc 0) ∷ (2, 1, pos 2) ∷ [])
    ∷ sparse 3 ((2, 0, negsuc 0) ∷ []) ∷ []) ∷ []

abbrev a1_adjoint : Module
a1_adjoint = record { positive = 1; weights = pair (pos 2) (pos 0) ∷ pair (pos 0) (pos 0) ∷ pair (negsuc 1) (pos 0) ∷ []; powers = a1_powers }

-- eta_is for i rising, and s in the full order
abbrev a1_signs : SignTable
a1_signs = record { rank = 1; positive = 1; signs = negsuc 0 ∷ negsuc 0 ∷ [] }

a1_signed : AreFrameSigns a1 a1_signs
unfolding weyl_element root_element
a1_signed = signs_from a1 (value_of a1_table) a1_adjoint a1_signs refl a1_loaded a1_constants.1

a1_lawful_signed : IsLawfulSigned (record { field = two; datum = a1; constants = a1_table; signs = a1_signs })
a1_lawful_signed = record { lawful = a1_lawful; signs = a1_signed }

-- ---- A_2
-- the adjoint module: E_r^(1) and E_r^(2) for each root, in the full order
abbrev a2_powers : List (List (Matrix ℤ))
a2_powers =
    (sparse 8 ((0, 1, pos 1) ∷ (2, 3, negsuc 1) ∷ (2, 4, pos 1) ∷ (3, 5, pos 1) ∷ (6, 7, negsuc 0) ∷ [])
    ∷ sparse 8 ((2, 5, negsuc 0) ∷ []) ∷ [])
    ∷ (sparse 8 ((0, 2, negsuc 0) ∷ (1, 3, pos 1) ∷ (1, 4, negsuc 1) ∷ (4, 6, pos 1) ∷ (5, 7, pos 1) ∷ [])
    ∷ sparse 8 ((1, 6, negsuc 0) ∷ []) ∷ [])
    ∷ (sparse 8 ((0, 3, negsuc 0) ∷ (0, 4, negsuc 0) ∷ (1, 5, negsuc 0) ∷ (2, 6, pos 1) ∷ (3, 7, pos 1) ∷ (4, 7, pos 1) ∷ [])
    ∷ sparse 8 ((0, 7, negsuc 0) ∷ []) ∷ [])
    ∷ (sparse 8 ((1, 0, pos 1) ∷ (3, 2, negsuc 0) ∷ (5, 3, pos 2) ∷ (5, 4, negsuc 0) ∷ (7, 6, negsuc 0) ∷ [])
    ∷ sparse 8 ((5, 2, negsuc 0) ∷ []) ∷ [])
    ∷ (sparse 8 ((2, 0, negsuc 0) ∷ (4, 1, negsuc 0) ∷ (6, 3, negsuc 0) ∷ (6, 4, pos 2) ∷ (7, 5, pos 1) ∷ [])
    ∷ sparse 8 ((6, 1, negsuc 0) ∷ []) ∷ [])
    ∷ (sparse 8 ((3, 0, negsuc 0) ∷ (4, 0, negsuc 0) ∷ (5, 1, negsuc 0) ∷ (6, 2, pos 1) ∷ (7, 3, pos 1) ∷ (7, 4, pos 1) ∷ [])
    ∷ sparse 8 ((7, 0, negsuc 0) ∷ []) ∷ []) ∷ []

abbrev a2_adjoint : Module
a2_adjoint = record { positive = 3; weights = pair (pos 1) (pos 1) ∷ pair (negsuc 0) (pos 2) ∷ pair (pos 2) (negsuc 0) ∷ pair (pos 0) (pos 0) ∷ pair (pos 0) (pos 0) ∷ pair (negsuc 1) (pos 1) ∷ pair (pos 1) (negsuc 1) ∷ pair (negsuc 0) (negsuc 0) ∷ []; powers = a2_powers }

-- eta_is for i rising, and s in the full order
abbrev a2_signs : SignTable
a2_signs = record { rank = 2; positive = 3; signs = negsuc 0 ∷ pos 1 ∷ negsuc 0 ∷ negsuc 0 ∷ pos 1 ∷ negsuc 0 ∷ negsuc 0 ∷ negsuc 0 ∷ pos 1 ∷ negsuc 0 ∷ negsuc 0 ∷ pos 1 ∷ [] }

a2_signed : AreFrameSigns a2 a2_signs
unfolding weyl_element root_element
a2_signed = signs_from a2 (value_of a2_table) a2_adjoint a2_signs refl a2_loaded a2_constants.1

a2_lawful_signed : IsLawfulSigned (record { field = three; datum = a2; constants = a2_table; signs = a2_signs })
a2_lawful_signed = record { lawful = a2_lawful; signs = a2_signed }

-- a table with eta_12 = -1 alone turned is refused
a2_wrong_sign : signs_test a2 (value_of a2_table) a2_adjoint (record { rank = 2; positive = 3; signs = negsuc 0 ∷ negsuc 0 ∷ a2_signs.signs }) ≡ false
unfolding weyl_element root_element
a2_wrong_sign = refl

-- ---- B_2
-- the adjoint module: E_r^(1) and E_r^(2) for each root, in the full order
abbrev b2_powers : List (List (Matrix ℤ))
b2_powers =
    (sparse 10 ((1, 2, pos 1) ∷ (3, 4, negsuc 1) ∷ (3, 5, pos 2) ∷ (4, 6, pos 1) ∷ (7, 8, negsuc 0) ∷ [])
    ∷ sparse 10 ((3, 6, negsuc 0) ∷ []) ∷ [])
    ∷ (sparse 10 ((0, 1, pos 2) ∷ (1, 3, negsuc 0) ∷ (2, 4, pos 1) ∷ (2, 5, negsuc 1) ∷ (5, 7, pos 1) ∷ (6, 8, pos 2) ∷ (8, 9, negsuc 0) ∷ [])
    ∷ sparse 10 ((0, 3, negsuc 0) ∷ (2, 7, negsuc 0) ∷ (6, 9, negsuc 0) ∷ []) ∷ [])
    ∷ (sparse 10 ((0, 2, negsuc 1) ∷ (1, 4, negsuc 0) ∷ (2, 6, negsuc 0) ∷ (3, 7, pos 2) ∷ (4, 8, pos 2) ∷ (5, 8, pos 1) ∷ (7, 9, pos 1) ∷ [])
    ∷ sparse 10 ((0, 6, pos 1) ∷ (1, 8, negsuc 0) ∷ (3, 9, pos 1) ∷ []) ∷ [])
    ∷ (sparse 10 ((0, 5, negsuc 1) ∷ (1, 7, negsuc 0) ∷ (2, 8, pos 1) ∷ (4, 9, pos 1) ∷ (5, 9, pos 1) ∷ [])
    ∷ sparse 10 ((0, 9, negsuc 0) ∷ []) ∷ [])
    ∷ (sparse 10 ((2, 1, pos 1) ∷ (4, 3, negsuc 0) ∷ (6, 4, pos 2) ∷ (6, 5, negsuc 1) ∷ (8, 7, negsuc 0) ∷ [])
    ∷ sparse 10 ((6, 3, negsuc 0) ∷ []) ∷ [])
    ∷ (sparse 10 ((1, 0, pos 1) ∷ (3, 1, negsuc 1) ∷ (5, 2, negsuc 0) ∷ (7, 4, negsuc 0) ∷ (7, 5, pos 2) ∷ (8, 6, pos 1) ∷ (9, 8, negsuc 1) ∷ [])
    ∷ sparse 10 ((3, 0, negsuc 0) ∷ (7, 2, negsuc 0) ∷ (9, 6, negsuc 0) ∷ []) ∷ [])
    ∷ (sparse 10 ((2, 0, negsuc 0) ∷ (4, 1, negsuc 1) ∷ (5, 1, negsuc 0) ∷ (6, 2, negsuc 1) ∷ (7, 3, pos 1) ∷ (8, 4, pos 1) ∷ (9, 7, pos 2) ∷ [])
    ∷ sparse 10 ((6, 0, pos 1) ∷ (8, 1, negsuc 0) ∷ (9, 3, pos 1) ∷ []) ∷ [])
    ∷ (sparse 10 ((4, 0, negsuc 0) ∷ (5, 0, negsuc 0) ∷ (7, 1, negsuc 0) ∷ (8, 2, pos 1) ∷ (9, 5, pos 2) ∷ [])
    ∷ sparse 10 ((9, 0, negsuc 0) ∷ []) ∷ []) ∷ []

abbrev b2_adjoint : Module
b2_adjoint = record { positive = 4; weights = pair (pos 0) (pos 2) ∷ pair (pos 1) (pos 0) ∷ pair (negsuc 0) (pos 2) ∷ pair (pos 2) (negsuc 1) ∷ pair (pos 0) (pos 0) ∷ pair (pos 0) (pos 0) ∷ pair (negsuc 1) (pos 2) ∷ pair (pos 1) (negsuc 1) ∷ pair (negsuc 0) (pos 0) ∷ pair (pos 0) (negsuc 1) ∷ []; powers = b2_powers }

-- eta_is for i rising, and s in the full order
abbrev b2_signs : SignTable
b2_signs = record { rank = 2; positive = 4; signs = negsuc 0 ∷ pos 1 ∷ negsuc 0 ∷ pos 1 ∷ negsuc 0 ∷ pos 1 ∷ negsuc 0 ∷ pos 1 ∷ negsuc 0 ∷ negsuc 0 ∷ negsuc 0 ∷ negsuc 0 ∷ negsuc 0 ∷ negsuc 0 ∷ negsuc 0 ∷ negsuc 0 ∷ [] }

b2_signed : AreFrameSigns b2 b2_signs
unfolding weyl_element root_element
b2_signed = signs_from b2 (value_of b2_table) b2_adjoint b2_signs refl b2_loaded b2_constants.1

b2_lawful_signed : IsLawfulSigned (record { field = three; datum = b2; constants = b2_table; signs = b2_signs })
b2_lawful_signed = record { lawful = b2_lawful; signs = b2_signed }
