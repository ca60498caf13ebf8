-- A_1 over the field of two: its frame by computation, and that no other answer than the frame comes.
use Rattle.std.proofs.Common.{◌≡◌, ◌≢◌, List, [], ◌∷◌, Ok, Err, ℤ, pos, negsuc, refl, ap}
use Rattle.std.specs.Prelude.{slice_index_or}
use Rattle.lie_ring.specs.Matrices.{Matrix}
use Rattle.lie_const.specs.ConstantTables.{value_of}
use Rattle.lie_const.specs.Modules.{Module, weyl_element, root_element}
use Rattle.lie_const.specs.Signs.{SignTable}
use Rattle.lie_letters.specs.SignedFrames.{SignedFrame}
use Rattle.lie_letters.proofs.AdjointTest.{sparse}
use Rattle.lie_letters.proofs.SignTest.{signs_from}
use Rattle.lie_letters.proofs.FrameExamples.{pair, two, a1, a1_loaded, a1_table, a1_constants, a1_lawful}
use Rattle.lie_group.specs.declared.faults.LoadFault.{LoadFault}
use Rattle.lie_group.specs.declared.faults.LoadFault.TheVariants.{NoMemory}
use Rattle.lie_group.specs.Loading.{MakesFrame}
use Rattle.lie_group.proofs.OneFrame.{one_frame}

-- the adjoint module: E_r^(1) and E_r^(2) for each root, in the full order
abbrev a1_powers : List (List (Matrix ℤ))
a1_powers =
    (sparse 3 ((0, 1, negsuc 1) ∷ (1, 2, pos 1) ∷ [])
    ∷ sparse 3 ((0, 2, negsuc 0) ∷ []) ∷ [])
    ∷ (sparse 3 ((1, 0, negsuc 0) ∷ (2, 1, pos 2) ∷ [])
    ∷ sparse 3 ((2, 0, negsuc 0) ∷ []) ∷ []) ∷ []

abbrev pub a1_adjoint : Module
a1_adjoint = record { positive = 1; weights = pair (pos 2) (pos 0) ∷ pair (pos 0) (pos 0) ∷ pair (negsuc 1) (pos 0) ∷ []; powers = a1_powers }

-- the frame with a sign at a_1 and one at its opposite
abbrev pub a1_frame : ℤ → ℤ → SignedFrame
a1_frame c e = record { field = two; datum = a1; constants = a1_table; signs = record { rank = 1; positive = 1; signs = c ∷ e ∷ [] } }

-- both signs are -1
pub a1_made : MakesFrame two a1 (Ok (a1_frame (negsuc 0) (negsuc 0)))
unfolding weyl_element root_element
a1_made = record {
  field = refl;
  datum = refl;
  lawful = record { lawful = a1_lawful; signs = signs_from a1 (value_of a1_table) a1_adjoint (record { rank = 1; positive = 1; signs = negsuc 0 ∷ negsuc 0 ∷ [] }) refl a1_loaded a1_constants.1 };
  count = refl;
}

-- no frame has other signs
a1_signs : (c e : ℤ) → MakesFrame two a1 (Ok (a1_frame c e)) → (c ≡ negsuc 0) × (e ≡ negsuc 0)
a1_signs c e h =
    let same = (one_frame two a1 (Ok (a1_frame c e)) (Ok (a1_frame (negsuc 0) (negsuc 0))) a1_loaded h a1_made (λ e. absurd cc) (λ e. absurd cc)).signs in
    (ap (λ (t : SignTable). slice_index_or t.signs 0 (pos 0)) same, ap (λ (t : SignTable). slice_index_or t.signs 1 (pos 0)) same)

-- and no fault comes
a1_not_refused : (why : LoadFault) → why ≢ NoMemory → ¬ MakesFrame two a1 (Err why)
a1_not_refused why named h = one_frame two a1 (Ok (a1_frame (negsuc 0) (negsuc 0))) (Err why) a1_loaded a1_made h (λ e. absurd cc) (λ e. (let is : why ≡ NoMemory = cc in named is))
