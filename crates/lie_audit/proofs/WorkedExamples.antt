-- The laws on audited modules at work: on the natural module of SL_2 over the field of two elements.
use Rattle.std.proofs.Common.{◌≡◌, ◌≢◌, ℕ, pos, negsuc, List, [], ◌∷◌, refl, ap, lit<, arith}
use Rattle.std.proofs.lemmas.List.Elements.{All-from_recursion}
use Rattle.std.proofs.lemmas.Int.{ints}
use Rattle.lie_ring.specs.Matrices.{entry}
use Rattle.lie_field.specs.Polynomials.{residues}
use Rattle.lie_field.specs.Quotient.{degree, order, leading, shift, element, add, mul, neg, of_int}
use Rattle.lie_orbit.specs.Orbits.{reflected_weight}
use Rattle.lie_const.specs.ConstantTables.{value_of}
use Rattle.lie_const.specs.Modules.{Module, root_element, weyl_element}
use Rattle.lie_const.specs.Signs.{Signs, SignTable, eta_of}
use Rattle.lie_letters.specs.declared.letter.Letter.{Letter as CodeLetter}
use Rattle.lie_letters.specs.declared.letter.Letter.TheVariants.{X}
use Rattle.lie_letters.specs.SignedFrames.{SignedFrame, AreFrameSigns, IsLawfulSigned}
use Rattle.lie_letters.specs.GroupSpelled.{JoinedInGroup}
use Rattle.lie_letters.proofs.AdjointTest.{sparse}
use Rattle.lie_letters.proofs.SignTest.{signs_from}
use Rattle.lie_letters.proofs.FrameExamples.{pair, two, a1, a1_loaded, a1_table, a1_constants, a1_lawful}
use Rattle.lie_identities.specs.declared.relations.Rel.TheVariants.{S1, S6, S7}
use Rattle.lie_identities.specs.AuditRelations.{relations}
use Rattle.lie_identities.specs.Audit.{IsIdentity, IsMet, MeetsIdentities}
use Rattle.lie_audit.specs.WordMatrix.{word_matrix}
use Rattle.lie_audit.specs.WeylWeights.{SameWeight}
use Rattle.lie_audit.proofs.AuditTest.{graded_from, met_from}
use Rattle.lie_audit.proofs.EqualMatricesLemmas.{equal_matrices}
use Rattle.lie_audit.proofs.WeylWeightsLemmas.{weyl_moves_weights}

-- ---- the frame: A_1 over two elements, with its signs
-- the adjoint module: E_r^(1) and E_r^(2) for each root, in the full order
abbrev adjoint : Module
adjoint = record {
  positive = 1;
  weights = pair (pos 2) (pos 0) ∷ (pair (pos 0) (pos 0) ∷ (pair (negsuc 1) (pos 0) ∷ []));
  powers =
      (sparse 3 ((0, 1, negsuc 1) ∷ ((1, 2, pos 1) ∷ [])) ∷ (sparse 3 ((0, 2, negsuc 0) ∷ []) ∷ []))
      ∷ ((sparse 3 ((1, 0, negsuc 0) ∷ ((2, 1, pos 2) ∷ [])) ∷ (sparse 3 ((2, 0, negsuc 0) ∷ []) ∷ [])) ∷ []);
}

-- eta_1s is -1 at both roots
abbrev signs : SignTable
signs = record { rank = 1; positive = 1; signs = negsuc 0 ∷ (negsuc 0 ∷ []) }

-- they are those of the adjoint module
signs_are : AreFrameSigns a1 signs
unfolding weyl_element root_element
signs_are = signs_from a1 (value_of a1_table) adjoint signs refl a1_loaded a1_constants.1

-- the frame is lawful
abbrev frame : SignedFrame
frame = record { field = two; datum = a1; constants = a1_table; signs = signs }

lawful : IsLawfulSigned frame
lawful = record { lawful = a1_lawful; signs = signs_are }

-- ---- the natural module, with the weights 1 and -1
abbrev natural : Module
natural = record {
  positive = 1;
  weights = pair (pos 1) (pos 0) ∷ (pair (negsuc 0) (pos 0) ∷ []);
  powers = (sparse 2 ((0, 1, pos 1) ∷ []) ∷ []) ∷ ((sparse 2 ((1, 0, pos 1) ∷ []) ∷ []) ∷ []);
}

-- its five relations are identities
abbrev eta : Signs
eta = eta_of signs

natural_S1 : IsIdentity a1 a1_table eta natural (S1 (pos 1))
unfolding root_element
natural_S1 = refl

natural_opposite_S1 : IsIdentity a1 a1_table eta natural (S1 (negsuc 0))
unfolding root_element
natural_opposite_S1 = refl

natural_S6 : IsIdentity a1 a1_table eta natural (S6 1)
unfolding root_element
natural_S6 = refl

natural_S7 : IsIdentity a1 a1_table eta natural (S7 1 (pos 1))
unfolding root_element
natural_S7 = refl

natural_opposite_S7 : IsIdentity a1 a1_table eta natural (S7 1 (negsuc 0))
unfolding root_element
natural_opposite_S7 = refl

-- it is audited
natural_meets : MeetsIdentities a1 a1_table eta natural
unfolding relations
natural_meets = record {
  graded = graded_from a1 natural refl;
  relations = All-from_recursion (IsMet a1 a1_table eta natural) (relations a1) (
    met_from a1 a1_table eta natural (S1 (pos 1)) refl refl natural_S1,
    (
      met_from a1 a1_table eta natural (S1 (negsuc 0)) refl refl natural_opposite_S1,
      (
        met_from a1 a1_table eta natural (S6 1) refl refl natural_S6,
        (
          met_from a1 a1_table eta natural (S7 1 (pos 1)) refl refl natural_S7,
          (met_from a1 a1_table eta natural (S7 1 (negsuc 0)) refl refl natural_opposite_S7, tt),
        ),
      ),
    ),
  );
}

-- ---- joined words have equal matrices on it
natural_words : (w u : List CodeLetter) → JoinedInGroup frame w u → word_matrix two natural w ≡ word_matrix two natural u
natural_words = equal_matrices frame natural lawful natural_meets

-- so x_1(1) is not joined to the empty word: the entries in the first row and second column are 1 and 0
apart : word_matrix two natural (X (pos 1) 1 ∷ []) ≢ word_matrix two natural []
unfolding two root_element of_int neg mul add element residues shift leading degree order
apart e = absurd (let h : ◌≡◌ {A = ℕ} 1 0 = ap (λ M. entry 0 M 0 1) e in omega (arith, h))

-- words whose matrices differ are not joined
not_joined : ¬ JoinedInGroup frame (X (pos 1) 1 ∷ []) []
not_joined j = apart (natural_words (X (pos 1) 1 ∷ []) [] j)

-- ---- N_1 has its entries between the weights 1 and -1, here those in the first row and second column
natural_moves : SameWeight (pair (pos 1) (pos 0)) (reflected_weight a1 1 (pair (negsuc 0) (pos 0)))
unfolding weyl_element root_element
natural_moves = weyl_moves_weights.integers a1 a1_table eta natural a1_loaded natural_meets 1 (omega arith, omega arith) 0 1 (lit< tt) (lit< tt) (λ e. absurd (let h : pos 1 ≡ pos 0 = e in omega (arith, ints, h)))
