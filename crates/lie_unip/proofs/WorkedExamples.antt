-- The definitions at work: A_1 over the field of two and A_2 over the field of three, whose terms come from their tables of constants.
use Rattle.std.proofs.Common.{◌≡◌, ℕ, true, false, List, [], ◌∷◌, refl}
use Rattle.std.specs.Prelude.{nat_lt}
use Rattle.lie_ring.specs.Rings.{RingOn}
use Rattle.lie_field.specs.Polynomials.{residues}
use Rattle.lie_field.specs.Quotient.{degree, order, leading, shift, element, add, mul, neg, of_int}
use Rattle.lie_field.specs.FieldRing.{field_ring, field_is_ring}
use Rattle.lie_letters.specs.RingLetters.{RingLetter, full_word, inverse_word, IsRingWord}
use Rattle.lie_letters.specs.RingRelations.{RingJoined}
use Rattle.lie_letters.specs.PositiveTerms.{positive_terms}
use Rattle.lie_letters.proofs.FrameExamples.{two, three, a1, a1_loaded, a1_table, a1_constants, a2, a2_loaded, a2_table, a2_constants}
use Rattle.lie_unip.specs.Collection.{AreCollectable, IsCollected, at_end, by_step}
use Rattle.lie_unip.specs.Splitting.{IsSplit, kept_at, kept_by}
use Rattle.lie_unip.proofs.DatumLemmas.{table_collectable}
use Rattle.lie_unip.proofs.JoinedLemmas.{collected_joined}

abbrev over_two : RingOn ℕ
over_two = field_ring two

abbrev over_three : RingOn ℕ
over_three = field_ring three

-- the terms of both can be collected
a1_collectable : AreCollectable 1 (positive_terms a1_table)
a1_collectable = table_collectable a1 a1_loaded a1_table a1_constants

a2_collectable : AreCollectable 3 (positive_terms a2_table)
a2_collectable = table_collectable a2 a2_loaded a2_table a2_constants

-- x_1(1) x_1(1) is collected to 0 in the field of two
a1_doubled : IsCollected over_two (positive_terms a1_table) nat_lt 1 ((1, 1) ∷ ((1, 1) ∷ [])) (0 ∷ [])
unfolding two add element residues shift leading degree
a1_doubled = record { last = (1, 0) ∷ []; ends = by_step refl (at_end refl); list = refl }

-- x_2(1) x_1(1) is collected to x_1(1) x_2(1) x_3(-1), and -1 is 2 in the field of three
abbrev swapped : List (RingLetter ℕ)
swapped = (2, 1) ∷ ((1, 1) ∷ [])

a2_swapped : IsCollected over_three (positive_terms a2_table) nat_lt 3 swapped (1 ∷ (1 ∷ (2 ∷ [])))
unfolding three of_int neg add mul element residues shift leading degree order
a2_swapped = record { last = (1, 1) ∷ ((2, 1) ∷ ((3, 2) ∷ [])); ends = by_step refl (at_end refl); list = refl }

-- so the two words are joined over the field of three
a2_joined : IsRingWord over_three 3 swapped → RingJoined over_three 3 (positive_terms a2_table) swapped (full_word (1 ∷ (1 ∷ (2 ∷ []))))
a2_joined word = collected_joined over_three (field_is_ring three) 3 (positive_terms a2_table) a2_collectable swapped (1 ∷ (1 ∷ (2 ∷ []))) word.0 word.1 a2_swapped

-- the inverse of x_1(1) x_2(1) is x_1(2) x_2(2) x_3(2)
a2_inverse : IsCollected over_three (positive_terms a2_table) nat_lt 3 (inverse_word over_three ((1, 1) ∷ ((2, 1) ∷ []))) (2 ∷ (2 ∷ (2 ∷ [])))
unfolding three of_int neg add mul element residues shift leading degree order
a2_inverse = record { last = (1, 2) ∷ ((2, 2) ∷ ((3, 2) ∷ [])); ends = by_step refl (at_end refl); list = refl }

-- s_1 keeps r_2 and r_3 positive
a2_kept : kept_by a2 (1 ∷ []) ≡ false ∷ (true ∷ (true ∷ []))
a2_kept = refl

-- x_1(1) x_2(1) is cut into x_2(1) x_3(1) and x_1(1)
a2_split : IsSplit over_three (positive_terms a2_table) 3 (kept_at (kept_by a2 (1 ∷ []))) (1 ∷ (1 ∷ (0 ∷ []))) (0 ∷ (1 ∷ (1 ∷ []))) (1 ∷ (0 ∷ (0 ∷ [])))
unfolding three of_int neg add mul element residues shift leading degree order
a2_split = record {
  whole = 1 ∷ (1 ∷ (1 ∷ []));
  collected = record { last = (2, 1) ∷ ((3, 1) ∷ ((1, 1) ∷ [])); ends = by_step refl (by_step refl (by_step refl (by_step refl (at_end refl)))); list = refl };
  first = refl;
  second = refl;
}
