-- The definitions at work: torus vectors over the fields of five and of three, and the letters of a braid.
use Rattle.std.proofs.Common.{◌≡◌, ℕ, ◌<◌, T, List, [], ◌∷◌, refl, ap, subst, get_or, lit<, arith}
use Rattle.lie_field.specs.FiniteField.{FiniteField, is_field, is_ring_data, is_new}
use Rattle.lie_field.specs.Quotient.{field_data, degree, order, leading, shift, element, mul, inv, power}
use Rattle.lie_field.specs.Polynomials.{residues}
use Rattle.lie_letters.specs.Braids.{alternating}
use Rattle.lie_letters.specs.declared.letter.Letter.{Letter}
use Rattle.lie_letters.specs.declared.letter.Letter.TheVariants.{H}
use Rattle.lie_letters.specs.Entries.{AreUnits, times_each, inverses}
use Rattle.lie_letters.specs.Frames.{FrameData}
use Rattle.lie_letters.specs.Spelled.{JoinedSpelled, reversed}
use Rattle.lie_letters.proofs.CallerLemmas.{JoinedSpelled-refl, JoinedSpelled-trans, JoinedSpelled-over, torus_letters_decide, ones_joined, product_joined}

five_is_field : T (is_field (field_data 5 (0 ∷ []) 2))
unfolding is_field is_ring_data degree order is_new power mul element residues shift leading
five_is_field = tt

three_is_field : T (is_field (field_data 3 (0 ∷ []) 2))
unfolding is_field is_ring_data degree order is_new power mul element residues shift leading
three_is_field = tt

five : FiniteField
five = record { given = field_data 5 (0 ∷ []) 2; lawful = five_is_field }

three : FiniteField
three = record { given = field_data 3 (0 ∷ []) 2; lawful = three_is_field }

-- 2 times 3 is 1 in the field of five
two_times_three : times_each five (2 ∷ []) (3 ∷ []) ≡ 1 ∷ []
unfolding five mul element residues shift leading degree
two_times_three = refl

-- over the field of three, (2, 1) times (2, 2) is (1, 2)
pairs_multiply : times_each three (2 ∷ 1 ∷ []) (2 ∷ 2 ∷ []) ≡ 1 ∷ 2 ∷ []
unfolding three mul element residues shift leading degree
pairs_multiply = refl

-- in the field of five 2 and 3 are inverse, and 4 is its own inverse
inverses_over_five : inverses five (2 ∷ 3 ∷ 4 ∷ []) ≡ 3 ∷ 2 ∷ 4 ∷ []
unfolding five inv power order mul element residues shift leading degree
inverses_over_five = refl

-- the reversed word of h(2) h(4) is h(4) h(3)
a_reversed_word : reversed five (H (2 ∷ []) ∷ H (4 ∷ []) ∷ []) ≡ H (4 ∷ []) ∷ H (3 ∷ []) ∷ []
unfolding five inv power order mul element residues shift leading degree
a_reversed_word = refl

-- the torus of one coordinate over the field of five
line : FrameData
line = record {
  field = five;
  datum = record { base = record { dim = 1; roots = []; coroots = [] }; positive = [] };
  constants = record { positive = 0; values = []; terms = [] };
}

units : (a : ℕ) → 0 < a → a < 5 → AreUnits five (a ∷ [])
unfolding five order degree
units a positive below = ((positive, below), tt)

-- h(2) h(3) is joined to the empty word
two_three_cancels : JoinedSpelled line (H (2 ∷ []) ∷ H (3 ∷ []) ∷ []) []
unfolding line
two_three_cancels =
    JoinedSpelled-trans line (H (2 ∷ []) ∷ H (3 ∷ []) ∷ []) (H (1 ∷ []) ∷ []) []
    (subst (λ t. JoinedSpelled line (H (2 ∷ []) ∷ H (3 ∷ []) ∷ []) (H t ∷ [])) two_times_three
    (product_joined line (2 ∷ []) (3 ∷ []) (units 2 (lit< tt) (lit< tt)) (units 3 (lit< tt) (lit< tt)) refl refl))
    (ones_joined line)

-- h(2) and h(3) are not joined
two_and_three_apart : JoinedSpelled line (H (2 ∷ []) ∷ []) (H (3 ∷ []) ∷ []) → ⊥
unfolding line
two_and_three_apart d =
    let one_letter = λ (a : ℕ) (p : 0 < a) (b : a < 5). JoinedSpelled-refl line (H (a ∷ []) ∷ []) ((refl, units a p b), tt) in
    let same : ◌≡◌ {A = List ℕ} (2 ∷ []) (3 ∷ []) =
    (torus_letters_decide line (H (2 ∷ []) ∷ []) (H (3 ∷ []) ∷ []) (2 ∷ []) (3 ∷ []) (one_letter 2 (lit< tt) (lit< tt)) (one_letter 3 (lit< tt) (lit< tt))).1 d in
    let numbers : ◌≡◌ {A = ℕ} 2 3 = ap (λ t. get_or t 0 0) same in
    omega (arith, numbers)

-- h(0) is no letter, so it is joined to nothing
no_letter : (v : List Letter) → JoinedSpelled line (H (0 ∷ []) ∷ []) v → ⊥
no_letter v d = let unit = (JoinedSpelled-over line (H (0 ∷ []) ∷ []) v d).0.1.0.0 in omega (arith, unit)

-- s_2 s_1 s_2, the letters of a braid of order three
three_letters : alternating 2 1 3 ≡ 2 ∷ (1 ∷ (2 ∷ []))
three_letters = refl
