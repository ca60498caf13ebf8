-- Lawful frames: A_1 over the field of two and A_2 over the field of three, with their laws, and what their names and relations compute.
use Rattle.std.proofs.Common.{◌≡◌, ℕ, false, T, List, [], ◌∷◌, map, Ok, refl, ap, lit<, arith}
use Rattle.std.specs.Prelude.{ℤ, pos, negsuc}
use Rattle.std.proofs.Common.{replicate}
use Rattle.lie_datum.specs.declared.root_pair.Root.{Root}
use Rattle.lie_datum.specs.Vectors.{Vector}
use Rattle.lie_datum.specs.RootList.{RootDatum, IsLoaded}
use Rattle.lie_const.specs.declared.term.Term.{Term}
use Rattle.lie_const.specs.ConstantTables.{ConstantTable, LoadsConstants}
use Rattle.lie_field.specs.Polynomials.{residues}
use Rattle.lie_field.specs.Quotient.{field_data, degree, order, leading, shift, element, mul, neg, power, of_int}
use Rattle.lie_field.specs.FiniteField.{FiniteField, is_field, is_ring_data, is_new}
use Rattle.lie_letters.specs.declared.letter.Letter.TheVariants.{X}
use Rattle.lie_field.specs.Elements.{one_elem, elem_neg, elem_mul, elem_int}
use Rattle.lie_letters.specs.Names.{opposite_name, reflect_name, is_negative_name, positive_names, signed_number, numbered_name}
use Rattle.lie_letters.specs.Frames.{FrameData, setting, IsLawfulFrame, terms_at, term_of}
use Rattle.lie_letters.specs.Letters.{X as RootLetter}
use Rattle.lie_letters.specs.Relations.{S2, term_letters}
use Rattle.lie_letters.specs.Laws.{Laws}
use Rattle.lie_letters.specs.RootSystems.{RootLaws, PositiveLaws, root_system}
use Rattle.lie_letters.specs.Collecting.{CollectLaws}
use Rattle.lie_letters.specs.Spelled.{JoinedSpelled}
use Rattle.lie_letters.proofs.ChainLemmas.{by_relation}
use Rattle.lie_letters.proofs.SettingLaws.{frame_laws}
use Rattle.lie_letters.proofs.RootSystemLemmas.{root_laws}
use Rattle.lie_letters.proofs.PositiveRootLemmas.{positive_laws}
use Rattle.lie_letters.proofs.CollectingLemmas.{collect_laws}
use Rattle.lie_letters.proofs.BridgeLemmas.{commutator_joined}
use Rattle.lie_datum.proofs.LoadedTest.{loaded_from}
use Rattle.lie_const.proofs.TableTest.{constants_test, constants_from}

-- x and y, and six zeros
abbrev pub pair : ℤ → ℤ → Vector
pair x y = x ∷ (y ∷ replicate 6 (pos 0))

abbrev root : Vector → Vector → Root
root c e = record { coeffs = c; co_coeffs = e }

-- the fields of two and of three
pub two_is_field : T (is_field (field_data 2 (1 ∷ []) 1))
unfolding is_field is_ring_data degree order is_new power mul element residues shift leading
two_is_field = tt

pub three_is_field : T (is_field (field_data 3 (0 ∷ []) 2))
unfolding is_field is_ring_data degree order is_new power mul element residues shift leading
three_is_field = tt

unfoldable pub two : FiniteField
two = record { given = field_data 2 (1 ∷ []) 1; lawful = two_is_field }

unfoldable pub three : FiniteField
three = record { given = field_data 3 (0 ∷ []) 2; lawful = three_is_field }

-- A_1, simply connected: a_1 = 2, with coroot 1
abbrev pub a1 : RootDatum
a1 = record {
  base = record { dim = 1; roots = pair (pos 2) (pos 0) ∷ []; coroots = pair (pos 1) (pos 0) ∷ [] };
  positive = root (pair (pos 1) (pos 0)) (pair (pos 1) (pos 0)) ∷ [];
}

pub a1_loaded : IsLoaded a1
a1_loaded = loaded_from a1 refl

-- no two roots have a root as their sum
abbrev pub a1_table : ConstantTable
a1_table = record { positive = 1; values = replicate 4 (pos 0); terms = replicate 4 [] }

pub a1_constants : LoadsConstants a1 (Ok a1_table)
a1_constants = constants_from a1 a1_table a1_loaded refl

abbrev pub a1_over_two : FrameData
a1_over_two = record { field = two; datum = a1; constants = a1_table }

pub a1_lawful : IsLawfulFrame a1_over_two
a1_lawful = record { loaded = a1_loaded; constants = a1_constants }

a1_laws : Laws (setting a1_over_two) × RootLaws (root_system a1) × PositiveLaws (root_system a1) (opposite_name a1) (is_negative_name a1) (positive_names a1) × CollectLaws (setting a1_over_two)
a1_laws = (frame_laws a1_over_two a1_lawful, root_laws a1 a1_loaded, positive_laws a1 a1_loaded, collect_laws a1_over_two a1_lawful)

-- A_2, simply connected: a_1 = (2, -1), a_2 = (-1, 2)
abbrev pub a2 : RootDatum
a2 = record {
  base = record { dim = 2; roots = pair (pos 2) (negsuc 0) ∷ (pair (negsuc 0) (pos 2) ∷ []); coroots = pair (pos 1) (pos 0) ∷ (pair (pos 0) (pos 1) ∷ []) };
  positive =
      root (pair (pos 1) (pos 0)) (pair (pos 1) (pos 0)) ∷ (root (pair (pos 0) (pos 1)) (pair (pos 0) (pos 1))
      ∷ (root (pair (pos 1) (pos 1)) (pair (pos 1) (pos 1)) ∷ []));
}

pub a2_loaded : IsLoaded a2
a2_loaded = loaded_from a2 refl

-- N_12 = 1, and its mixed values; rows and columns are r_1, r_2, r_3, r_(-1), r_(-2), r_(-3)
abbrev a2_values : List ℤ
a2_values =
    pos 0 ∷ pos 1 ∷ pos 0 ∷ pos 0 ∷ pos 0 ∷ negsuc 0
    ∷ negsuc 0 ∷ pos 0 ∷ pos 0 ∷ pos 0 ∷ pos 0 ∷ pos 1
    ∷ pos 0 ∷ pos 0 ∷ pos 0 ∷ negsuc 0 ∷ pos 1 ∷ pos 0
    ∷ pos 0 ∷ pos 0 ∷ pos 1 ∷ pos 0 ∷ negsuc 0 ∷ pos 0
    ∷ pos 0 ∷ pos 0 ∷ negsuc 0 ∷ pos 1 ∷ pos 0 ∷ pos 0
    ∷ pos 1 ∷ negsuc 0 ∷ pos 0 ∷ pos 0 ∷ pos 0 ∷ pos 0 ∷ []

-- one term at a root, with the constant as its value
abbrev one_term : ℤ → ℤ → List Term
one_term root value = record { i = 1; j = 1; root = root; value = value } ∷ []

abbrev a2_terms : List (List Term)
a2_terms =
    [] ∷ one_term (pos 3) (pos 1) ∷ [] ∷ [] ∷ [] ∷ one_term (negsuc 1) (negsuc 0)
    ∷ one_term (pos 3) (negsuc 0) ∷ [] ∷ [] ∷ [] ∷ [] ∷ one_term (negsuc 0) (pos 1)
    ∷ [] ∷ [] ∷ [] ∷ one_term (pos 2) (negsuc 0) ∷ one_term (pos 1) (pos 1) ∷ []
    ∷ [] ∷ [] ∷ one_term (pos 2) (pos 1) ∷ [] ∷ one_term (negsuc 2) (negsuc 0) ∷ []
    ∷ [] ∷ [] ∷ one_term (pos 1) (negsuc 0) ∷ one_term (negsuc 2) (pos 1) ∷ [] ∷ []
    ∷ one_term (negsuc 1) (pos 1) ∷ one_term (negsuc 0) (negsuc 0) ∷ [] ∷ [] ∷ [] ∷ [] ∷ []

abbrev pub a2_table : ConstantTable
a2_table = record { positive = 3; values = a2_values; terms = a2_terms }

pub a2_constants : LoadsConstants a2 (Ok a2_table)
a2_constants = constants_from a2 a2_table a2_loaded refl

-- a table with N_12 = -1 alone turned is refused
abbrev a2_wrong : ConstantTable
a2_wrong = record { positive = 3; values = pos 0 ∷ negsuc 0 ∷ a2_values; terms = a2_terms }

a2_wrong_refused : constants_test a2 a2_wrong ≡ false
a2_wrong_refused = refl

abbrev pub a2_over_three : FrameData
a2_over_three = record { field = three; datum = a2; constants = a2_table }

pub a2_lawful : IsLawfulFrame a2_over_three
a2_lawful = record { loaded = a2_loaded; constants = a2_constants }

a2_laws : Laws (setting a2_over_three) × RootLaws (root_system a2) × PositiveLaws (root_system a2) (opposite_name a2) (is_negative_name a2) (positive_names a2) × CollectLaws (setting a2_over_three)
a2_laws = (frame_laws a2_over_three a2_lawful, root_laws a2 a2_loaded, positive_laws a2 a2_loaded, collect_laws a2_over_three a2_lawful)

-- the reflection s_1 sends a_2 to a_1 + a_2, by places
a2_reflects : (reflect_name a2 (record { number = 0; lawful = tt }) (record { number = 1; below = tt })).number ≡ 2
unfolding reflect_name
a2_reflects = refl

-- the opposite of a_1 + a_2 is the last of the six
a2_opposite : (opposite_name a2 (record { number = 2; below = tt })).number ≡ 5
unfolding opposite_name
a2_opposite = refl

-- the positive roots are the first three places
a2_positives : map (λ r. r.number) (positive_names a2) ≡ 0 ∷ 1 ∷ 2 ∷ []
unfolding positive_names is_negative_name
a2_positives = refl

-- x_2(1) x_1(1) is joined to x_1(1) x_2(1) x_3(-1), and -1 is 2 in the field of three
a2_commutes : JoinedSpelled a2_over_three (X (pos 2) 1 ∷ X (pos 1) 1 ∷ []) (X (pos 1) 1 ∷ X (pos 2) 1 ∷ X (pos 3) 2 ∷ [])
unfolding three of_int neg mul element residues shift leading degree order
a2_commutes = commutator_joined a2_over_three a2_lawful 1 2 1 1 (omega arith) (omega arith) (omega arith) (lit< tt) (lit< tt)

-- at a negative root too: x_(-3)(1) x_1(1) is joined to x_1(1) x_(-3)(1) x_(-2)(1), since the constant is -1
a2_commutes_below : JoinedSpelled a2_over_three (X (negsuc 2) 1 ∷ X (pos 1) 1 ∷ []) (X (pos 1) 1 ∷ X (negsuc 2) 1 ∷ X (negsuc 1) 1 ∷ [])
unfolding three signed_number terms_at term_of numbered_name opposite_name one_elem elem_neg elem_mul elem_int of_int neg mul element residues shift leading degree order
a2_commutes_below =
    let S = setting a2_over_three in
    let r : S.Root = record { number = 0; below = tt } in
    let s : S.Root = record { number = 5; below = tt } in
    record {
      left = RootLetter s S.one ∷ (RootLetter r S.one ∷ []);
      right = RootLetter r S.one ∷ (RootLetter s S.one ∷ term_letters S (S.terms r s) S.one S.one);
      left_spelled = refl;
      right_spelled = refl;
      joined = by_relation _ _ (S2 r s S.one S.one (lit< tt) (λ e. (let n : ◌≡◌ {A = ℕ} 5 3 = ap (λ x. x.number) e in omega (arith, n))));
    }

-- B_2, simply connected, with c_12 = -2 and c_21 = -1: the second simple root is short
abbrev pub b2 : RootDatum
b2 = record {
  base = record { dim = 2; roots = pair (pos 2) (negsuc 1) ∷ (pair (negsuc 0) (pos 2) ∷ []); coroots = pair (pos 1) (pos 0) ∷ (pair (pos 0) (pos 1) ∷ []) };
  positive =
      root (pair (pos 1) (pos 0)) (pair (pos 1) (pos 0)) ∷ (root (pair (pos 0) (pos 1)) (pair (pos 0) (pos 1))
      ∷ (root (pair (pos 1) (pos 1)) (pair (pos 2) (pos 1)) ∷ (root (pair (pos 1) (pos 2)) (pair (pos 1) (pos 1)) ∷ [])));
}

pub b2_loaded : IsLoaded b2
b2_loaded = loaded_from b2 refl

abbrev b2_values : List ℤ
b2_values =
    pos 0 ∷ pos 1 ∷ pos 0 ∷ pos 0 ∷ pos 0 ∷ pos 0 ∷ negsuc 0 ∷ pos 0
    ∷ negsuc 0 ∷ pos 0 ∷ pos 2 ∷ pos 0 ∷ pos 0 ∷ pos 0 ∷ pos 2 ∷ negsuc 0
    ∷ pos 0 ∷ negsuc 1 ∷ pos 0 ∷ pos 0 ∷ negsuc 0 ∷ pos 2 ∷ pos 0 ∷ pos 1
    ∷ pos 0 ∷ pos 0 ∷ pos 0 ∷ pos 0 ∷ pos 0 ∷ negsuc 0 ∷ pos 1 ∷ pos 0
    ∷ pos 0 ∷ pos 0 ∷ pos 1 ∷ pos 0 ∷ pos 0 ∷ negsuc 0 ∷ pos 0 ∷ pos 0
    ∷ pos 0 ∷ pos 0 ∷ negsuc 1 ∷ pos 1 ∷ pos 1 ∷ pos 0 ∷ negsuc 1 ∷ pos 0
    ∷ pos 1 ∷ negsuc 1 ∷ pos 0 ∷ negsuc 0 ∷ pos 0 ∷ pos 2 ∷ pos 0 ∷ pos 0
    ∷ pos 0 ∷ pos 1 ∷ negsuc 0 ∷ pos 0 ∷ pos 0 ∷ pos 0 ∷ pos 0 ∷ pos 0 ∷ []

abbrev term : ℕ → ℕ → ℤ → ℤ → Term
term i j root value = record { i = i; j = j; root = root; value = value }

abbrev b2_terms : List (List Term)
b2_terms =
    [] ∷ (term 1 1 (pos 3) (pos 1) ∷ term 1 2 (pos 4) (negsuc 0) ∷ []) ∷ [] ∷ [] ∷ [] ∷ [] ∷ (term 1 1 (negsuc 1) (negsuc 0) ∷ term 1 2 (negsuc 3) (pos 1) ∷ []) ∷ []
    ∷ (term 1 1 (pos 3) (negsuc 0) ∷ term 2 1 (pos 4) (negsuc 0) ∷ []) ∷ [] ∷ (term 1 1 (pos 4) (pos 2) ∷ []) ∷ [] ∷ [] ∷ [] ∷ (term 1 1 (negsuc 0) (pos 2) ∷ []) ∷ (term 1 1 (negsuc 2) (negsuc 0) ∷ term 2 1 (negsuc 0) (negsuc 0) ∷ [])
    ∷ [] ∷ (term 1 1 (pos 4) (negsuc 1) ∷ []) ∷ [] ∷ [] ∷ (term 1 1 (pos 2) (negsuc 0) ∷ term 2 1 (pos 4) (pos 1) ∷ []) ∷ (term 1 1 (pos 1) (pos 2) ∷ []) ∷ [] ∷ (term 1 1 (negsuc 1) (pos 1) ∷ term 2 1 (pos 1) (pos 1) ∷ [])
    ∷ [] ∷ [] ∷ [] ∷ [] ∷ [] ∷ (term 1 1 (pos 3) (negsuc 0) ∷ term 1 2 (pos 1) (negsuc 0) ∷ []) ∷ (term 1 1 (pos 2) (pos 1) ∷ term 1 2 (negsuc 0) (pos 1) ∷ []) ∷ []
    ∷ [] ∷ [] ∷ (term 1 1 (pos 2) (pos 1) ∷ term 1 2 (pos 4) (pos 1) ∷ []) ∷ [] ∷ [] ∷ (term 1 1 (negsuc 2) (negsuc 0) ∷ term 1 2 (negsuc 3) (negsuc 0) ∷ []) ∷ [] ∷ []
    ∷ [] ∷ [] ∷ (term 1 1 (pos 1) (negsuc 1) ∷ []) ∷ (term 1 1 (pos 3) (pos 1) ∷ term 2 1 (pos 1) (negsuc 0) ∷ []) ∷ (term 1 1 (negsuc 2) (pos 1) ∷ term 2 1 (negsuc 3) (negsuc 0) ∷ []) ∷ [] ∷ (term 1 1 (negsuc 3) (negsuc 1) ∷ []) ∷ []
    ∷ (term 1 1 (negsuc 1) (pos 1) ∷ term 2 1 (negsuc 3) (pos 1) ∷ []) ∷ (term 1 1 (negsuc 0) (negsuc 1) ∷ []) ∷ [] ∷ (term 1 1 (pos 2) (negsuc 0) ∷ term 2 1 (negsuc 0) (pos 1) ∷ []) ∷ [] ∷ (term 1 1 (negsuc 3) (pos 2) ∷ []) ∷ [] ∷ []
    ∷ [] ∷ (term 1 1 (negsuc 2) (pos 1) ∷ term 1 2 (negsuc 0) (negsuc 0) ∷ []) ∷ (term 1 1 (negsuc 1) (negsuc 0) ∷ term 1 2 (pos 1) (pos 1) ∷ []) ∷ [] ∷ [] ∷ [] ∷ [] ∷ [] ∷ []

abbrev pub b2_table : ConstantTable
b2_table = record { positive = 4; values = b2_values; terms = b2_terms }

pub b2_constants : LoadsConstants b2 (Ok b2_table)
b2_constants = constants_from b2 b2_table b2_loaded refl

abbrev pub b2_over_three : FrameData
b2_over_three = record { field = three; datum = b2; constants = b2_table }

pub b2_lawful : IsLawfulFrame b2_over_three
b2_lawful = record { loaded = b2_loaded; constants = b2_constants }

b2_collects : CollectLaws (setting b2_over_three)
b2_collects = collect_laws b2_over_three b2_lawful
