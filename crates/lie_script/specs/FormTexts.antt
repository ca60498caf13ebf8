-- The text of a Bruhat form u h n_w v.
-- Own.
--
--   x_r(a), r the k-th positive root    `x<k>(<a>)`
--   a list of root letters              letters_text w      its letters with one space between, or `-`
--   a word of simple indices            indices_text p      its indices with one space between, or `-`
--   a form                              form_text x p       `<first list> | <entries of the torus vector> | <p> | <second list>`, along a word p of its
--                                                           Weyl element; letters that are 0 are left out
use Rattle.std.specs.Prelude.{ℕ, List, [], ◌∷◌, ◌++◌, Bool, if◌then◌else◌, map, codes, decimal}
use Rattle.std.specs.List.{join_with_byte}
use Rattle.lie_letters.specs.RingLetters.{RingLetter}
use Rattle.lie_unip.specs.Forms.{FormData, nonzero_letters}

-- the text of a root letter
abbrev pub root_letter_text : RingLetter ℕ → List ℕ
root_letter_text x = codes "x" ++ decimal x.0 ++ codes "(" ++ decimal x.1 ++ codes ")"

-- texts with one space between, or `-` where there is none
abbrev pub listed : List (List ℕ) → List ℕ
listed [] = codes "-"
listed (text ∷ texts) = join_with_byte 32 (text ∷ texts)

-- the text of root letters
abbrev pub letters_text : List (RingLetter ℕ) → List ℕ
letters_text w = listed (map root_letter_text w)

-- the text of simple indices
abbrev pub indices_text : List ℕ → List ℕ
indices_text p = listed (map decimal p)

-- the entries of a torus vector with one space between
abbrev pub entries_text : List ℕ → List ℕ
entries_text t = join_with_byte 32 (map decimal t)

-- the text of a form along a word of its Weyl element
abbrev pub form_text : FormData → List ℕ → List ℕ
form_text x p =
    letters_text (nonzero_letters x.first) ++ codes " | " ++ entries_text x.torus ++ codes " | " ++ indices_text p
    ++ codes " | " ++ letters_text (nonzero_letters x.second)

-- a text behind a space, unless it is the first
abbrev pub behind : Bool → List ℕ → List ℕ
behind first text = if first then text else 32 ∷ text
