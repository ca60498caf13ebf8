-- The script of the demonstration: the field of four elements, one of three data, and 1,200 commands on words that are drawn.
-- Own: which data, how many words, and how they are drawn.
--
--   a datum          Sample          its lines, the number of its simple roots and coordinates, and that of its positive roots
--   a word           word s          40 letters, with one space between
--   the commands     commands s      `form w`, `inv w` and `same w n1 n1 ; w`, for 400 words; in characteristic 2 `n1 n1` is joined to the empty word
use Rattle.std.specs.Prelude.{ℕ, zero, suc, ◌-◌, ◌%◌, ◌≤◌, List, ◌++◌, if◌then◌else◌, nat_eq, codes}
use Rattle.lie_gen.specs.Draws.{drawn, next, Drawing, fixed, ◌>>◌, number, chosen, times}

-- a datum: its lines, the number of simple roots, which is that of coordinates, and the number of positive roots
pub record Sample : Type 0 where
  pub lines : List ℕ
  pub rank : ℕ
  pub positive : ℕ

-- the numbers have one digit, and are not 0
pub record IsSample (s : Sample) : Type 0 where
  pub rank : (1 ≤ s.rank) × (s.rank ≤ 9)
  pub positive : (1 ≤ s.positive) × (s.positive ≤ 9)

-- simply connected, of type A_3
abbrev pub type_a3 : Sample
type_a3 = record {
  lines = codes "datum 3 3\nroot 2 -1 0\nroot -1 2 -1\nroot 0 -1 2\ncoroot 1 0 0\ncoroot 0 1 0\ncoroot 0 0 1\n";
  rank = 3;
  positive = 6;
}

-- simply connected, of type C_3
abbrev pub type_c3 : Sample
type_c3 = record {
  lines = codes "datum 3 3\nroot 2 -1 0\nroot -1 2 -1\nroot 0 -2 2\ncoroot 1 0 0\ncoroot 0 1 0\ncoroot 0 0 1\n";
  rank = 3;
  positive = 9;
}

-- of type G_2
abbrev pub type_g2 : Sample
type_g2 = record {
  lines = codes "datum 2 2\nroot 2 -1\nroot -3 2\ncoroot 1 0\ncoroot 0 1\n";
  rank = 2;
  positive = 6;
}

-- the datum for a number
abbrev pub sample : ℕ → Sample
sample n = if nat_eq (n % 3) 0 then type_a3 else (if nat_eq (n % 3) 1 then type_c3 else type_g2)

-- ---- letters
-- a root element: of a positive or a negative root, at an element that is not 0
abbrev pub root_letter : ℕ → Drawing
root_letter m = fixed (codes "x") >> chosen (codes "-") >> number m >> fixed (codes "(") >> number 3 >> fixed (codes ")")

-- a Weyl representative, or its inverse
abbrev pub weyl_letter : ℕ → Drawing
weyl_letter l = fixed (codes "n") >> number l >> chosen (codes "'")

-- a comma, and an element that is not 0
abbrev pub next_element : Drawing
next_element = fixed (codes ",") >> number 3

-- a torus element: an entry for each of d coordinates
abbrev pub torus_letter : ℕ → Drawing
torus_letter d = fixed (codes "h(") >> number 3 >> times (d - 1) next_element >> fixed (codes ")")

-- the letter of a kind: 0, 1 or 2
abbrev pub letter_of : Sample → ℕ → Drawing
letter_of s zero = root_letter s.positive
letter_of s (suc zero) = weyl_letter s.rank
letter_of s (suc (suc k)) = torus_letter s.rank

-- a letter, of a kind that is drawn
unfoldable pub letter : Sample → Drawing
letter s z = letter_of s (drawn 3 z) (next z)

-- ---- the script
-- a space, and a letter
abbrev pub next_letter : Sample → Drawing
next_letter s = fixed (codes " ") >> letter s

-- 40 letters, with one space between
abbrev pub word : Sample → Drawing
word s = letter s >> times 39 (next_letter s)

-- the three commands on a word
abbrev pub commands_on : List ℕ → List ℕ
commands_on w = codes "form " ++ w ++ codes "\ninv " ++ w ++ codes "\nsame " ++ w ++ codes " n1 n1 ; " ++ w ++ codes "\n"

-- the commands on a word that is drawn
abbrev pub commands : Sample → Drawing
commands s z = (commands_on (word s z).0, (word s z).1)

-- the script of a number
abbrev pub demonstration : ℕ → List ℕ
demonstration n = codes "field 2 2 1 1 2\n" ++ (sample n).lines ++ codes "load\n" ++ (times 400 (commands (sample n)) n).0
