-- A script as lines.
-- Own: an LF ends a line, and one CR before it is dropped.
--
--   a piece   the bytes up to an LF, or up to the end of the script
--   a line    a piece without one CR at its end
use Rattle.std.specs.Prelude.{◌≡◌, ◌⊎◌, ℕ, if◌then◌else◌, nat_eq, List, [], ◌∷◌, ◌++◌, map}
use Rattle.std.specs.List.{onto_first}
use Rattle.lie_script.specs.Lines.{HasNoLf}

-- the pieces of a script; a trailing LF starts no further piece
abbrev pub cut : List ℕ → List (List ℕ)
cut [] = []
cut (b ∷ bytes) = if nat_eq b 10 then [] ∷ cut bytes else onto_first b (cut bytes)

-- a piece without one CR at its end
abbrev pub without_cr : List ℕ → List ℕ
without_cr [] = []
without_cr (b ∷ []) = if nat_eq b 13 then [] else b ∷ []
without_cr (b ∷ c ∷ bytes) = b ∷ without_cr (c ∷ bytes)

-- the lines of a script, numbered from 1
abbrev pub lines_of : List ℕ → List (List ℕ)
lines_of input = map without_cr (cut input)

-- the bytes are of whole lines: an LF is the last of them, or there are none
abbrev pub IsOfWholeLines : List ℕ → Type 0
IsOfWholeLines bytes = (bytes ≡ []) ⊎ ((front : List ℕ) × (bytes ≡ front ++ 10 ∷ []))

-- whole are the bytes up to and with the last LF, and rest are those behind it
pub record IsCutAtLastLf (bytes whole rest : List ℕ) : Type 0 where
  pub parts : bytes ≡ whole ++ rest
  pub ended : IsOfWholeLines whole
  pub unended : HasNoLf rest
