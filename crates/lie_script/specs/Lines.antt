-- Cutting a script into lines, one piece of its bytes after another.
-- Own: an LF ends a line. Of a line that isn't whole yet, so many bytes are kept that a line with more is too long, with a CR at its end or without.
use Rattle.std.specs.Prelude.{◌≡◌, ◌≢◌, ℕ, ◌+◌, List, ◌∷◌, ◌++◌, length, take}
use Rattle.std.specs.List.{AllByRecursion}
use Rattle.lie_script.specs.declared.lines.Fed.{Fed}
use Rattle.lie_script.specs.declared.lines.Fed.TheVariants.{Line, Part}

-- the most bytes of a line that are kept
abbrev pub kept_limit : ℕ
kept_limit = 65538

-- no byte is an LF
abbrev pub HasNoLf : List ℕ → Type 0
HasNoLf bytes = AllByRecursion (λ b. b ≢ 10) bytes

-- What is taken of a piece, by the answer: where its n-th byte is its first LF, the bytes before it; where it has none, all of it.
abbrev pub Takes : List ℕ → Fed → List ℕ → Type 0
Takes piece (Line n) taken = (rest : List ℕ) × (piece ≡ taken ++ 10 ∷ rest) × HasNoLf taken × (n ≡ length taken + 1)
Takes piece Part taken = (piece ≡ taken) × HasNoLf taken

-- a line that waits with its front kept is fed a piece: the bytes taken stand behind the front
abbrev pub IsFed : List ℕ → List ℕ → Fed → List ℕ → Type 0
IsFed front piece answer next = (taken : List ℕ) × Takes piece answer taken × (next ≡ take kept_limit (front ++ taken))
