-- How lists of terms are laid out: one after another, with the places where each begins.
-- For proofs: no public clause cites it.
use Rattle.std.specs.Prelude.{◌≡◌, ℕ, ◌-◌, ◌≤◌, List, [], ◌∷◌, length, take, drop}
use Rattle.lie_const.specs.declared.term.Term.{Term}

-- the parts of a list that begin at these places, each but the last
abbrev pub parts : List Term → List ℕ → List (List Term)
parts ts [] = []
parts ts (a ∷ []) = []
parts ts (a ∷ b ∷ starts) = take (b - a) (drop a ts) ∷ parts ts (b ∷ starts)

-- the places do not fall, and the last is n
abbrev pub IsLadder : ℕ → List ℕ → Type 0
IsLadder n [] = ⊥
IsLadder n (a ∷ []) = a ≡ n
IsLadder n (a ∷ b ∷ starts) = (a ≤ b) × IsLadder n (b ∷ starts)

-- the places where the parts begin, with the end of the list behind them
abbrev pub IsLayout : List Term → List ℕ → Type 0
IsLayout ts starts = IsLadder (length ts) starts
