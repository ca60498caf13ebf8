-- Words over any letters, exchanges by relations between words, and chains of exchanges.
-- Source: Own, as rewriting of words in a presented group is usually written.
--
--   one exchange    StepBy R u v      u and v differ by the two sides of a relation inside
--   joined          JoinedBy R u v    an exchange after another leads from u to v
--   a chain         IsChain R u between v    the same, with the list of the words between
use Rattle.std.specs.Prelude.{◌≡◌, List, [], ◌∷◌, ◌++◌}

-- one side of a relation put for the other inside a word
pub data StepBy {A : Type 0} (R : List A → List A → Type 0) : List A → List A → Type 0 where
  forward : {l r : List A} (before after : List A) → R l r → StepBy R (before ++ (l ++ after)) (before ++ (r ++ after))
  backward : {l r : List A} (before after : List A) → R l r → StepBy R (before ++ (r ++ after)) (before ++ (l ++ after))

-- a chain from one word to another: each word is one exchange from the word before it
pub data JoinedBy {A : Type 0} (R : List A → List A → Type 0) : List A → List A → Type 0 where
  same : {w : List A} → JoinedBy R w w
  next : {u v w : List A} → StepBy R u v → JoinedBy R v w → JoinedBy R u w

-- each of the words between is one exchange from the word before it, the first from u, and v is the last
abbrev pub IsChain : {A : Type 0} → (List A → List A → Type 0) → List A → List (List A) → List A → Type 0
IsChain R u [] v = u ≡ v
IsChain R u (w ∷ between) v = StepBy R u w × IsChain R w between v
