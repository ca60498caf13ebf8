-- Laws of lengths and words in the Weyl group of a loaded datum.
-- Source: Humphreys, Reflection Groups and Coxeter Groups, 1.6 and 1.7 (the length function, the exchange condition).
use Rattle.std.specs.Prelude.{◌≡◌, ◌≤◌, ◌<◌, ℕ, suc, List, [], ◌∷◌, ◌++◌, length, reverse}
use Rattle.lie_datum.specs.RootDatum.{simple, IsSimpleIndex, IsPositive, IsNegative}
use Rattle.lie_datum.specs.RootList.{RootDatum, IsLoaded}
use Rattle.lie_weyl.specs.WeylElement.{moved, AreLetters, SameProduct, word_length}
use Rattle.lie_weyl.specs.Descents.{IsLeastOf}

-- words that move each simple root alike move all roots alike, so the images of the simple roots determine the element
abbrev pub ImagesDetermineAction : Type 0
ImagesDetermineAction =
    (d : RootDatum) → IsLoaded d → (w v : List ℕ) → AreLetters d.base w → AreLetters d.base v →
    ((i : ℕ) → IsSimpleIndex d.base i → moved d.base w (simple i) ≡ moved d.base v (simple i)) → SameProduct d w v

-- w s_i is one longer than w where w keeps a_i positive, and one shorter where it makes a_i negative
abbrev pub RightLengths : Type 0
RightLengths =
    (d : RootDatum) → IsLoaded d → (w : List ℕ) (i : ℕ) → AreLetters d.base w → IsSimpleIndex d.base i →
    (IsPositive (moved d.base w (simple i)) → word_length d (w ++ i ∷ []) ≡ suc (word_length d w))
    × (IsNegative (moved d.base w (simple i)) → suc (word_length d (w ++ i ∷ [])) ≡ word_length d w)

-- s_i w is one longer than w where the inverse of w keeps a_i positive, and one shorter where it makes a_i negative
abbrev pub LeftLengths : Type 0
LeftLengths =
    (d : RootDatum) → IsLoaded d → (w : List ℕ) (i : ℕ) → AreLetters d.base w → IsSimpleIndex d.base i →
    (IsPositive (moved d.base (reverse w) (simple i)) → word_length d (i ∷ w) ≡ suc (word_length d w))
    × (IsNegative (moved d.base (reverse w) (simple i)) → suc (word_length d (i ∷ w)) ≡ word_length d w)

-- an element and its inverse have one length
abbrev pub InverseLengths : Type 0
InverseLengths = (d : RootDatum) → IsLoaded d → (w : List ℕ) → AreLetters d.base w → word_length d (reverse w) ≡ word_length d w

-- the product of w has a word of n letters
pub record HasWord (d : RootDatum) (w : List ℕ) (n : ℕ) : Type 0 where
  pub word : List ℕ
  pub letters : AreLetters d.base word
  pub same : SameProduct d w word
  pub count : length word ≡ n

-- every product has a word of its length, and none shorter
abbrev pub ShortestWords : Type 0
ShortestWords =
    (d : RootDatum) → IsLoaded d → (w : List ℕ) → AreLetters d.base w →
    HasWord d w (word_length d w) × ((v : List ℕ) → AreLetters d.base v → SameProduct d w v → word_length d w ≤ length v)

-- the word w with the letter i behind it has the product of w without one of its letters
pub record LosesLetter (d : RootDatum) (w : List ℕ) (i : ℕ) : Type 0 where
  pub before : List ℕ
  pub lost : ℕ
  pub after : List ℕ
  pub split : w ≡ before ++ lost ∷ after
  pub same : SameProduct d (w ++ i ∷ []) (before ++ after)

-- the exchange condition: that is so where w makes a_i negative
abbrev pub Exchange : Type 0
Exchange = (d : RootDatum) → IsLoaded d → (w : List ℕ) (i : ℕ) → AreLetters d.base w → IsSimpleIndex d.base i → IsNegative (moved d.base w (simple i)) → LosesLetter d w i

-- i is the least simple index with s_i w shorter than w: the inverse of w makes a_i negative, and keeps those before it positive
pub record IsFirstDescent (d : RootDatum) (w : List ℕ) (i : ℕ) : Type 0 where
  pub index : IsSimpleIndex d.base i
  pub down : IsNegative (moved d.base (reverse w) (simple i))
  pub before : (j : ℕ) → IsSimpleIndex d.base j → j < i → IsPositive (moved d.base (reverse w) (simple j))

-- p begins with the first descent of w each time, and ends where w is 1
abbrev pub IsGreedyWord : RootDatum → List ℕ → List ℕ → Type 0
IsGreedyWord d w [] = SameProduct d w []
IsGreedyWord d w (i ∷ p) = IsFirstDescent d w i × IsGreedyWord d (i ∷ w) p

-- the greedy word of an element is its least word
abbrev pub GreedyIsLeast : Type 0
GreedyIsLeast = (d : RootDatum) → IsLoaded d → (w p : List ℕ) → AreLetters d.base w → IsGreedyWord d w p → IsLeastOf d w p
