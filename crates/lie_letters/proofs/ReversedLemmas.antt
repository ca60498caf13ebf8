-- A word without Weyl letters, followed by its reversed word, is joined to the empty word.
use Rattle.std.proofs.Common.{◌≡◌, List, [], ◌∷◌, ◌++◌, map, reverse, sym, ◌∙◌, ap, subst, append_assoc}
use Rattle.std.proofs.lemmas.List.{reverse-append, map-append}
use Rattle.lie_field.specs.FiniteField.{FiniteField}
use Rattle.lie_letters.specs.declared.letter.Letter.{Letter as CodeLetter}
use Rattle.lie_letters.specs.declared.letter.Letter.TheVariants.{X as CodeX, H as CodeH, N as CodeN, Ninv as CodeNinv}
use Rattle.lie_letters.specs.Frames.{FrameData}
use Rattle.lie_letters.specs.Spelled.{JoinedSpelled, IsLetterOver, IsWordOver, IsNoWeylLetter, HasNoWeylLetters, inverted, reversed}
use Rattle.lie_letters.proofs.TorusLemmas.{inverse_joined}
use Rattle.lie_letters.proofs.RootLetterLemmas.{negative_joined}
use Rattle.lie_letters.proofs.SpelledLemmas.{JoinedSpelled-refl, JoinedSpelled-trans, JoinedSpelled-append, JoinedSpelled-over}

-- the reversed word of a letter and a word ends in the inverted letter
pub reversed-cons : (F : FiniteField) (a : CodeLetter) (w : List CodeLetter) → reversed F (a ∷ w) ≡ reversed F w ++ inverted F a ∷ []
reversed-cons F a w =
    ap (map (inverted F)) (reverse-append (a ∷ []) w) ∙ map-append (inverted F) (reverse w) (a ∷ [])

-- a letter and the inverted letter
letter_cancels : (f : FrameData) (a : CodeLetter) → IsLetterOver f a → IsNoWeylLetter a → JoinedSpelled f (a ∷ inverted f.field a ∷ []) []
letter_cancels f (CodeX k n) h free = negative_joined f k n h.0 h.1
letter_cancels f (CodeH t) h free = inverse_joined f t h.1 h.0
letter_cancels f (CodeN i) h free = absurd free
letter_cancels f (CodeNinv i) h free = absurd free

-- a word and its reversed word
pub word_cancels : (f : FrameData) (w : List CodeLetter) → IsWordOver f w → HasNoWeylLetters w → JoinedSpelled f (w ++ reversed f.field w) []
word_cancels f [] h free = JoinedSpelled-refl f [] tt
word_cancels f (a ∷ w) h free =
    let b = inverted f.field a in
    let pair = letter_cancels f a h.0 free.0 in
    let last = JoinedSpelled-refl f (b ∷ []) ((JoinedSpelled-over f (a ∷ b ∷ []) [] pair).1) in
    let middle = JoinedSpelled-append f (w ++ reversed f.field w) [] (b ∷ []) (b ∷ []) (word_cancels f w h.1 free.1) last in
    let whole =
    JoinedSpelled-append f (a ∷ []) (a ∷ []) ((w ++ reversed f.field w) ++ b ∷ []) (b ∷ []) (JoinedSpelled-refl f (a ∷ []) (h.0, tt)) middle in
    let same : a ∷ ((w ++ reversed f.field w) ++ b ∷ []) ≡ (a ∷ w) ++ reversed f.field (a ∷ w) =
    ap (λ z. a ∷ z) (append_assoc w (reversed f.field w) (b ∷ []) ∙ ap (λ z. w ++ z) (sym (reversed-cons f.field a w))) in
    subst (λ z. JoinedSpelled f z []) same (JoinedSpelled-trans f _ (a ∷ b ∷ []) [] whole pair)
