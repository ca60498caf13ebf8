-- The letters of one element more of a list.
use Rattle.std.proofs.Common.{◌≡◌, ℕ, ◌+◌, ◌<◌, List, [], ◌∷◌, ◌++◌, length, take, get_or, sym, ap, ◌∙◌, arith}
use Rattle.std.specs.Prelude.{pos}
use Rattle.std.proofs.lemmas.List.{take_more, map-append, length-take-le}
use Rattle.lie_letters.specs.declared.letter.Letter.TheVariants.{X}
use Rattle.lie_letters.specs.RingLetters.{RingLetter, full_word}
use Rattle.lie_letters.specs.Spelled.{root_letters}
use Rattle.lie_unip.proofs.FullWordLemmas.{full_append}

pub full-more : (u : List ℕ) (k a : ℕ) → k < length u → a ≡ get_or u k 0
    → root_letters (full_word (take (k + 1) u)) ≡ root_letters (full_word (take k u)) ++ X (pos (k + 1)) a ∷ []
full-more u k a h e =
    let p = take k u in
    let count : 1 + length p ≡ k + 1 = let l = length-take-le k u (omega (arith, h)) in omega (arith, l) in
    let last : full_word (take (k + 1) u) ≡ full_word p ++ (k + 1, a) ∷ [] =
    ap full_word (take_more u k 0 h ∙ ap (λ b. p ++ b ∷ []) (sym e)) ∙ full_append 1 p (a ∷ []) ∙ ap (λ (n : ℕ). full_word p ++ (n, a) ∷ []) count in
    ap root_letters last ∙ map-append (λ (x : RingLetter ℕ). X (pos x.0) x.1) (full_word p) ((k + 1, a) ∷ [])
