-- The reversed word of a word of the frame is one; and each is a word whatever the constants.
use Rattle.std.proofs.Common.{◌≡◌, ℕ, suc, ◌+◌, ◌-◌, ◌<◌, List, map, [], ◌∷◌, ◌++◌, length, get_or, subst, arith}
use Rattle.std.specs.Prelude.{pos}
use Rattle.std.proofs.lemmas.Bool.{ltb-true}
use Rattle.std.specs.List.{AllByRecursion}
use Rattle.lie_letters.specs.declared.letter.Letter.{Letter}
use Rattle.lie_letters.specs.declared.letter.Letter.TheVariants.{X, H, N, Ninv}
use Rattle.lie_ring.specs.Rings.{IsElem}
use Rattle.lie_field.specs.FieldRing.{field_ring}
use Rattle.lie_field.specs.Quotient.{order}
use Rattle.lie_datum.specs.RootList.{IsNumber, IsLoaded}
use Rattle.lie_datum.proofs.NumberLemmas.{some_within}
use Rattle.lie_letters.specs.RingLetters.{IsRingWord, full_from, full_word}
use Rattle.lie_unip.specs.Collection.{AreEntries}
use Rattle.lie_letters.specs.SignedFrames.{SignedFrame, unsigned, IsLawfulSigned}
use Rattle.lie_letters.proofs.NameLemmas.{index_of, number_of_index}
use Rattle.lie_unip.proofs.FullWordLemmas.{AreElements, full_lawful}
use Rattle.lie_weyl.proofs.Words.{IsWord, letter}
use Rattle.lie_letters.specs.Spelled.{IsIndex, IsLetterOver, IsWordOver, reversed, root_letters}
use Rattle.lie_letters.proofs.GroupSpelledLemmas.{JoinedInGroup-flip, JoinedInGroup-over}
use Rattle.lie_bruhat.proofs.RulesHold.{reversed_cancels}
use Rattle.lie_audit.specs.WordMatrix.{IsLetterFor, IsWordFor}

-- the last part of a word whose letters all have a property
last_part : (P : Letter → Type 0) (u w : List Letter) → AllByRecursion P (u ++ w) → AllByRecursion P w
last_part P [] w h = h
last_part P (x ∷ u) w h = last_part P u w h.1

pub reversed-over : (f : SignedFrame) → IsLawfulSigned f → (w : List Letter) → IsWordOver (unsigned f) w → IsWordOver (unsigned f) (reversed f.field w)
reversed-over f lawful w over =
    last_part (IsLetterOver (unsigned f)) w (reversed f.field w)
    (JoinedInGroup-over f [] (w ++ reversed f.field w) (JoinedInGroup-flip f (w ++ reversed f.field w) [] (reversed_cancels f w lawful over)))

letter-for : (f : SignedFrame) (x : Letter) → IsLetterOver (unsigned f) x → IsLetterFor f.field f.datum x
letter-for f (X k a) h = λ c. h
letter-for f (H t) h = λ c. h
letter-for f (N i) h = λ c. h
letter-for f (Ninv i) h = λ c. h

pub over-for : (f : SignedFrame) (w : List Letter) → IsWordOver (unsigned f) w → IsWordFor f.field f.datum w
over-for f [] h = λ c. tt
over-for f (x ∷ w) h = λ c. (letter-for f x h.0 c, over-for f w h.1 c)

-- the letters of all elements of a list are a word of the frame
pub full-over : (f : SignedFrame) (s : ℕ) (us : List ℕ) → ((k : ℕ) → k < length us → IsNumber f.datum (pos (s + k)) × (get_or us k 0 < order f.field.given)) → IsWordOver (unsigned f) (root_letters (full_from s us))
full-over f s [] h = tt
full-over f s (a ∷ us) h = (
  subst (λ n. IsNumber f.datum (pos n) × (a < order f.field.given)) (let e : s + 0 ≡ s = omega arith in e) (h 0 (omega arith)),
  full-over f (s + 1) us (λ k l. subst (λ n. IsNumber f.datum (pos n) × (get_or us k 0 < order f.field.given)) (let e : s + suc k ≡ s + 1 + k = omega arith in e) (h (suc k) (omega (arith, l)))),
)

pub list-over : (f : SignedFrame) (us : List ℕ) → AreEntries (field_ring f.field) (length f.datum.positive) us → IsWordOver (unsigned f) (root_letters (full_word us))
list-over f us e = full-over f 1 us (λ k l.
    (let low : k < length f.datum.positive = (let c = e.count in omega (arith, l, c)) in (
      subst (λ n. IsNumber f.datum (pos n)) (let g : suc k ≡ 1 + k = omega arith in g) (some_within f.datum.positive k low),
      ltb-true (get_or us k 0) (order f.field.given) (e.fit k 0 l).0,
    )))

-- the letters n_i along a word of simple indices are a word of the frame
pub weyl-over : (f : SignedFrame) → IsLoaded f.datum → (w : List ℕ) → IsWord f.datum.base w → IsWordOver (unsigned f) (map N w)
weyl-over f loaded [] h = tt
weyl-over f loaded (i ∷ w) (letter index h) =
    let j = index_of f.datum loaded (i - 1) (let l = index.0 in let u = index.1 in omega (arith, l, u)) in
    (subst (IsIndex f.datum) (let e = j.1 in let l = index.0 in omega (arith, e, l)) (number_of_index f.datum j.0), weyl-over f loaded w h)

-- a full word of elements is a word of positive root letters
elements : (f : SignedFrame) (us : List ℕ) → ((k : ℕ) → k < length us → IsElem (field_ring f.field) (get_or us k 0)) → AreElements (field_ring f.field) us
elements f [] h = tt
elements f (a ∷ us) h = (h 0 (omega arith), elements f us (λ k l. h (suc k) (omega (arith, l))))

pub list-ring : (f : SignedFrame) (us : List ℕ) → AreEntries (field_ring f.field) (length f.datum.positive) us → IsRingWord (field_ring f.field) (length f.datum.positive) (full_word us)
list-ring f us e = full_lawful (field_ring f.field) (length f.datum.positive) 1 us (omega arith) (let c = e.count in omega (arith, c)) (elements f us (λ k l. (e.fit k 0 l).0))
