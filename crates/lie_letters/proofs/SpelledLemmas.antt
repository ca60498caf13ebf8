-- A spelling determines its word, so chains of spelled words compose; joined words are words of the frame.
use Rattle.std.proofs.Common.{◌≡◌, List, [], ◌∷◌, ◌++◌, map, refl, sym, ◌∙◌, ap, ap₂, subst}
use Rattle.std.proofs.lemmas.List.{map-append}
use Rattle.std.proofs.Math.Facts.{eqb_yes}
use Rattle.lie_letters.specs.declared.letter.Letter.TheVariants.{X as CodeX, H as CodeH, N as CodeN, Ninv as CodeNinv}
use Rattle.lie_base.specs.Below.{same_below, at_number, is_below}
use Rattle.lie_field.specs.Quotient.{order}
use Rattle.lie_letters.specs.Names.{signed_number}
use Rattle.lie_letters.proofs.NameLemmas.{same_index, same_number, named_is, name_of_number, index_of_number, number_of_index}
use Rattle.lie_letters.proofs.TorusLemmas.{torus_of, length-numbers, AreUnits-numbers}
use Rattle.lie_field.specs.FiniteField.{FiniteField}
use Rattle.lie_field.specs.Elements.{NonZero, same_nonzero}
use Rattle.lie_letters.specs.declared.letter.Letter.{Letter as CodeLetter}
use Rattle.lie_letters.proofs.TorusLaws.{same_torus}
use Rattle.lie_letters.specs.Frames.{FrameData, setting, dim}
use Rattle.lie_letters.specs.Letters.{Letter, Word, X, H, N, Ninv}
use Rattle.lie_letters.specs.Relations.{Joined}
use Rattle.lie_letters.specs.Spelled.{numbers, spelled, JoinedSpelled, IsLetterOver, IsWordOver, IsLetterOverField, IsWordOverField}
use Rattle.lie_letters.proofs.ChainLemmas.{trans, flip, both}
use Rattle.lie_letters.specs.Chains.{same}

-- units with the same numbers are the same
same_numbers : (f : FiniteField) (t u : List (NonZero f)) → numbers f t ≡ numbers f u → t ≡ u
same_numbers f [] [] e = refl
same_numbers f [] (b ∷ u) e = cc
same_numbers f (a ∷ t) [] e = cc
same_numbers f (a ∷ t) (b ∷ u) e =
    let first : a.element.number ≡ b.element.number = cc in
    let rest : numbers f t ≡ numbers f u = cc in
    ap₂ ◌∷◌ (same_nonzero f a b first) (same_numbers f t u rest)

-- letters that are spelled alike are the same
pub spelled_injective : (f : FrameData) (a b : Letter (setting f)) → spelled f a ≡ spelled f b → a ≡ b
spelled_injective f (X r a) (X s b) e =
    let root : signed_number f.datum r ≡ signed_number f.datum s = cc in
    let value : a.number ≡ b.number = cc in
    ap₂ X (same_number f.datum r s root) (same_below (order f.field.given) a b value)
spelled_injective f (X r a) (H u) e = cc
spelled_injective f (X r a) (N j) e = cc
spelled_injective f (X r a) (Ninv j) e = cc
spelled_injective f (H t) (X s b) e = cc
spelled_injective f (H t) (H u) e =
    let entries : numbers f.field t.entries ≡ numbers f.field u.entries = cc in
    ap H (same_torus f.field (dim f) t u (same_numbers f.field t.entries u.entries entries))
spelled_injective f (H t) (N j) e = cc
spelled_injective f (H t) (Ninv j) e = cc
spelled_injective f (N i) (X s b) e = cc
spelled_injective f (N i) (H u) e = cc
spelled_injective f (N i) (N j) e = let n : i.number ≡ j.number = cc in ap N (same_index f.datum i j n)
spelled_injective f (N i) (Ninv j) e = cc
spelled_injective f (Ninv i) (X s b) e = cc
spelled_injective f (Ninv i) (H u) e = cc
spelled_injective f (Ninv i) (N j) e = cc
spelled_injective f (Ninv i) (Ninv j) e = let n : i.number ≡ j.number = cc in ap Ninv (same_index f.datum i j n)

module _ (f : FrameData) where
  -- words that are spelled alike are the same
  pub words_same : (u v : Word (setting f)) → map (spelled f) u ≡ map (spelled f) v → u ≡ v
  words_same [] [] e = refl
  words_same [] (b ∷ v) e = cc
  words_same (a ∷ u) [] e = cc
  words_same (a ∷ u) (b ∷ v) e =
      let first : spelled f a ≡ spelled f b = cc in
      let rest : map (spelled f) u ≡ map (spelled f) v = cc in
      ap₂ ◌∷◌ (spelled_injective f a b first) (words_same u v rest)

  -- what is joined to a joined word is joined
  pub JoinedSpelled-trans : (u v w : List CodeLetter) → JoinedSpelled f u v → JoinedSpelled f v w → JoinedSpelled f u w
  JoinedSpelled-trans u v w d e = record {
    left = d.left;
    right = e.right;
    left_spelled = d.left_spelled;
    right_spelled = e.right_spelled;
    joined = trans d.joined (subst (λ z. Joined (setting f) z e.right) (words_same e.left d.right (e.left_spelled ∙ sym d.right_spelled)) e.joined);
  }

  -- joined the other way round
  pub JoinedSpelled-flip : (u v : List CodeLetter) → JoinedSpelled f u v → JoinedSpelled f v u
  JoinedSpelled-flip u v d = record {
    left = d.right;
    right = d.left;
    left_spelled = d.right_spelled;
    right_spelled = d.left_spelled;
    joined = flip d.joined;
  }

  -- joined part by part
  pub JoinedSpelled-append : (u v u' v' : List CodeLetter) → JoinedSpelled f u v → JoinedSpelled f u' v' → JoinedSpelled f (u ++ u') (v ++ v')
  JoinedSpelled-append u v u' v' d e = record {
    left = d.left ++ e.left;
    right = d.right ++ e.right;
    left_spelled = map-append (spelled f) d.left e.left ∙ ap₂ ◌++◌ d.left_spelled e.left_spelled;
    right_spelled = map-append (spelled f) d.right e.right ∙ ap₂ ◌++◌ d.right_spelled e.right_spelled;
    joined = both d.joined e.joined;
  }

  -- a letter of the frame, as a letter of the setting
  pub letter_of : (a : CodeLetter) → IsLetterOver f a → (b : Letter (setting f)) × (spelled f b ≡ a)
  letter_of (CodeX k n) h =
      let r = name_of_number f.datum k h.0 in
      (X r.0 (at_number (order f.field.given) n h.1), ap (λ j. CodeX j n) r.1)
  letter_of (CodeH t) h = let x = torus_of f t h.1 h.0 in (H x.0, ap CodeH x.1)
  letter_of (CodeN k) h = let i = index_of_number f.datum k h in (N i.0, ap CodeN i.1)
  letter_of (CodeNinv k) h = let i = index_of_number f.datum k h in (Ninv i.0, ap CodeNinv i.1)

  -- a word of the frame, as letters of the setting
  pub word_of : (u : List CodeLetter) → IsWordOver f u → (w : Word (setting f)) × (map (spelled f) w ≡ u)
  word_of [] h = ([], refl)
  word_of (a ∷ u) h =
      let b = letter_of a h.0 in
      let w = word_of u h.1 in
      (b.0 ∷ w.0, ap₂ ◌∷◌ b.1 w.1)

  -- a word of the frame is joined to itself
  pub JoinedSpelled-refl : (u : List CodeLetter) → IsWordOver f u → JoinedSpelled f u u
  JoinedSpelled-refl u h =
      let w = word_of u h in
      record { left = w.0; right = w.0; left_spelled = w.1; right_spelled = w.1; joined = same }

  -- a letter of the setting is spelled by a letter of the frame
  pub IsLetterOver-spelled : (a : Letter (setting f)) → IsLetterOver f (spelled f a)
  IsLetterOver-spelled (X r a) = ((named_is f.datum r).number, is_below (order f.field.given) a)
  IsLetterOver-spelled (H t) = (sym (length-numbers f.field t.entries ∙ eqb_yes t.long), AreUnits-numbers f.field t.entries)
  IsLetterOver-spelled (N i) = number_of_index f.datum i
  IsLetterOver-spelled (Ninv i) = number_of_index f.datum i

  -- a word of the setting is spelled by a word of the frame
  pub IsWordOver-spelled : (w : Word (setting f)) → IsWordOver f (map (spelled f) w)
  IsWordOver-spelled [] = tt
  IsWordOver-spelled (a ∷ w) = (IsLetterOver-spelled a, IsWordOver-spelled w)

  -- the first of two joined words is a word of the frame
  pub JoinedSpelled-over : (u v : List CodeLetter) → JoinedSpelled f u v → IsWordOver f u
  JoinedSpelled-over u v d = subst (IsWordOver f) d.left_spelled (IsWordOver-spelled d.left)

  -- a letter of the frame is a letter over its field
  IsLetterOverField-from_frame : (a : CodeLetter) → IsLetterOver f a → IsLetterOverField f.field a
  IsLetterOverField-from_frame (CodeX k n) h = h.1
  IsLetterOverField-from_frame (CodeH t) h = h.1
  IsLetterOverField-from_frame (CodeN k) h = tt
  IsLetterOverField-from_frame (CodeNinv k) h = tt

  -- a word of the frame is a word over its field
  pub IsWordOverField-from_frame : (u : List CodeLetter) → IsWordOver f u → IsWordOverField f.field u
  IsWordOverField-from_frame [] h = tt
  IsWordOverField-from_frame (a ∷ u) h = (IsLetterOverField-from_frame a h.0, IsWordOverField-from_frame u h.1)
