-- The letters of the program, by numbers, as letters of a setting.
-- Own: chains lead through words of the setting, so a word with a letter that is out of range is joined to none.
--
--   x_r(a)                     CodeX k n                the signed number of r, the number of a
--   h(t)                       CodeH t                  the numbers of the entries
--   n_i and n_i'               CodeN i, CodeNinv i      i counts from 1
--   u and v are joined         JoinedSpelled f u v
--   u is a word of the frame   IsWordOver f u
--   the reversed word of u     reversed f.field u
use Rattle.std.specs.Prelude.{◌≡◌, ℕ, suc, ◌<◌, pos, List, map, reverse, length}
use Rattle.std.specs.List.{AllByRecursion, Contains}
use Rattle.lie_field.specs.FiniteField.{FiniteField}
use Rattle.lie_field.specs.Quotient.{order, neg}
use Rattle.lie_field.specs.Elements.{NonZero}
use Rattle.lie_datum.specs.RootDatum.{simple, IsSimpleIndex}
use Rattle.lie_datum.specs.RootList.{RootDatum, all_roots, IsNumber}
use Rattle.lie_letters.specs.declared.letter.Letter.{Letter as CodeLetter}
use Rattle.lie_letters.specs.declared.letter.Letter.TheVariants.{X as CodeX, H as CodeH, N as CodeN, Ninv as CodeNinv}
use Rattle.lie_letters.specs.Entries.{AreUnits, inverses}
use Rattle.lie_letters.specs.Names.{signed_number}
use Rattle.lie_letters.specs.RingLetters.{RingLetter}
use Rattle.lie_letters.specs.Frames.{FrameData, setting, dim}
use Rattle.lie_letters.specs.Letters.{Letter, Word, X, H, N, Ninv}
use Rattle.lie_letters.specs.Relations.{Joined}

-- the numbers of the entries
abbrev pub numbers : (f : FiniteField) → List (NonZero f) → List ℕ
numbers f ts = map (λ t. t.element.number) ts

-- how a letter is spelled
abbrev pub spelled : (f : FrameData) → Letter (setting f) → CodeLetter
spelled f (X r a) = CodeX (signed_number f.datum r) a.number
spelled f (H t) = CodeH (numbers f.field t.entries)
spelled f (N i) = CodeN (suc i.number)
spelled f (Ninv i) = CodeNinv (suc i.number)

-- words that are spelled so are joined
pub record JoinedSpelled (f : FrameData) (u v : List CodeLetter) : Type 0 where
  pub left : Word (setting f)
  pub right : Word (setting f)
  pub left_spelled : map (spelled f) left ≡ u
  pub right_spelled : map (spelled f) right ≡ v
  pub joined : Joined (setting f) left right

-- the number of a simple root that stands among the roots; in a loaded datum each simple root does
abbrev pub IsIndex : RootDatum → ℕ → Type 0
IsIndex d i = IsSimpleIndex d.base i × Contains (all_roots d) (simple i)

-- a letter of the frame: the number of a root and an element, a unit for each coordinate of the torus, or a simple index
abbrev pub IsLetterOver : FrameData → CodeLetter → Type 0
IsLetterOver f (CodeX k a) = IsNumber f.datum k × (a < order f.field.given)
IsLetterOver f (CodeH t) = (dim f ≡ length t) × AreUnits f.field t
IsLetterOver f (CodeN i) = IsIndex f.datum i
IsLetterOver f (CodeNinv i) = IsIndex f.datum i

-- a word of letters of the frame
abbrev pub IsWordOver : FrameData → List CodeLetter → Type 0
IsWordOver f w = AllByRecursion (IsLetterOver f) w

-- a letter over a field, whatever the datum
abbrev pub IsLetterOverField : FiniteField → CodeLetter → Type 0
IsLetterOverField f (CodeX k a) = a < order f.given
IsLetterOverField f (CodeH t) = AreUnits f t
IsLetterOverField f (CodeN i) = Unit {0}
IsLetterOverField f (CodeNinv i) = Unit {0}

-- a word of letters over a field
abbrev pub IsWordOverField : FiniteField → List CodeLetter → Type 0
IsWordOverField f w = AllByRecursion (IsLetterOverField f) w

-- no letter is an `n_i` or its inverse
abbrev pub IsNoWeylLetter : CodeLetter → Type 0
IsNoWeylLetter (CodeX k a) = Unit {0}
IsNoWeylLetter (CodeH t) = Unit {0}
IsNoWeylLetter (CodeN i) = ⊥
IsNoWeylLetter (CodeNinv i) = ⊥

-- a word without letters `n_i` and their inverses
abbrev pub HasNoWeylLetters : List CodeLetter → Type 0
HasNoWeylLetters w = AllByRecursion IsNoWeylLetter w

-- the letters of a word of positive root letters over the field, by the numbers of roots and elements
abbrev pub root_letters : List (RingLetter ℕ) → List CodeLetter
root_letters w = map (λ x. CodeX (pos x.0) x.1) w

-- the inverted letter: `x_r(-a)`, `h(1/t)`, and `n_i` and its inverse for one another
abbrev pub inverted : FiniteField → CodeLetter → CodeLetter
inverted f (CodeX k a) = CodeX k (neg f.given a)
inverted f (CodeH t) = CodeH (inverses f t)
inverted f (CodeN i) = CodeNinv i
inverted f (CodeNinv i) = CodeN i

-- the reversed word: the inverted letters in reverse order
abbrev pub reversed : FiniteField → List CodeLetter → List CodeLetter
reversed f w = map (inverted f) (reverse w)
