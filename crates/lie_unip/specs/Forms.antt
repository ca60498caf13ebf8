-- Bruhat forms: u h n_w v, where v is 0 at the roots that w keeps positive.
-- Source: Carter, Simple Groups of Lie Type, 8.4.
-- Own: n_w is read along any shortest word of w; all of them give joined words.
--
--   (a_1, .., a_m)           x.first      an element for each positive root, by its number
--   h                        x.torus      the numbers of the entries
--   w                        x.weyl       the images of the simple roots
--   (b_1, .., b_m)           x.second     0 wherever w r is positive
--   x_1(a_1) .. x_m(a_m) h n_w x_1(b_1) .. x_m(b_m)     form_word x p     p is a word of w; entries that are 0 give no letter
use Rattle.std.specs.Prelude.{◌≡◌, ℕ, ℤ, Bool, true, false, not, nat_eq, List, ◌∷◌, ◌++◌, map, length, filter, slice_index_or}
use Rattle.lie_field.specs.FieldRing.{field_ring}
use Rattle.lie_datum.specs.RootList.{RootDatum}
use Rattle.lie_weyl.specs.WeylElement.{Spells, IsElement, word_length}
use Rattle.lie_letters.specs.declared.letter.Letter.{Letter}
use Rattle.lie_letters.specs.declared.letter.Letter.TheVariants.{H, N}
use Rattle.lie_letters.specs.Entries.{AreUnits}
use Rattle.lie_letters.specs.RingLetters.{RingLetter, full_word}
use Rattle.lie_letters.specs.Frames.{dim}
use Rattle.lie_letters.specs.SignedFrames.{SignedFrame, unsigned, IsLawfulSigned}
use Rattle.lie_letters.specs.GroupSpelled.{JoinedInGroup}
use Rattle.lie_letters.specs.Spelled.{IsWordOver, root_letters}
use Rattle.lie_unip.specs.Collection.{AreEntries}
use Rattle.lie_unip.specs.Splitting.{kept_by}

-- a form, by numbers
pub record FormData : Type 0 where
  pub first : List ℕ
  pub torus : List ℕ
  pub weyl : List ℤ
  pub second : List ℕ

-- the letter isn't 0
abbrev pub is_nonzero : RingLetter ℕ → Bool
is_nonzero x = not (nat_eq x.1 0)

-- the letters of a list of elements, one for each positive root, without those that are 0
abbrev pub nonzero_letters : List ℕ → List (RingLetter ℕ)
nonzero_letters u = filter is_nonzero (full_word u)

-- the list has 0 wherever the root is kept
abbrev pub ZeroWhere : List Bool → List ℕ → Type 0
ZeroWhere kept v = (k : ℕ) → slice_index_or kept k false ≡ true → slice_index_or v k 0 ≡ 0

-- two lists of elements, a torus vector and a Weyl element of the frame; the second list is 0 wherever w r is positive
pub record IsForm (f : SignedFrame) (x : FormData) : Type 0 where
  pub first : AreEntries (field_ring f.field) (length f.datum.positive) x.first
  pub units : AreUnits f.field x.torus
  pub long : dim (unsigned f) ≡ length x.torus
  pub element : IsElement f.datum x.weyl
  pub second : AreEntries (field_ring f.field) (length f.datum.positive) x.second
  pub zeros : (w : List ℕ) → Spells f.datum w x.weyl → ZeroWhere (kept_by f.datum w) x.second

-- the word of a form, along a word of its Weyl element
abbrev pub form_word : FormData → List ℕ → List Letter
form_word x p = root_letters (nonzero_letters x.first) ++ H x.torus ∷ (map N p ++ root_letters (nonzero_letters x.second))

-- a word of a Weyl element that has as many letters as its length
abbrev pub IsShortest : RootDatum → List ℤ → List ℕ → Type 0
IsShortest d images p = Spells d p images × (length p ≡ word_length d p)

-- along each shortest word of its Weyl element, the word of x is joined to w
abbrev pub StandsFor : SignedFrame → FormData → List Letter → Type 0
StandsFor f x w = (p : List ℕ) → IsShortest f.datum x.weyl p → JoinedInGroup f (form_word x p) w

-- x is a form of the word w
pub record IsFormOf (f : SignedFrame) (x : FormData) (w : List Letter) : Type 0 where
  pub form : IsForm f x
  pub joined : StandsFor f x w

-- each word of a lawful frame has a form
abbrev pub EveryWordHasForm : Type 0
EveryWordHasForm = (f : SignedFrame) (w : List Letter) → IsLawfulSigned f → IsWordOver (unsigned f) w → (x : FormData) × IsFormOf f x w
