-- What the calls of the Bruhat product answer: forms of longer words, of products and of inverses, and their Weyl elements.
-- Source: Carter, Simple Groups of Lie Type, 8.4.
-- Own: a form is taken as a form of any word that it is joined to, so that the calls compose.
--
--   y is x times the word v           IsTimes f x v y        whatever word x is the form of, y is the form of that word followed by v
--   z is x times y                    IsProduct f x y z
--   y is the inverse of x             IsInverse f x y        the form of the reversed words
--   the Weyl element is w s_i         IsTurned d w i w'
--   the Weyl element that a letter leaves     IsWeylStep d a w w'
use Rattle.std.specs.Prelude.{◌≡◌, ◌⊎◌, ℕ, ℤ, pos, neg_ℤ, ◌<ℤ◌, Bool, false, List, [], ◌∷◌, ◌++◌, map, slice_index_or}
use Rattle.lie_datum.specs.RootList.{RootDatum}
use Rattle.lie_datum.specs.RootDatum.{simple, IsPositive, IsSimpleIndex}
use Rattle.lie_weyl.specs.WeylElement.{moved, Spells}
use Rattle.lie_letters.specs.declared.letter.Letter.{Letter}
use Rattle.lie_letters.specs.declared.letter.Letter.TheVariants.{X, H, N, Ninv}
use Rattle.lie_letters.specs.GroupSpelled.{JoinedInGroup}
use Rattle.lie_letters.specs.SignedFrames.{SignedFrame}
use Rattle.lie_letters.specs.Spelled.{reversed, root_letters}
use Rattle.lie_unip.specs.Forms.{FormData, IsForm, IsFormOf, IsShortest, nonzero_letters}

-- y is the form of each word that x is the form of, followed by v
pub record IsTimes (f : SignedFrame) (x : FormData) (v : List Letter) (y : FormData) : Type 0 where
  pub form : IsForm f y
  pub times : (w : List Letter) → IsFormOf f x w → IsFormOf f y (w ++ v)

-- z is the form of the words of x followed by those of y
pub record IsProduct (f : SignedFrame) (x y z : FormData) : Type 0 where
  pub form : IsForm f z
  pub times : (v w : List Letter) → IsFormOf f x v → IsFormOf f y w → IsFormOf f z (v ++ w)

-- y is the form of the reversed words of x
pub record IsInverse (f : SignedFrame) (x y : FormData) : Type 0 where
  pub form : IsForm f y
  pub inverse : (w : List Letter) → IsFormOf f x w → IsFormOf f y (reversed f.field w)

-- the images are those of w s_i
abbrev pub IsTurned : RootDatum → List ℤ → ℕ → List ℤ → Type 0
IsTurned d before i after = (w : List ℕ) → Spells d w before → Spells d (w ++ i ∷ []) after

-- the images are those of w, or of w s_i
abbrev pub IsSameOrTurned : RootDatum → List ℤ → ℕ → List ℤ → Type 0
IsSameOrTurned d before i after = (after ≡ before) ⊎ IsTurned d before i after

-- a letter at a positive root and a torus letter keep w, the letter at the opposite of a_i and the letters n_i and n_i' leave w or w s_i;
-- of a letter at another negative root nothing is said
abbrev pub IsWeylStep : RootDatum → Letter → List ℤ → List ℤ → Type 0
IsWeylStep d (X r a) before after =
    (pos 0 <ℤ r → after ≡ before) × ((i : ℕ) → IsSimpleIndex d.base i → r ≡ neg_ℤ (pos i) → IsSameOrTurned d before i after)
IsWeylStep d (H t) before after = after ≡ before
IsWeylStep d (N i) before after = IsSameOrTurned d before i after
IsWeylStep d (Ninv i) before after = IsSameOrTurned d before i after

-- the element keeps a_i positive
abbrev pub KeepsPositive : RootDatum → List ℤ → ℕ → Type 0
KeepsPositive d images i = (w : List ℕ) → Spells d w images → IsPositive (moved d.base w (simple i))

-- the list has 0 wherever the root isn't kept
abbrev pub ZeroElsewhere : List Bool → List ℕ → Type 0
ZeroElsewhere kept v = (k : ℕ) → slice_index_or kept k false ≡ false → slice_index_or v k 0 ≡ 0

-- h(t) is n_i n_i, and h(t) n_i is n_i'
pub record IsSquare (f : SignedFrame) (i : ℕ) (t : List ℕ) : Type 0 where
  pub square : JoinedInGroup f (N i ∷ N i ∷ []) (H t ∷ [])
  pub inverse : JoinedInGroup f (Ninv i ∷ []) (H t ∷ N i ∷ [])

-- u h n_w n_i and the letters of y are joined to z
abbrev pub StandsTurned : SignedFrame → FormData → ℕ → List ℕ → List Letter → Type 0
StandsTurned f x i y z =
    (p : List ℕ) → IsShortest f.datum x.weyl p
    → JoinedInGroup f (root_letters (nonzero_letters x.first) ++ H x.torus ∷ (map N p ++ N i ∷ root_letters (nonzero_letters y))) z
