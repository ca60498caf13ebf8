-- Elements, Weyl elements and Bruhat forms, read off the matrix of a word on a covering module.
-- Source: Carter, Simple Groups of Lie Type, 8.4 (the canonical form of an element).
-- Own: the answer is read off one matrix over the finite field.
--
--   M is the matrix of x_1(a_1) .. x_m(a_m)         HasListMatrix f v [a_1, .., a_m] M
--   M is the matrix of the word of the form x       HasFormMatrix f v x M
--   M is the matrix of no word                      IsNoWordMatrix f v M
use Rattle.std.specs.Prelude.{◌≡◌, ◌≢◌, ℕ, ℤ, List, Option, None, Some, length}
use Rattle.lie_ring.specs.Matrices.{Matrix}
use Rattle.lie_field.specs.FieldRing.{field_ring}
use Rattle.lie_const.specs.Modules.{Module}
use Rattle.lie_letters.specs.declared.letter.Letter.{Letter}
use Rattle.lie_letters.specs.RingLetters.{RingLetter, IsRingWord, full_word}
use Rattle.lie_letters.specs.SignedFrames.{SignedFrame, unsigned}
use Rattle.lie_letters.specs.Spelled.{IsWordOver, root_letters}
use Rattle.lie_weyl.specs.WeylElement.{IsElement}
use Rattle.lie_unip.specs.Collection.{AreEntries}
use Rattle.lie_unip.specs.Forms.{FormData, IsForm, IsShortest, form_word}
use Rattle.lie_identities.specs.Audited.{AuditedModule}
use Rattle.lie_identities.specs.Covers.{IsCovering}
use Rattle.lie_audit.specs.WordMatrix.{word_matrix}

-- the module is audited for the datum, the constants and the signs of the frame, and covers over its field
pub record CoversFrame (f : SignedFrame) (a : AuditedModule) : Type 0 where
  pub datum : a.datum ≡ f.datum
  pub constants : a.constants ≡ f.constants
  pub signs : a.signs ≡ f.signs
  pub covering : IsCovering f.field f.datum a.module a.lines

-- an element for each positive root, whose root elements in order have the product M
pub record HasListMatrix (f : SignedFrame) (v : Module) (u : List ℕ) (M : Matrix ℕ) : Type 0 where
  pub entries : AreEntries (field_ring f.field) (length f.datum.positive) u
  pub matrix : word_matrix f.field v (root_letters (full_word u)) ≡ M

-- no word of letters at positive roots has the matrix M
abbrev pub IsNoPositiveMatrix : SignedFrame → Module → Matrix ℕ → Type 0
IsNoPositiveMatrix f v M = (w : List (RingLetter ℕ)) → IsRingWord (field_ring f.field) (length f.datum.positive) w → word_matrix f.field v (root_letters w) ≢ M

-- what `peel` answers: the elements whose root elements in order have the product M, or that M is no product of root elements at
-- positive roots
abbrev pub Peels : SignedFrame → Module → Matrix ℕ → Option (List ℕ) → Type 0
Peels f v M (Some u) = HasListMatrix f v u M
Peels f v M None = IsNoPositiveMatrix f v M

-- M is the matrix of the word of the form x, along each shortest word of its Weyl element
pub record HasFormMatrix (f : SignedFrame) (v : Module) (x : FormData) (M : Matrix ℕ) : Type 0 where
  pub form : IsForm f x
  pub along : (p : List ℕ) → IsShortest f.datum x.weyl p → word_matrix f.field v (form_word x p) ≡ M

-- M is the matrix of no word of the frame
abbrev pub IsNoWordMatrix : SignedFrame → Module → Matrix ℕ → Type 0
IsNoWordMatrix f v M = (w : List Letter) → IsWordOver (unsigned f) w → word_matrix f.field v w ≢ M

-- what `pivots` answers: a Weyl element, which is that of each form with the matrix M, or that M is the matrix of no word
abbrev pub HasPivots : SignedFrame → Module → Matrix ℕ → Option (List ℤ) → Type 0
HasPivots f v M (Some w) = IsElement f.datum w × ((x : FormData) → HasFormMatrix f v x M → x.weyl ≡ w)
HasPivots f v M None = IsNoWordMatrix f v M

-- what `reduce` answers: the form whose word has the matrix M, or that M is the matrix of no word
abbrev pub Reduces : SignedFrame → Module → Matrix ℕ → Option FormData → Type 0
Reduces f v M (Some x) = HasFormMatrix f v x M
Reduces f v M None = IsNoWordMatrix f v M
