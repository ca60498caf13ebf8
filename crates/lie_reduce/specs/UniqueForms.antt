-- On a covering module a Bruhat form is determined by the matrix of its word, and so a word has one form.
-- Source: Carter, Simple Groups of Lie Type, 8.4.4 (each element is written in one way); Steinberg, Lectures on Chevalley Groups, 3 and 4.
-- Own: the form is read off one matrix over the finite field; the modules on which that is possible are the covering ones.
--
--   a covering module that is audited for f     IsCoveringFor f v
--   equal matrices have one form                FormsAreUnique
--   words are joined where their forms are one  WordsHaveOneForm
use Rattle.std.specs.Prelude.{◌≡◌, ◌↔◌, ℕ, List}
use Rattle.lie_const.specs.Modules.{Module}
use Rattle.lie_const.specs.Signs.{eta_of}
use Rattle.lie_letters.specs.declared.letter.Letter.{Letter}
use Rattle.lie_letters.specs.SignedFrames.{SignedFrame, IsLawfulSigned}
use Rattle.lie_letters.specs.GroupSpelled.{JoinedInGroup}
use Rattle.lie_unip.specs.Forms.{FormData, IsForm, IsFormOf, IsShortest, form_word}
use Rattle.lie_identities.specs.Audit.{MeetsIdentities}
use Rattle.lie_identities.specs.CoverLines.{CoverLines, AreCoverLines}
use Rattle.lie_identities.specs.Covers.{IsCovering}
use Rattle.lie_audit.specs.WordMatrix.{word_matrix}

-- the frame is lawful; v is audited for its datum, constants and signs, and covers over its field, with some cover lines
pub record IsCoveringFor (f : SignedFrame) (v : Module) : Type 0 where
  pub lawful : IsLawfulSigned f
  pub audited : MeetsIdentities f.datum f.constants (eta_of f.signs) v
  pub lines : CoverLines
  pub cover : AreCoverLines f.datum v lines
  pub covering : IsCovering f.field f.datum v lines

-- forms whose words have equal matrices are equal, whichever shortest words of their Weyl elements the words go along
abbrev pub FormsAreUnique : Type 0
FormsAreUnique =
    (f : SignedFrame) (v : Module) → IsCoveringFor f v → (x y : FormData) → IsForm f x → IsForm f y
    → (p q : List ℕ) → IsShortest f.datum x.weyl p → IsShortest f.datum y.weyl q
    → word_matrix f.field v (form_word x p) ≡ word_matrix f.field v (form_word y q) → x ≡ y

-- where there is such a module, words are joined exactly if their forms are equal
abbrev pub WordsHaveOneForm : Type 0
WordsHaveOneForm =
    (f : SignedFrame) (v : Module) → IsCoveringFor f v → (x y : FormData) (w u : List Letter)
    → IsFormOf f x w → IsFormOf f y u → JoinedInGroup f w u ↔ (x ≡ y)
