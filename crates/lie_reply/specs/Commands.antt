-- The texts that answer the commands of a loaded group: `form`, `constant` and `weyl`.
-- Own: all texts.
use Rattle.std.specs.Prelude.{◌≡◌, ◌++◌, ℕ, ℤ, pos, true, nat_abs, List, map, codes}
use Rattle.std.specs.List.{All}
use Rattle.lie_const.specs.CommutatorTerms.{IsPair, AreTerms}
use Rattle.lie_const.specs.StructureConstants.{Table, StandsFor}
use Rattle.lie_const.specs.declared.term.Term.{Term}
use Rattle.lie_datum.specs.RootDatum.{rank}
use Rattle.lie_datum.specs.RootList.{RootDatum}
use Rattle.lie_letters.specs.SignedFrames.{SignedFrame}
use Rattle.lie_letters.specs.declared.letter.Letter.{Letter}
use Rattle.lie_script.specs.FormTexts.{form_text}
use Rattle.lie_script.specs.Numbers.{is_within}
use Rattle.lie_unip.specs.Forms.{FormData, IsFormOf}
use Rattle.lie_weyl.specs.WeylElement.{Spells, IsLength, IsLeastWord}
use Rattle.lie_reply.specs.Texts.{constant_text, weyl_text}

-- the reply that has the text of the form x, along the least word of its Weyl element
pub record TellsForm (D : RootDatum) (x : FormData) (text : List ℕ) : Type 0 where
  pub word : List ℕ
  pub least : IsLeastWord D word x.weyl
  pub is : text ≡ form_text x word ++ codes "\n"

-- the reply that has the text of a form of the word w
pub record FormTextOf (g : SignedFrame) (w : List Letter) (text : List ℕ) : Type 0 where
  pub form : FormData
  pub stands : IsFormOf g form w
  pub tells : TellsForm g.datum form text

-- the text of N_pq and of the terms of the two roots p and q, by a table that stands for the datum
pub record ConstantTextOf (D : RootDatum) (p q : ℤ) (text : List ℕ) : Type 0 where
  pub table : Table
  pub terms : List Term
  pub pair : IsPair D p q
  pub stands : StandsFor D table
  pub are : AreTerms D table p q terms
  pub is : text ≡ constant_text (table p q) terms

-- each number is an index of a simple root
abbrev pub AreIndices : RootDatum → List ℤ → Type 0
AreIndices D indices = All (λ i. is_within (pos 1) (pos (rank D.base)) i ≡ true) indices

-- the text of the element with these images: its length, its least word and the images
abbrev pub TellsElement : RootDatum → List ℤ → List ℕ → Type 0
TellsElement D images text = (n : ℕ) × (least : List ℕ) × IsLength D images n × IsLeastWord D least images × (text ≡ weyl_text n least images)

-- the text of the product of the simple reflections with these indices
abbrev pub WeylTextOf : RootDatum → List ℤ → List ℕ → Type 0
WeylTextOf D indices text = (images : List ℤ) × Spells D (map nat_abs indices) images × TellsElement D images text
