-- Frames with the signs of the Weyl representatives, of which words with letters `n_i` speak.
-- Source: Steinberg, Lectures on Chevalley Groups, 6 (generators and relations); Carter, Simple Groups of Lie Type, chapter 6 and 7.2 (n_r x_s(t) n_r^-1).
-- Own: a frame keeps that its signs are those of the adjoint module, as they should be, and that each braid value is 1.
--
--   the frame without its signs          unsigned f
--   a sign for each i and s              Sign S
--   eta_is, read in the field            sign_at f i s
--   the signs of a frame                 AreFrameSigns d t
--   a frame that a program can load      IsLawfulSigned f
use Rattle.std.specs.Prelude.{suc}
use Rattle.lie_field.specs.FiniteField.{FiniteField}
use Rattle.lie_field.specs.Elements.{Elem, elem_int}
use Rattle.lie_datum.specs.RootList.{RootDatum}
use Rattle.lie_const.specs.ConstantTables.{ConstantTable}
use Rattle.lie_const.specs.Modules.{Module}
use Rattle.lie_const.specs.Adjoint.{IsAdjointOf}
use Rattle.lie_const.specs.Signs.{SignTable, AreSigns, IsSignTable, eta_of}
use Rattle.lie_letters.specs.Braids.{HasBraids}
use Rattle.lie_letters.specs.Names.{RootName, Index, signed_number}
use Rattle.lie_letters.specs.Setting.{Setting}
use Rattle.lie_letters.specs.Frames.{FrameData, IsLawfulFrame}

-- a sign for each simple index and each root
abbrev pub Sign : Setting → Type 0
Sign S = S.Index → S.Root → S.Elem

-- the values that words with Weyl letters speak of
pub record SignedFrame : Type 0 where
  pub field : FiniteField
  pub datum : RootDatum
  pub constants : ConstantTable
  pub signs : SignTable

-- the frame without its signs
abbrev pub unsigned : SignedFrame → FrameData
unsigned f = record { field = f.field; datum = f.datum; constants = f.constants }

-- the sign of i and s, read in the field
unfoldable pub sign_at : (f : SignedFrame) → Index f.datum → RootName f.datum → Elem f.field
sign_at f i s = elem_int f.field (eta_of f.signs (suc i.number) (signed_number f.datum s))

-- the table has the signs of the adjoint module, each as it should be, and each braid value is 1
pub record AreFrameSigns (d : RootDatum) (t : SignTable) : Type 0 where
  pub table : IsSignTable d t
  pub adjoint : Module
  pub is_adjoint : IsAdjointOf d adjoint
  pub signs : AreSigns d adjoint (eta_of t)
  pub braids : HasBraids d (eta_of t)

-- a frame that a program can load: a root datum, the constants that stand for it, and its signs
pub record IsLawfulSigned (f : SignedFrame) : Type 0 where
  pub lawful : IsLawfulFrame (unsigned f)
  pub signs : AreFrameSigns f.datum f.signs
