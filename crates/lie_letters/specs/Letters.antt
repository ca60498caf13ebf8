-- Letters and words of a setting.
-- Source: Steinberg, Lectures on Chevalley Groups, 6 (generators and relations), whose generators the letters name.
--
--   x_r(a)           X r a
--   h(t)             H t
--   n_i and n_i'     N i, Ninv i      n_i' is the inverse of n_i
use Rattle.std.specs.Prelude.{List}
use Rattle.lie_letters.specs.Setting.{Setting}

-- a letter
pub data Letter (S : Setting) : Type 0 where
  X : S.Root → S.Elem → Letter S
  H : S.Torus → Letter S
  N : S.Index → Letter S
  Ninv : S.Index → Letter S

-- a list of letters; the joined word is one list after the other
abbrev pub Word : Setting → Type 0
Word S = List (Letter S)
