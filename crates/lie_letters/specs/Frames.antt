-- A frame: the field, the root datum and its constants, and the setting that they give, total at every value.
-- Source: Cohen, Murray, Taylor, Computing in groups of Lie type (2004).
-- Own: roots are places in the full order; the terms are those that the table of constants has at signed numbers.
use Rattle.std.specs.Prelude.{ℕ, suc, ◌<◌, List, map, Ok}
use Rattle.std.proofs.Math.Facts.{yes_eqb}
use Rattle.lie_field.specs.FiniteField.{FiniteField}
use Rattle.lie_field.specs.Elements.{Elem, zero_elem, one_elem, elem_add, elem_neg, elem_mul, elem_inv, elem_int, as_nonzero}
use Rattle.lie_datum.specs.RootDatum.{vector, simple_coroot}
use Rattle.lie_datum.specs.RootList.{RootDatum, IsLoaded}
use Rattle.lie_const.specs.declared.term.Term.{Term as ConstantTerm}
use Rattle.lie_const.specs.ConstantTables.{ConstantTable, terms_of, LoadsConstants}
use Rattle.lie_letters.specs.Torus.{Torus as TorusOver, torus_one as one_over, torus_mul as mul_over, torus_inv as inv_over}
use Rattle.lie_letters.specs.Names.{RootName, Index, root_at, simple_name, opposite_name, reflect_name, is_negative_name, positive_names, signed_number, numbered_name}
use Rattle.lie_letters.specs.Characters.{monomial, powers, length-powers}
use Rattle.lie_letters.specs.Setting.{Setting, Term}

-- the values that words speak of
pub record FrameData : Type 0 where
  pub field : FiniteField
  pub datum : RootDatum
  pub constants : ConstantTable

-- the dimension of the torus
abbrev pub dim : FrameData → ℕ
dim f = f.datum.base.dim

-- the root r at a torus vector
unfoldable pub character_at : (f : FrameData) → RootName f.datum → TorusOver f.field (dim f) → Elem f.field
character_at f r t = (monomial f.field t.entries (vector f.datum.base (root_at f.datum r))).element

-- the simple coroot at an element; 0 is read as 1
unfoldable pub coroot_at : (f : FrameData) → Index f.datum → Elem f.field → TorusOver f.field (dim f)
coroot_at f i a = record {
  entries = powers f.field (as_nonzero f.field a) (dim f) (simple_coroot f.datum.base (suc i.number));
  long = yes_eqb (length-powers f.field (as_nonzero f.field a) (dim f) (simple_coroot f.datum.base (suc i.number)));
}

-- a term of the table; a number that names no root is read as the given root
unfoldable pub term_of : (f : FrameData) → RootName f.datum → ConstantTerm → Term (RootName f.datum) (Elem f.field)
term_of f other c = record { i = c.i; j = c.j; root = numbered_name f.datum other c.root; value = elem_int f.field c.value }

-- the terms of two roots
unfoldable pub terms_at : (f : FrameData) → RootName f.datum → RootName f.datum → List (Term (RootName f.datum) (Elem f.field))
terms_at f r s = map (term_of f r) (terms_of f.constants (signed_number f.datum r) (signed_number f.datum s))

-- a frame that a program can load: a root datum with its positive roots in order, and the constants that stand for it
pub record IsLawfulFrame (f : FrameData) : Type 0 where
  pub loaded : IsLoaded f.datum
  pub constants : LoadsConstants f.datum (Ok f.constants)

-- the setting of a frame
abbrev pub setting : FrameData → Setting
setting f = record {
  Elem = Elem f.field;
  zero = zero_elem f.field;
  one = one_elem f.field;
  add = elem_add f.field;
  neg = elem_neg f.field;
  mul = elem_mul f.field;
  inv = elem_inv f.field;
  Root = RootName f.datum;
  Index = Index f.datum;
  opposite = opposite_name f.datum;
  simple = simple_name f.datum;
  reflect = reflect_name f.datum;
  Before = λ r s. r.number < s.number;
  positives = positive_names f.datum;
  is_negative = is_negative_name f.datum;
  Torus = TorusOver f.field (dim f);
  torus_one = one_over f.field (dim f);
  torus_mul = mul_over f.field (dim f);
  torus_inv = inv_over f.field (dim f);
  coroot = coroot_at f;
  character = character_at f;
  terms = terms_at f;
}
