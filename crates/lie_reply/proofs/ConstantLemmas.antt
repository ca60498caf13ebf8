-- The reply to `constant` has one text alone.
use Rattle.std.proofs.Common.{◌≡◌, ℕ, ◌≤◌, ℤ, unsigned_abs, List, Ok, ap, ap₂, sym, ◌∙◌, arith}
use Rattle.lie_const.specs.ConstantTables.{ConstantTable, LoadsConstants}
use Rattle.lie_const.proofs.SameTerms.{one_terms}
use Rattle.lie_const.proofs.Unique.{unique}
use Rattle.lie_datum.specs.RootList.{RootDatum, IsLoaded, IsNumber}
use Rattle.lie_datum.proofs.NumberLemmas.{place_within}
use Rattle.lie_reply.specs.Commands.{ConstantTextOf}
use Rattle.lie_reply.specs.Texts.{constant_text}

-- the constant and the terms of two roots have one text
pub one_constant_text : (D : RootDatum) (p q : ℤ) (a b : List ℕ) → IsLoaded D → ConstantTextOf D p q a → ConstantTextOf D p q b → a ≡ b
one_constant_text D p q a b loaded x y =
    let n = unique D loaded x.table y.table x.stands y.stands p q x.pair.left x.pair.right in
    let terms = one_terms D loaded x.table y.table x.stands y.stands p q x.terms y.terms x.are y.are in
    x.is ∙ ap₂ constant_text n terms ∙ sym y.is

-- the number of a root is within the table
pub within_table : (D : RootDatum) (c : ConstantTable) (k j : ℤ) → LoadsConstants D (Ok c) → IsNumber D k → j ≡ k → unsigned_abs j ≤ c.positive
within_table D c k j loads number is = let h = (place_within D k number).1 in omega (arith, h, loads.0, ap unsigned_abs is)
