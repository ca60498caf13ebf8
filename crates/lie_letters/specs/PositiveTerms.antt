-- The terms of the commutators of positive roots, read from a table of constants by the numbers of the roots.
use Rattle.std.specs.Prelude.{ℕ, pos, nat_abs, List, map}
use Rattle.lie_const.specs.declared.term.Term.{Term}
use Rattle.lie_const.specs.ConstantTables.{ConstantTable, terms_of}
use Rattle.lie_letters.specs.RingLetters.{CommutatorTerm}

-- a term at a positive root
abbrev pub positive_term : Term → CommutatorTerm
positive_term c = record { i = c.i; j = c.j; root = nat_abs c.root; value = c.value }

-- the terms of the positive roots r and s
abbrev pub positive_terms : ConstantTable → ℕ → ℕ → List CommutatorTerm
positive_terms t r s = map positive_term (terms_of t (pos r) (pos s))
