use Rattle.std.proofs.Common.{take}
use Rattle.std.specs.List.{filter, AllZip}
use Rattle.lie_const.specs.CommutatorTerms.{IsTerm}
use Rattle.lie_const.specs.Filling.{table_in}
use Rattle.lie_const.proofs.TermLemmas.{has_root}
use Rattle.lie_const.proofs.terms.terms_of.Given as goal

abbrev pub invariant-loop-i : goal.invariant-loop-i
invariant-loop-i l = AllZip (IsTerm l.datum (table_in l.values) l.r l.s) (filter (has_root l.datum (table_in l.values) l.r l.s) (take l.i-index l.i-items)) l.terms.items
