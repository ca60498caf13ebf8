use Rattle.lie_const.specs.Filling.{table_in}
use Rattle.lie_const.specs.TermFilling.{AreListed}
use Rattle.lie_const.proofs.terms.all_terms.Given as goal

abbrev pub invariant-loop-at : goal.invariant-loop-at
invariant-loop-at l = AreListed l.datum (table_in l.values) l.values.positive l.at l.lists
