use Rattle.std.specs.List.{All}
use Rattle.lie_datum.specs.RootList.{IsNumber}
use Rattle.test_tables.proofs.elements.all_numbered.Given as goal

abbrev pub invariant-loop-k : goal.invariant-loop-k
invariant-loop-k l = All (IsNumber l.datum) l.roots.items
