use Rattle.std.proofs.Common.{◌≤◌}
use Rattle.lie_const.specs.Filling.{table_in}
use Rattle.lie_const.specs.TermFilling.{IsWalked}
use Rattle.lie_const.proofs.terms.string_product.Given as goal

abbrev pub invariant-loop : goal.invariant-loop
invariant-loop l = IsWalked l.datum (table_in l.values) l.r l.fn.s l.counter l.product l.last × (l.counter ≤ l.count)
