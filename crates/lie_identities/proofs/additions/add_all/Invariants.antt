use Rattle.std.proofs.Common.{◌≡◌, ◌<◌, ◌+◌, ◌^◌, ℕ, drop}
use Rattle.lie_ring.specs.Matrices.{entry}
use Rattle.lie_poly.specs.Polynomials.{laurent, plus, size}
use Rattle.lie_identities.specs.Columns.{IsColumn}
use Rattle.lie_identities.specs.Additions.{added_in, size_in, AreAdditions}
use Rattle.lie_identities.proofs.additions.add_all.Given as goal

abbrev pub invariant-loop-addition : goal.invariant-loop-addition
invariant-loop-addition l = record {
  column : IsColumn l.fn.column.height l.column;
  rest : AreAdditions laurent l.fn.column.height (drop l.addition-index l.additions);
  small : (a : ℕ) → a < l.fn.column.height → size (entry laurent.zero l.column a 0) + size_in laurent a (drop l.addition-index l.additions) < 2 ^ 126;
  value : (a : ℕ) → a < l.fn.column.height → plus (entry laurent.zero l.column a 0) (added_in laurent a (drop l.addition-index l.additions)) ≡ plus (entry laurent.zero l.fn.column a 0) (added_in laurent a l.additions);
}
