use Rattle.std.proofs.Common.{◌≡◌, ℕ, ◌<◌, get_or}
use Rattle.lie_const.specs.declared.term.Term.{Term}
use Rattle.lie_weight.proofs.adjoint.term.Given as goal

abbrev pub invariant-loop-t : goal.invariant-loop-t
invariant-loop-t l = (x : ℕ) (t : Term) → x < l.t-index → t ≡ get_or l.terms x t → t.i ≡ l.k → t.j ≡ 1 → ⊥
