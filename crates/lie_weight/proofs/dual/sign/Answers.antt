use Rattle.std.proofs.Common.{sym}
use Rattle.lie_weight.proofs.DualLemmas.{sign_even, sign_odd}
use Rattle.lie_weight.proofs.dual.sign.Goals as goal

pub returns-then-k-eq0-clause-value : goal.returns-then-k-eq0-clause-value
returns-then-k-eq0-clause-value c = sym (sign_even c.args.k c.if-k-eq0.true)

pub returns-else-k-eq0-clause-value : goal.returns-else-k-eq0-clause-value
returns-else-k-eq0-clause-value c = sym (sign_odd c.args.k c.if-k-eq0.false)
