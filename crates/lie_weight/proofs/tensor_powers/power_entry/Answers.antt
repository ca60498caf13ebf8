use Rattle.std.proofs.Common.{arith}
use Rattle.lie_weight.proofs.TensorLemmas.{one_entry, off_entry, past_entry}
use Rattle.lie_weight.proofs.tensor_powers.power_entry.Goals as goal

pub returns-then-row-col-clause-value : goal.returns-then-row-col-clause-value
returns-then-row-col-clause-value c = one_entry c.args.space.now c.args.root c.args.k c.args.row c.args.col c.requires.row c.requires.col (let t = c.if-k-eq0.true in omega (arith, t)) (let t = c.if-row-col.true in omega (arith, t))

pub returns-else-row-col-clause-value : goal.returns-else-row-col-clause-value
returns-else-row-col-clause-value c = off_entry c.args.space.now c.args.root c.args.k c.args.row c.args.col c.requires.row c.requires.col (let t = c.if-k-eq0.true in omega (arith, t)) c.if-row-col.false

pub returns-then-k-top-clause-value : goal.returns-then-k-top-clause-value
returns-then-k-top-clause-value c = past_entry c.args.space.now c.args.root c.args.k c.args.row c.args.col c.requires.row c.requires.col (let t = c.if-k-top.true in let e = c.top.ensures.value in omega (arith, t, e))
