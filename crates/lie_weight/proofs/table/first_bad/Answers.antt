use Rattle.std.proofs.Common.{arith}
use Rattle.lie_weight.specs.Tables.{IsBadEntry}
use Rattle.lie_weight.proofs.TableLemmas.{all_good}
use Rattle.lie_weight.proofs.WorkLemmas.{below_more}
use Rattle.lie_weight.proofs.table.first_bad.Goals as goal

pub loop-n-preserved : goal.loop-n-preserved
loop-n-preserved c =
    let d = c.args.datum.now in
    let ws = c.args.weights.now in
    let es = c.args.entries.now in
    below_more (λ m. ¬ IsBadEntry d ws es m) c.loop-n.n c.loop-n.invariant (λ b. (let t = c.is_bad.ensures.1 b in let f = c.if-is_bad.false in absurd (cc)))

pub returns-clause-here : goal.returns-clause-here
returns-clause-here c = all_good c.args.datum.now c.args.weights.now c.args.entries.now c.loop-n.n (let t = c.loop-n-test.false in let e = c.loop-n.auto.n-end in omega (arith, t, e)) c.loop-n.invariant
