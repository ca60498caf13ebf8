use Rattle.lie_mat.proofs.KeptLemmas.{head-has, not_greater, at_most, none-kept, next-kept, few-rows}
use Rattle.lie_mat.proofs.mats.Mat.next_kept.Goals as goal

pub returns-in-None-clause-next : goal.returns-in-None-clause-next
returns-in-None-clause-next g c =
    none-kept g.R.Ring.zero c.self.inside.height c.self.inside.columns.items c.args.self.now c.self.view_is c.self.invariant
    c.args.col c.requires.col c.index.result.now c.index.ensures c.args.from
    (λ k a. (c.range.ensures.in_range tt).5 c.in-None.ensures.steps.0 k (at_most c.args.from k a, tt))

pub returns-in-Some-clause-next : goal.returns-in-Some-clause-next
returns-in-Some-clause-next g c =
    let row = c.in-Some.row.now in
    let e = c.in-Some.e.now in
    let parts = c.range.ensures.in_range tt in
    let here = head-has _ c.range.result (row, e) c.next.new.self c.in-Some.ensures.steps parts.1 in
    next-kept g.R.Ring.zero c.self.inside.height c.self.inside.columns.items c.args.self.now c.self.view_is c.self.invariant
    c.args.col c.requires.col c.index.result.now c.index.ensures c.args.from row e (not_greater c.args.from row here.0.0) here.1
    (λ k a some. not_greater row k (head-has _ c.range.result (row, e) c.next.new.self c.in-Some.ensures.steps (parts.2 k (at_most c.args.from k a, tt) some)))

pub returns-in-Some-clause-few : goal.returns-in-Some-clause-few
returns-in-Some-clause-few g c =
    few-rows g.R.Ring.zero c.self.inside.height c.self.inside.columns.items c.args.self.now c.self.view_is c.self.invariant
    c.args.col c.requires.col c.index.result.now c.index.ensures c.args.from c.in-Some.row.now (returns-in-Some-clause-next g c).within
