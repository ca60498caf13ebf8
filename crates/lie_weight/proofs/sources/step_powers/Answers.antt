use Rattle.std.proofs.Common.{◌+◌, length, arith}
use Rattle.lie_datum.proofs.ListingLemmas.{ok_map}
use Rattle.lie_weight.specs.Completion.{IsTrimmed, KeepsAll, step_powers}
use Rattle.lie_weight.proofs.DraftLemmas.{AreFirst, first_none, first_push, first_keeps}
use Rattle.lie_weight.proofs.StepLemmas.{step_square, step_rest}
use Rattle.lie_weight.proofs.sources.step_powers.Goals as goal
use Rattle.lie_weight.proofs.sources.step_powers.Goals.{In_ok-push}

first : (c : In_ok-push) → AreFirst (length c.args.weights.now) (step_powers c.args.datum.now c.args.weights.now c.args.root) (0 + 1) c.push.new.self.items
first c =
    let d = c.args.datum.now in
    let ws = c.args.weights.now in
    let r = c.args.root in
    let M = c.in_ok-step_matrix.field-0 in
    let value = c.in_ok-step_matrix.ensures.value in
    first_push (length ws) (step_powers d ws r) 0 c.new-list.result.items c.push.new.self.items M (first_none (length ws) (step_powers d ws r) c.new-list.result.items c.new-list.ensures.items) value (step_square d ws r M value c.in_ok-step_matrix.ensures.fit) c.in_ok-push.ensures.items

pub kept-requires-clause-squares : goal.kept-requires-clause-squares
kept-requires-clause-squares c = (first (goal.at.kept-requires-clause-squares c).In_ok-push).squares

pub returns : goal.returns
returns c =
    let d = c.args.datum.now in
    let ws = c.args.weights.now in
    let r = c.args.root in
    let a = first (goal.at.returns c).In_ok-push in
    ok_map (λ l. IsTrimmed (length ws) c.push.new.self.items l.items) (λ l. KeepsAll (length ws) (step_powers d ws r) l.items)
    (λ l h. first_keeps (length ws) (step_powers d ws r) (0 + 1) c.push.new.self.items l.items (omega arith) a (step_rest d ws r) h)
    c.kept.result c.kept.ensures
