use Rattle.std.proofs.Common.{length, ap, arith}
use Rattle.lie_const.specs.Signs.{eta_of}
use Rattle.lie_weight.specs.Completion.{source_powers}
use Rattle.lie_weight.proofs.StepLemmas.{filled_small}
use Rattle.lie_weight.proofs.SimpleLemmas.{made_from, fault_from}
use Rattle.lie_weight.proofs.along.made.Goals as goal

pub all_factors-requires : goal.all_factors-requires
all_factors-requires c = filled_small c.args.datum.now c.args.weights.items c.args.source.now c.in_ok-space.space c.in_ok-space.ensures.weights c.requires.source c.in_ok-space.ensures.filled

pub complete-requires-clause-some : goal.complete-requires-clause-some
complete-requires-clause-some c = let e = ap length c.in_ok-space.ensures.weights in let s = c.requires.weights.some in omega (arith, e, s)

pub complete-requires-clause-draft : goal.complete-requires-clause-draft
complete-requires-clause-draft c = c.in_ok-space.ensures.filled.draft

pub returns-in-Ok-clause-made : goal.returns-in-Ok-clause-made
returns-in-Ok-clause-made c =
    let d = c.args.datum.now in
    let ws = c.args.weights.items in
    let e = c.in-Ok.ensures in
    made_from d (eta_of c.args.signs.now) (source_powers d ws c.args.source.now) ws c.in_ok-space.space c.complete.new.space c.in_ok-space.ensures.weights c.in_ok-space.ensures.filled e.extends e.completed e.small

pub returns-in-Err-clause-fault : goal.returns-in-Err-clause-fault
returns-in-Err-clause-fault c =
    let d = c.args.datum.now in
    let ws = c.args.weights.items in
    let e = c.in-Err.ensures in
    fault_from d (eta_of c.args.signs.now) (source_powers d ws c.args.source.now) ws c.in_ok-space.space c.complete.new.space c.in-Err.fault c.in_ok-space.ensures.weights c.in_ok-space.ensures.filled e.extends e.fault
