use Rattle.std.proofs.Common.{◌≡◌, ◌+◌, ◌++◌, sym, ap, ◌∙◌, arith}
use Rattle.std.specs.List.{flat_map, range_with_len}
use Rattle.lie_identities.specs.StepLists.{steps_in}
use Rattle.lie_identities.proofs.StepWalks.{flat-next, small-next}
use Rattle.lie_identities.proofs.steps.steps_of_column.Goals as goal

pub loop-k-preserved : goal.loop-k-preserved
loop-k-preserved c =
    let v = c.args.«module».now in
    let f = steps_in v c.args.r c.args.col in
    let k = c.loop-k.k in
    record {
      list =
          c.in_ok-push_steps.ensures.value
          ∙ ap (λ ys. ys ++ f (k + 1)) c.loop-k.invariant.list
          ∙ ap (λ j. flat_map f (range_with_len 1 k) ++ f j) (let e : k + 1 ≡ 1 + k = omega arith in e)
          ∙ sym (flat-next f 1 k);
      small = small-next v c.args.r c.args.col k c.loop-k.invariant.small c.in_ok-push_steps.ensures.small;
    }
