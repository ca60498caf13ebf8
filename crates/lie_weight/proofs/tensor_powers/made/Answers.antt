use Rattle.std.proofs.Common.{◌<◌, ◌*◌, ap₂, subst}
use Rattle.lie_weight.proofs.TensorLemmas.{huge_at}
use Rattle.lie_weight.proofs.tensor_powers.made.Goals as goal

pub returns-clause-wide : goal.returns-clause-wide
returns-clause-wide c e =
    let h = c.build.ensures.wide e in
    let n = ap₂ (λ x y. x * y) c.dim.ensures.value c.dim-2.ensures.value in
    huge_at c.args.first.now c.args.second.now c.args.root c.args.power h.row h.col (subst (λ t. h.row < t) n h.row_within) (subst (λ t. h.col < t) n h.col_within) h.here
