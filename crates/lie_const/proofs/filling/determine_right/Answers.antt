use Rattle.std.proofs.Common.{◌*ℤ◌, ap, ◌∙◌, lit<}
use Rattle.lie_const.specs.StructureConstants.{at_part}
use Rattle.lie_const.specs.Filling.{table_in}
use Rattle.lie_const.proofs.Kept.{product_fits, product_kept, norm_bound, norm_kept}
use Rattle.lie_const.proofs.FillLemmas.{right_as}
use Rattle.lie_const.proofs.filling.determine_right.Goals as goal

pub overflow_mul-e : goal.overflow_mul-e
overflow_mul-e c = product_fits c.n.result c.length2.result 128 2160 c.n.ensures.bound (norm_bound c.length2.result c.length2.ensures.positive c.length2.ensures.bound) (lit< tt) (lit< tt) (lit< tt)

pub returns : goal.returns
returns c =
    let d = c.args.datum.now in
    let n = table_in c.args.values.now in
    let value = product_kept c.n.result c.length2.result 128 2160 c.n.ensures.bound (norm_bound c.length2.result c.length2.ensures.positive c.length2.ensures.bound) (lit< tt) (lit< tt) (lit< tt)
    ∙ ap (λ t. t *ℤ c.length2.result) c.n.ensures.value ∙ ap (λ t. n c.args.r c.args.s *ℤ t) c.length2.ensures.value in
    c.determine.ensures (at_part c.args.k c.args.r 1) c.requires.filled
    (right_as d n c.args.r c.args.s c.args.k _ _ _ c.opposite.ensures (norm_kept c.length2-2.result c.length2-2.ensures.positive c.length2-2.ensures.bound ∙ c.length2-2.ensures.value) value c.requires.special)
