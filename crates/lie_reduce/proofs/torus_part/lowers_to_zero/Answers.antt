use Rattle.std.proofs.Common.{subst}
use Rattle.lie_orbit.specs.Lowering.{Lowers}
use Rattle.lie_identities.specs.Covers.{less_axis}
use Rattle.lie_identities.proofs.CoverLemmas.{less_long, to_zero}
use Rattle.lie_reduce.proofs.torus_part.lowers_to_zero.Goals as goal

pub returns : goal.returns
returns c =
    let d = c.args.datum.now in
    let x = less_axis c.args.times c.args.weight.now c.args.axis in
    to_zero d c.loaded.ensures x c.lower.result c.eq.result (less_long c.args.times c.args.weight.now c.args.axis c.told-weight) (subst (λ t. Lowers d t c.lower.result) c.less_axis.ensures.value c.lower.ensures.lowers) c.eq.ensures
