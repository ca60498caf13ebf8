use Rattle.std.proofs.Common.{rules}
use Rattle.std.proofs.lemmas.Int.{to_z-of_z}
use Rattle.std.specs.Int.RustNames.{FitsSigned}
use mir.Syntax.{w128}
use Rattle.lie_const.specs.StructureConstants.{at_part}
use Rattle.lie_const.specs.Filling.{table_in}
use Rattle.lie_const.proofs.FillLemmas.{forced_as}
use Rattle.lie_const.proofs.filling.determine_own.Goals as goal

pub returns : goal.returns
returns c =
    let a : FitsSigned w128 c.equation-a.result.0 = search rules in
    let e : FitsSigned w128 c.equation-a.result.1 = search rules in
    c.determine.ensures (at_part c.args.k c.args.r 0) c.requires.filled
    (forced_as c.args.datum.now (table_in c.args.values.now) (at_part c.args.k c.args.r 0) c.args.r c.args.s c.equation-a.result.0 c.equation-a.result.1 _ _ (to_z-of_z w128 c.equation-a.result.0 a) (to_z-of_z w128 c.equation-a.result.1 e) c.equation-a.ensures.forced)
