use Rattle.std.proofs.Common.{Err}
use Rattle.lie_const.specs.ConstantTables.{LoadsConstants}
use Rattle.lie_const.proofs.FillLemmas.{filled_pair, filled_skip, ok_more}
use Rattle.lie_const.proofs.filling.determine_first.Goals as goal

pub returns-in-Some : goal.returns-in-Some
returns-in-Some c = ok_more (λ e. LoadsConstants c.args.datum.now (Err e)) c.determine_pair.result (filled_pair c.args.datum.now c.loaded.ensures c.determine_pair.new.values c.args.k c.args.r) c.determine_pair.ensures

pub returns-in-None : goal.returns-in-None
returns-in-None c = filled_skip c.args.datum.now c.loaded.ensures c.args.values.now c.args.k c.args.r c.in-None.ensures c.requires.filled
