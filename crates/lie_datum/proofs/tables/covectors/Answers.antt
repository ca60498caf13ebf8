use Rattle.std.proofs.Common.{arith, get_or, []}
use Rattle.lie_datum.specs.RootDatum.{Root}
use Rattle.lie_datum.proofs.TableFilling.{root_rank}
use Rattle.lie_datum.proofs.tables.covectors.Goals as goal

pub covector-requires-clause-rank : goal.covector-requires-clause-rank
covector-requires-clause-rank c =
    let none : Root = record { coeffs = []; co_coeffs = [] } in
    let r = get_or c.args.roots.now c.loop-r.r-index none in
    root_rank c.args.base.now r (c.requires c.loop-r.r-index none (omega arith)).0
