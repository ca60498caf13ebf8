use Rattle.std.proofs.Common.{arith, rules, ◌≡◌}
use Rattle.lie_datum.specs.RootDatum.{rank}
use Rattle.lie_datum.specs.RootList.{IsLoaded}
use Rattle.lie_script.proofs.kinds.simple_count.Goals as goal

pub returns-clause-bound : goal.returns-clause-bound
returns-clause-bound c =
    let loaded : IsLoaded c.args.datum.now = search rules in
    let count : c.l.result ≡ rank c.args.datum.now.base = search rules in
    let input = loaded.axioms.input in
    let most = input.dim.1 in
    let few = input.rank in
    omega (arith, count, most, few)
