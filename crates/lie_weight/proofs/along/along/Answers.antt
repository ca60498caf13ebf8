use Rattle.lie_const.specs.Signs.{eta_of}
use Rattle.lie_weight.specs.Along.{IsMadeAlong, IsMadeFrom, IsFaultAlong, IsFaultFrom}
use Rattle.lie_weight.specs.Completion.{source_powers}
use Rattle.lie_weight.specs.declared.sources.Source.TheVariants.{Steps}
use Rattle.lie_weight.proofs.SimpleLemmas.{made_along, fault_along, err_map}
use Rattle.lie_datum.proofs.ListingLemmas.{ok_map}
use Rattle.lie_weight.proofs.along.along.Goals as goal

pub returns-clause-made : goal.returns-clause-made
returns-clause-made c =
    let d = c.args.datum.now in
    let eta = eta_of c.args.signs.now in
    let ws = c.args.weights.items in
    ok_map (IsMadeFrom d eta (source_powers d ws Steps) ws) (IsMadeAlong d eta ws) (made_along d eta ws) c.made.result c.made.ensures.made

pub returns-clause-fault : goal.returns-clause-fault
returns-clause-fault c =
    let d = c.args.datum.now in
    let eta = eta_of c.args.signs.now in
    let ws = c.args.weights.items in
    err_map (IsFaultFrom d eta (source_powers d ws Steps) ws) (IsFaultAlong d eta ws) (fault_along d eta ws) c.made.result c.made.ensures.fault
