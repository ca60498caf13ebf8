use Rattle.lie_weight.proofs.ListingTests.{zero_test}
use Rattle.lie_weight.proofs.listing.is_zero.Goals as goal

pub returns : goal.returns
returns c = zero_test c.args.weight.now c.told-weight c.eq.result c.eq.ensures
