use Rattle.test_rows.proofs.LoadingLemmas.{as_many}
use Rattle.test_rows.proofs.loading.constants_of.Goals as goal

pub returns : goal.returns
returns c = as_many c.args.datum.now c.load.result c.load.ensures
