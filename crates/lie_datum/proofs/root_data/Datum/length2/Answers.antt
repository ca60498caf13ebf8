use Rattle.std.proofs.Common.{ap, ◌∙◌}
use Rattle.lie_datum.specs.RootList.{root_of, length2}
use Rattle.lie_datum.proofs.SignedRoots.{root_is}
use Rattle.lie_datum.proofs.NormBound.{norm_kept}
use Rattle.lie_datum.proofs.root_data.Datum.length2.Goals as goal

pub returns-clause-positive : goal.returns-clause-positive
returns-clause-positive c =
    let d = c.args.self.now in
    (norm_kept d c.loaded.ensures (root_of d c.args.r) c.entry.result.now.norm (root_is d c.loaded.ensures c.args.r c.requires) (c.entry.ensures.data.norm ∙ ap (length2 d) c.entry.ensures.root)).0

pub returns-clause-bound : goal.returns-clause-bound
returns-clause-bound c =
    let d = c.args.self.now in
    (norm_kept d c.loaded.ensures (root_of d c.args.r) c.entry.result.now.norm (root_is d c.loaded.ensures c.args.r c.requires) (c.entry.ensures.data.norm ∙ ap (length2 d) c.entry.ensures.root)).1
