use Rattle.std.proofs.Common.{rules, pos, length}
use Rattle.std.proofs.lemmas.List.{drop-replicate}
use Rattle.lie_session.proofs.datum.padded.Goals as goal

pub returns : goal.returns
returns c = search (rules, drop-replicate (length c.args.v.now) 8 (pos 0))
