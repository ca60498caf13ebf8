use Rattle.std.proofs.Common.{◌-◌, Some, set, ap, ◌∙◌}
use Rattle.lie_identities.specs.CoverLines.{CoverLines}
use Rattle.lie_identities.proofs.LineLemmas.{lines-put}
use Rattle.lie_identities.proofs.cover_lines.CoverSet.set.Goals as goal

pub returns : goal.returns
returns c = lines-put c.self.inside.kept (c.args.axis - 1) c.args.c ∙ ap (λ (l : CoverLines). set l (c.args.axis - 1) (Some c.args.c.items)) c.self.view_is
