use Rattle.lie_session.proofs.ChangeLemmas.{replies_if, changes_if}
use Rattle.lie_session.proofs.session.Session.line.Goals as goal

pub returns-else-is_err-clause-replies : goal.returns-else-is_err-clause-replies
returns-else-is_err-clause-replies c = replies_if c.args.self.now c.args.number c.args.line.now _ c.read-result.result c.read-result.ensures

pub returns-else-is_err-clause-changes : goal.returns-else-is_err-clause-changes
returns-else-is_err-clause-changes c =
    changes_if c.args.self.now c.args.number c.args.line.now _ c.read-result.result (replies_if c.args.self.now c.args.number c.args.line.now _ c.read-result.result c.read-result.ensures)
