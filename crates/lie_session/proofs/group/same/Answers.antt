use Rattle.lie_session.proofs.GroupLemmas.{same_tells}
use Rattle.lie_session.proofs.group.same.Goals as goal

pub form-requires : goal.form-requires
form-requires c = c.requires.left c.lawful.ensures.frame.lawful.lawful.loaded c.args.group.now.frame.constants

pub form-requires-2 : goal.form-requires-2
form-requires-2 c = c.requires.right c.lawful.ensures.frame.lawful.lawful.loaded c.args.group.now.frame.constants

pub returns : goal.returns
returns c =
    same_tells c.args.group.now c.in_ok-x.x c.in_ok-y.y c.args.w.now c.args.v.now c.same.result c.same_text.result c.lawful.ensures c.in_ok-x.ensures c.in_ok-y.ensures
    c.same.ensures c.same_text.ensures
