use Rattle.lie_session.proofs.GroupLemmas.{text_of}
use Rattle.lie_session.proofs.group.multiplied.Goals as goal

pub form-requires : goal.form-requires
form-requires c = c.requires.left c.lawful.ensures.lawful.loaded c.args.frame.now.constants

pub form-requires-2 : goal.form-requires-2
form-requires-2 c = c.requires.right c.lawful.ensures.lawful.loaded c.args.frame.now.constants

pub returns : goal.returns
returns c =
    text_of c.args.frame.now c.in_ok-product.product _ c.form_text.result
    (c.in_ok-product.ensures.product.times c.args.w.now c.args.v.now c.in_ok-w.ensures c.in_ok-v.ensures) c.form_text.ensures
