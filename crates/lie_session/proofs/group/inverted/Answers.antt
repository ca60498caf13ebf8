use Rattle.lie_session.proofs.GroupLemmas.{text_of}
use Rattle.lie_session.proofs.group.inverted.Goals as goal

pub returns : goal.returns
returns c =
    text_of c.args.frame.now c.in_ok-inverse.inverse _ c.form_text.result (c.in_ok-inverse.ensures.inverse.inverse c.args.w.now c.in_ok-w.ensures) c.form_text.ensures
