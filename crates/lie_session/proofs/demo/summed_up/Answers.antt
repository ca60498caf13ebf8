use Rattle.std.proofs.Common.{◌≡◌, length, ap, subst, ◌∙◌}
use Rattle.lie_gen.specs.Demonstration.{demonstration}
use Rattle.lie_session.specs.Lines.{lines_of}
use Rattle.lie_session.specs.Output.{AreReplies}
use Rattle.lie_session.specs.Summary.{summary}
use Rattle.lie_session.specs.declared.mode.Mode.TheVariants.{Run}
use Rattle.lie_session.proofs.demo.summed_up.Goals as goal

pub returns : goal.returns
returns c =
    let n = c.args.n in
    let items = c.in_ok-replies.replies.list.items in
    let replied = c.in_ok-replies.ensures in
    let script : c.deref.result.now ≡ demonstration n = c.deref.ensures.value ∙ c.in_ok-script.ensures in (
      items,
      subst (λ z. AreReplies Run z items) script replied.1,
      c.in_ok-text.ensures ∙ ap (λ z. summary n z c.deref-2.result.now) (replied.0 ∙ ap (λ z. length (lines_of z)) script)
          ∙ ap (λ z. summary n (length (lines_of (demonstration n))) z) c.deref-2.ensures.value,
      replied.2,
    )
