use Rattle.std.proofs.Common.{◌≡◌, true, false, rules, sym, subst}
use Rattle.lie_session.specs.Output.{rests}
use Rattle.lie_session.specs.Steps.{RepliedEnd}
use Rattle.lie_session.specs.declared.mode.Mode.TheVariants.{Run}
use Rattle.lie_session.proofs.DemoLemmas.{rested_end, replied_end}
use Rattle.lie_session.proofs.demo.reply_to_end.Goals as goal

pub returns-then-rests : goal.returns-then-rests
returns-then-rests c =
    let over : rests Run c.args.session.now ≡ true = search rules in
    rested_end c.args.lines c.args.session.now c.args.replies.now.items over

pub returns : goal.returns
returns c =
    let live : rests Run c.args.session.now ≡ false = search rules in
    subst (λ after. RepliedEnd c.args.lines c.args.session.now c.end.new.self c.args.replies.now.items after) (sym c.in_ok-push.ensures.items)
    (replied_end c.args.lines c.args.session.now c.end.new.self c.args.replies.now.items c.in_ok-reply.reply live c.in_ok-reply.ensures.replies)
