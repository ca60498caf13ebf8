use Rattle.std.proofs.Common.{rules, arith, ◌≡◌, ℕ, List, [], ◌∷◌, ◌++◌, length, refl, sym, ap, ◌∙◌, subst, append_assoc, append-nil, length-append}
use Rattle.lie_session.specs.Lines.{lines_of}
use Rattle.lie_session.specs.Output.{RepliesTo}
use Rattle.lie_session.specs.State.{fresh}
use Rattle.lie_session.specs.declared.mode.Mode.TheVariants.{Run}
use Rattle.lie_session.proofs.FirstLine.{empty}
use Rattle.lie_session.proofs.demo.reply_to_lines.Goals as goal

pub lines-init : goal.lines-init
lines-init c = ([], refl, refl, (c.requires.none, c.requires.fresh), omega arith)

pub lines-preserved : goal.lines-preserved
lines-preserved c =
    let i = c.lines.invariant in
    let first = c.first_line.ensures in
    let line = c.first_line.result.0.now in
    let behind = c.first_line.result.1.now in (
      i.0 ++ line ∷ [],
      i.1 ∙ ap (λ z. i.0 ++ z) first.lines ∙ sym (append_assoc i.0 (line ∷ []) (lines_of behind)),
      omega (arith, i.2, length-append i.0 (line ∷ [])),
      c.in_ok-reply_to_line.ensures i.0 (omega (arith, i.2)) i.3,
      omega (arith, i.4, first.shorter),
    )

pub returns : goal.returns
returns c =
    let i = c.lines.invariant in
    let none : c.lines.rest.now ≡ [] = empty c.lines.rest.now (search rules) in
    let all : lines_of c.args.script.now ≡ i.0 = i.1 ∙ ap (λ z. i.0 ++ lines_of z) none ∙ append-nil i.0 in
    (i.2 ∙ ap length (sym all), subst (λ (z : List (List ℕ)). RepliesTo Run fresh 0 z c.lines.replies.items c.lines.session) (sym all) i.3)
