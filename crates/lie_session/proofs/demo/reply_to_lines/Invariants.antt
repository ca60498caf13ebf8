use Rattle.std.proofs.Common.{◌≡◌, ◌≤◌, ℕ, ◌+◌, List, ◌++◌, length}
use Rattle.lie_session.specs.Lines.{lines_of}
use Rattle.lie_session.specs.Output.{RepliesTo}
use Rattle.lie_session.specs.State.{fresh}
use Rattle.lie_session.specs.declared.mode.Mode.TheVariants.{Run}
use Rattle.lie_session.proofs.demo.reply_to_lines.Given as goal

abbrev pub invariant-lines : goal.invariant-lines
invariant-lines l =
    (seen : List (List ℕ)) × (lines_of l.fn.script ≡ seen ++ lines_of l.rest) × (l.lines ≡ length seen)
    × RepliesTo Run fresh 0 seen l.replies.items l.session × (l.lines + length l.rest ≤ length l.fn.script)

abbrev pub decreases-lines : goal.decreases-lines
decreases-lines l = length l.rest
