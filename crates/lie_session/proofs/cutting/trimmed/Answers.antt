use Rattle.std.proofs.Common.{arith, ◌≡◌, suc, ◌-◌, length}
use Rattle.lie_session.proofs.LineLemmas.{without_cr_yes, without_cr_no, without_cr_none}
use Rattle.lie_session.proofs.cutting.trimmed.Goals as goal
use Rattle.lie_session.proofs.cutting.trimmed.Goals.{else-count-gt0-via-then-count-gt0+else-piece-count-eq13, else-count-gt0-via-else-count-gt0}

pub returns-then-piece-count-eq13 : goal.returns-then-piece-count-eq13
returns-then-piece-count-eq13 c =
    let piece = c.args.piece.now in
    let long : length piece ≡ suc (length piece - 1) = omega (arith, c.if-count-gt0.true) in
    without_cr_yes piece (length piece - 1) long c.if-piece-count-eq13.true

pub returns-else-count-gt0 : goal.returns-else-count-gt0
returns-else-count-gt0 c =
    let piece = c.args.piece.now in
    elim c.else-count-gt0.branch [
      | else-count-gt0-via-then-count-gt0+else-piece-count-eq13 w ↦
          let long : length piece ≡ suc (length piece - 1) = omega (arith, w.if-count-gt0.true) in
          without_cr_no piece (length piece - 1) long w.if-piece-count-eq13.false
      | else-count-gt0-via-else-count-gt0 w ↦ without_cr_none piece (omega (arith, w.if-count-gt0.false))
    ]
