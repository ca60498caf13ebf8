use Rattle.std.proofs.Common.{◌+◌, ◌<◌, ◌≤◌, length, take, ap, subst}
use Rattle.lie_script.proofs.LinesLemmas.{fed-line, fed-part}
use Rattle.lie_script.proofs.lines.Lines.feed.Goals as goal

pub returns-then-end-piece : goal.returns-then-end-piece
returns-then-end-piece c =
    fed-line c.args.self.now c.args.piece.now _ c.keep.new.self _ (ap (λ k. take k c.args.piece.now) c.place_of-end.ensures.place) (ap (λ k. k + 1) c.place_of-end.ensures.place)
    c.keep.ensures (subst (λ k. k < length c.args.piece.now) c.place_of-end.ensures.place c.if-end-piece.true)

pub returns-else-end-piece : goal.returns-else-end-piece
returns-else-end-piece c =
    fed-part c.args.self.now c.args.piece.now _ c.keep.new.self (ap (λ k. take k c.args.piece.now) c.place_of-end.ensures.place)
    c.keep.ensures (subst (λ k. length c.args.piece.now ≤ k) c.place_of-end.ensures.place c.if-end-piece.false)
