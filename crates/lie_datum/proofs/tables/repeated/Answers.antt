use Rattle.std.proofs.Common.{get_or, [], sym, ◌∙◌, arith}
use Rattle.std.specs.Cmp.Rules.{signed_items}
use Rattle.lie_datum.proofs.TableFilling.{row_goes}
use Rattle.lie_datum.proofs.tables.repeated.Goals as goal

pub returns-then-eq : goal.returns-then-eq
returns-then-eq c =
    let vs = c.args.vectors.now in
    let low = c.loop-y.auto.y in
    let same = (signed_items (get_or vs c.loop-x.x []) (get_or vs c.loop-y.y [])).0 (sym c.eq.ensures ∙ c.if-eq.true) in
    (record { 0 = omega arith; 1 = omega arith; 2 = same }, c.loop-y.invariant)

pub loop-y-preserved : goal.loop-y-preserved
loop-y-preserved c =
    let vs = c.args.vectors.now in
    row_goes vs c.loop-x.x c.loop-y.y c.loop-y.invariant
    (λ e. (let t = c.eq.ensures ∙ (signed_items (get_or vs c.loop-x.x []) (get_or vs c.loop-y.y [])).1 e in let f = c.if-eq.false in cc))
