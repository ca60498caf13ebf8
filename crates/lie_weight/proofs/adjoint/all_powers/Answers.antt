-- One root more.
use Rattle.std.proofs.Common.{map, ap, subst, ◌∙◌}
use Rattle.std.proofs.lemmas.List.{map_push}
use Rattle.lie_datum.specs.Numbers.{number_at}
use Rattle.lie_const.specs.ConstantTables.{value_of}
use Rattle.lie_weight.specs.AdjointParts.{AreDivided}
use Rattle.lie_weight.proofs.MatrixLists.{all-push}
use Rattle.lie_weight.proofs.adjoint.all_powers.Goals as goal

pub loop-place-preserved : goal.loop-place-preserved
loop-place-preserved c =
    let d = c.args.datum.now in
    let n = value_of c.args.consts.now in
    let more = c.in_ok-divided_powers.field-0 in
    let xs = c.loop-place.powers.items in
    let number = c.at.ensures ∙ ap (λ m. number_at m c.loop-place.place) c.m-m.ensures.value in
    all-push d n c.loop-place.place (map (λ w. w.items) xs) (map (λ w. w.items) c.push.new.self.items) more.items c.loop-place.invariant
    (subst (λ r. AreDivided d n r more.items) number c.in_ok-divided_powers.ensures)
    (ap (map (λ w. w.items)) c.in_ok-push.ensures.items ∙ map_push (λ w. w.items) xs more)
