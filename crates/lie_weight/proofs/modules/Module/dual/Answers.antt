use Rattle.std.proofs.Common.{map, sym, ap, subst, ◌∙◌}
use Rattle.std.specs.List.{All}
use Rattle.lie_datum.specs.Vectors.{minus}
use Rattle.lie_const.specs.Modules.{Module, dimension}
use Rattle.lie_weight.specs.Kept.{ArePowers, IsKeptModule}
use Rattle.lie_weight.specs.Duals.{IsDual}
use Rattle.lie_weight.proofs.DualLemmas.{dual_filled, dual_kept, dual_is}
use Rattle.lie_weight.proofs.modules.Module.dual.Goals as goal

pub all_powers-requires-clause-positive : goal.all_powers-requires-clause-positive
all_powers-requires-clause-positive c = c.m-positive.ensures.value ∙ sym c.requires.positive

pub invariant_of-result : goal.invariant_of-result
invariant_of-result c =
    let v = c.args.a.now in
    let m = c.m-positive.result in
    let p = c.m-positive.ensures.value ∙ sym c.requires.positive in
    let Mss = map (λ l. l.items) c.in_ok-powers.powers.items in
    let is = dual_filled v m c.in_ok-weights.weights.items Mss p (c.in_ok-weights.ensures ∙ ap (map minus) c.weights.ensures) c.in_ok-powers.ensures.value in
    subst IsKeptModule (sym is) (dual_kept v c.kept.ensures (subst (λ (t : Module). All (ArePowers (dimension v)) t.powers) is c.in_ok-powers.ensures.kept))

pub returns : goal.returns
returns c =
    let v = c.args.a.now in
    let m = c.m-positive.result in
    let p = c.m-positive.ensures.value ∙ sym c.requires.positive in
    let Mss = map (λ l. l.items) c.in_ok-powers.powers.items in
    let is = dual_filled v m c.in_ok-weights.weights.items Mss p (c.in_ok-weights.ensures ∙ ap (map minus) c.weights.ensures) c.in_ok-powers.ensures.value in
    subst (IsDual c.args.datum.now v) (sym is) (dual_is c.args.datum.now v c.requires)
