-- One root more, and the whole sum.
use Rattle.std.proofs.Common.{◌≡◌, suc, ◌+◌, ◌*◌, ◌++◌, map, sym, ap, subst, ◌∙◌, arith}
use Rattle.std.proofs.lemmas.List.{map_push}
use Rattle.std.specs.List.{All}
use Rattle.lie_const.specs.Modules.{dimension, Module}
use Rattle.lie_weight.specs.Kept.{ArePowers, IsKeptModule}
use Rattle.lie_weight.specs.Sums.{IsSum}
use Rattle.lie_weight.specs.CarrierParts.{sum_powers}
use Rattle.lie_weight.proofs.ModuleSums.{roots_push, all_push, sum_filled, sum_kept, sum_is}
use Rattle.lie_weight.proofs.sums.sum.Goals as goal

pub loop-place-preserved : goal.loop-place-preserved
loop-place-preserved c =
    let v = c.args.a.now in
    let w = c.args.b.now in
    let p = c.loop-place.place in
    let one : p + 1 ≡ suc p = omega arith in
    let more = c.in_ok-root_powers.field-0 in
    let xs = c.loop-place.powers.items in
    let value = c.in_ok-root_powers.ensures.value ∙ ap (sum_powers v w) c.at-r.ensures in
    let pushed = ap (map (λ l. l.items)) c.in_ok-push.ensures.items ∙ map_push (λ l. l.items) xs more in (
      roots_push v w c.m-positive.result p (p + 1) (map (λ l. l.items) xs) (map (λ l. l.items) c.push.new.self.items) more.items one c.loop-place.invariant.0 value pushed,
      subst (All (ArePowers (dimension v + dimension w))) (sym pushed) (all_push (ArePowers (dimension v + dimension w)) (map (λ l. l.items) xs) more.items c.loop-place.invariant.1 c.in_ok-root_powers.ensures.kept),
    )

pub invariant_of-result : goal.invariant_of-result
invariant_of-result c =
    let v = c.args.a.now in
    let w = c.args.b.now in
    let d = c.args.datum.now in
    let m = c.m-positive.result in
    let p = c.m-positive.ensures.value ∙ sym c.requires.a.positive in
    let ws = c.in_ok-extend_from_slice.ensures.items ∙ ap (λ t. c.in_ok-weights.weights.items ++ t) c.weights-2.ensures ∙ ap (λ t. t ++ w.weights) (c.in_ok-weights.ensures.items ∙ c.weights.ensures) in
    let end : c.loop-place.place ≡ 2 * m = let t = c.loop-place-test.false in let e = c.loop-place.auto in omega (arith, t, e) in
    let Mss = map (λ l. l.items) c.loop-place.powers.items in
    let is = sum_filled v w m c.extend_from_slice.new.self.items Mss c.loop-place.place p ws c.loop-place.invariant.0 end in
    let kept = subst (λ (t : Module). All (ArePowers (dimension v + dimension w)) t.powers) is c.loop-place.invariant.1 in
    subst IsKeptModule (sym is) (sum_kept d v w c.requires.a c.requires.b (let b = c.m-positive.ensures.bound in let e = c.m-positive.ensures.value in omega (arith, b, e)) c.requires.few c.kept.ensures.light c.kept-2.ensures.light kept)

pub returns : goal.returns
returns c =
    let v = c.args.a.now in
    let w = c.args.b.now in
    let d = c.args.datum.now in
    let m = c.m-positive.result in
    let p = c.m-positive.ensures.value ∙ sym c.requires.a.positive in
    let ws = c.in_ok-extend_from_slice.ensures.items ∙ ap (λ t. c.in_ok-weights.weights.items ++ t) c.weights-2.ensures ∙ ap (λ t. t ++ w.weights) (c.in_ok-weights.ensures.items ∙ c.weights.ensures) in
    let end : c.loop-place.place ≡ 2 * m = let t = c.loop-place-test.false in let e = c.loop-place.auto in omega (arith, t, e) in
    let Mss = map (λ l. l.items) c.loop-place.powers.items in
    let is = sum_filled v w m c.extend_from_slice.new.self.items Mss c.loop-place.place p ws c.loop-place.invariant.0 end in
    subst (IsSum d v w) (sym is) (sum_is d v w c.requires.a c.requires.b)
