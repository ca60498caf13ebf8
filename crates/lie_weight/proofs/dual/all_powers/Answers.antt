-- One root more.
use Rattle.std.proofs.Common.{◌≡◌, ℕ, suc, ◌+◌, ◌*◌, map, sym, ap, subst, ◌∙◌, arith}
use Rattle.std.proofs.lemmas.List.{map_push}
use Rattle.std.specs.List.{All, range_with_len}
use Rattle.lie_datum.specs.Numbers.{number_at}
use Rattle.lie_const.specs.Modules.{dimension}
use Rattle.lie_weight.specs.Kept.{ArePowers}
use Rattle.lie_weight.specs.Duals.{dual_powers}
use Rattle.lie_weight.proofs.ModuleSums.{all_push}
use Rattle.lie_weight.proofs.DualLemmas.{values_push}
use Rattle.lie_weight.proofs.dual.all_powers.Goals as goal

pub loop-place-preserved : goal.loop-place-preserved
loop-place-preserved c =
    let v = c.args.space.now in
    let p = c.loop-place.place in
    let one : p + 1 ≡ suc p = omega arith in
    let f = λ (i : ℕ). dual_powers v (number_at c.args.positive i) in
    let more = c.in_ok-root_powers.field-0 in
    let xs = c.loop-place.powers.items in
    let value = c.in_ok-root_powers.ensures.value ∙ ap (dual_powers v) c.at.ensures in
    let pushed = ap (map (λ l. l.items)) c.in_ok-push.ensures.items ∙ map_push (λ l. l.items) xs more in (
      values_push f p (p + 1) (map (λ l. l.items) xs) (map (λ l. l.items) c.push.new.self.items) more.items one c.loop-place.invariant.0 value pushed,
      subst (All (ArePowers (dimension v))) (sym pushed) (all_push (ArePowers (dimension v)) (map (λ l. l.items) xs) more.items c.loop-place.invariant.1 c.in_ok-root_powers.ensures.kept),
    )

pub returns-clause-value : goal.returns-clause-value
returns-clause-value c =
    let end : c.loop-place.place ≡ 2 * c.args.positive = let t = c.loop-place-test.false in let e = c.loop-place.auto in omega (arith, t, e) in
    c.loop-place.invariant.0 ∙ ap (λ n. map (λ i. dual_powers c.args.space.now (number_at c.args.positive i)) (range_with_len 0 n)) end
