-- One matrix more, and that they are few.
use Rattle.std.proofs.Common.{◌≡◌, ℕ, suc, ◌+◌, length, map, sym, ap, subst, ◌∙◌, arith}
use Rattle.std.specs.List.{All, range_with_len}
use Rattle.std.proofs.lemmas.List.FromFn.{length-map-range_with_len}
use Rattle.lie_const.specs.Modules.{dimension, top}
use Rattle.lie_weight.specs.Kept.{IsSquare}
use Rattle.lie_weight.specs.Duals.{dual_power}
use Rattle.lie_weight.proofs.ModuleSums.{all_push}
use Rattle.lie_weight.proofs.KeptLemmas.{top_few}
use Rattle.lie_weight.proofs.DualLemmas.{values_push}
use Rattle.lie_weight.proofs.dual.root_powers.Goals as goal

pub loop-k-preserved : goal.loop-k-preserved
loop-k-preserved c =
    let v = c.args.space.now in
    let k = c.loop-k.k in
    let one : k + 1 ≡ suc k = omega arith in
    let f = λ (i : ℕ). dual_power v c.args.r (suc i) in
    let T = c.in_ok-dual_power.field-0 in (
      values_push f k (k + 1) c.loop-k.powers.items c.push.new.self.items T one c.loop-k.invariant.0 (c.in_ok-dual_power.ensures.value ∙ ap (dual_power v c.args.r) one) c.in_ok-push.ensures.items,
      subst (All (IsSquare (dimension v))) (sym c.in_ok-push.ensures.items) (all_push (IsSquare (dimension v)) c.loop-k.powers.items T c.loop-k.invariant.1 c.in_ok-dual_power.ensures.square),
    )

pub returns-clause-value : goal.returns-clause-value
returns-clause-value c =
    let v = c.args.space.now in
    let end : c.loop-k.k ≡ top v c.args.r = let t = c.loop-k-test.false in let e = c.loop-k.auto.k-end in let l = c.top-k-end.ensures.value in omega (arith, t, e, l) in
    c.loop-k.invariant.0 ∙ ap (λ n. map (λ i. dual_power v c.args.r (suc i)) (range_with_len 0 n)) end

pub returns-clause-kept : goal.returns-clause-kept
returns-clause-kept c =
    let v = c.args.space.now in
    let n = ap length c.loop-k.invariant.0 ∙ length-map-range_with_len (λ i. dual_power v c.args.r (suc i)) 0 c.loop-k.k in
    let few = top_few v c.kept.ensures c.args.r in
    record {
      few = let e = c.loop-k.auto.k-end in let l = c.top-k-end.ensures.value in omega (arith, n, few, e, l);
      squares = c.loop-k.invariant.1;
    }
