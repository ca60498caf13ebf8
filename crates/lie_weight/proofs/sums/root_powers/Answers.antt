-- One matrix more.
use Rattle.std.proofs.Common.{◌≡◌, suc, ◌+◌, ◌-◌, ◌*◌, ◌≤◌, pos, max, sym, ap, ap₂, subst, ◌∙◌, arith}
use Rattle.std.specs.List.{All}
use Rattle.lie_ring.specs.Matrices.{direct_sum}
use Rattle.lie_const.specs.Modules.{dimension}
use Rattle.lie_weight.specs.Kept.{IsSquare}
use Rattle.lie_weight.specs.CarrierParts.{sum_power}
use Rattle.lie_weight.proofs.KeptLemmas.{top_few}
use Rattle.lie_weight.proofs.ModuleSums.{powers_push, blocks_square, all_push, powers_few}
use Rattle.lie_weight.proofs.sums.root_powers.Goals as goal

pub loop-k-preserved : goal.loop-k-preserved
loop-k-preserved c =
    let v = c.args.a.now in
    let w = c.args.b.now in
    let k = c.loop-k.k in
    let one : k + 1 ≡ suc k = omega arith in
    let S = c.in_ok-sum.sum in
    let value : S ≡ sum_power v w c.args.r (k + 1) = c.in_ok-sum.ensures.value ∙ ap₂ (direct_sum (pos 0)) c.power_or-first.ensures.value c.power_or-second.ensures.value in
    let square = blocks_square (dimension v) (dimension w) c.power_or-first.result.now c.power_or-second.result.now S c.power_or-first.ensures.square c.power_or-second.ensures.square c.in_ok-sum.ensures.value c.in_ok-sum.ensures.fit in (
      powers_push v w c.args.r k (k + 1) c.loop-k.powers.items c.push.new.self.items S one c.loop-k.invariant.0 (value ∙ ap (sum_power v w c.args.r) one) c.in_ok-push.ensures.items,
      subst (All (IsSquare (dimension v + dimension w))) (sym c.in_ok-push.ensures.items) (all_push (IsSquare (dimension v + dimension w)) c.loop-k.powers.items S c.loop-k.invariant.1 square),
    )

pub returns-clause-kept : goal.returns-clause-kept
returns-clause-kept c =
    let v = c.args.a.now in
    let w = c.args.b.now in
    let l : c.loop-k.k ≤ max c.top.result c.top-2.result = let e = c.loop-k.auto.k-end in let m = c.max-k-end.ensures in omega (arith, e, m) in
    let first : c.top.result ≤ 16 * (dimension v - 1) = let f = top_few v c.kept.ensures c.args.r in let e = c.top.ensures.value in omega (arith, f, e) in
    let second : c.top-2.result ≤ 16 * (dimension w - 1) = let f = top_few w c.kept-2.ensures c.args.r in let e = c.top-2.ensures.value in omega (arith, f, e) in
    record { few = powers_few v w c.args.r c.loop-k.k c.top.result c.top-2.result c.loop-k.powers.items c.loop-k.invariant.0 l first second; squares = c.loop-k.invariant.1 }
