use Rattle.std.proofs.Common.{[], ◌∷◌, ap, subst, arith, rules}
use Rattle.std.specs.List.{All}
use Rattle.std.proofs.lemmas.List.Elements.{All-tail}
use Rattle.lie_const.specs.Modules.{Module, IsModule, dimension}
use Rattle.lie_weight.specs.CarrierParts.{dimensions}
use Rattle.lie_weight.proofs.ModuleSums.{dimensions-cons, direct_sum-dimension}
use Rattle.lie_weight.proofs.sums.+direct_sum.Goals as goal
use Rattle.lie_weight.proofs.sums.+direct_sum.Goals.{in-Some+in_ok-rest-in-Some, in-None+in_ok-rest-in-None}

pub direct_sum-requires : goal.direct_sum-requires
direct_sum-requires t c =
    let v = c.args.first.now in
    let split = c.in-Some.ensures.cases in
    let fewer = split.1 in
    let n = dimensions-cons v c.args.others.now in
    let m = ap dimensions split.0 in
    let few = c.requires.few in (
      (let l = split.1 in search rules),
      (subst (All (IsModule c.args.datum.now)) split.0 (All-tail (IsModule c.args.datum.now) v c.args.others.now c.requires.modules), omega (arith, n, m, few)),
    )

pub sum-requires-clause-few : goal.sum-requires-clause-few
sum-requires-clause-few t c =
    let d = c.args.datum.now in
    let v = c.args.first.now in
    let n = dimensions-cons v c.args.others.now in
    let few = c.requires.few in
    elim c.match-split_first.branch [
      | in-Some+in_ok-rest-in-Some w ↦
          let split = w.in-Some.ensures.cases in
          let m = ap dimensions split.0 in
          let s = direct_sum-dimension d (w.in-Some.second.now ∷ w.in-Some.more.now) w.in_ok-rest-in-Some.rest w.in_ok-rest-in-Some.ensures in
          let e = ap (λ (u : Module). dimension u) w.rest-is in
          omega (arith, n, m, s, e, few)
      | in-None+in_ok-rest-in-None w ↦
          let s = direct_sum-dimension d [] w.in_ok-rest-in-None.rest w.in_ok-rest-in-None.ensures in
          let e = ap (λ (u : Module). dimension u) w.rest-is in
          omega (arith, n, s, e, few)
    ]
