use Rattle.std.proofs.Common.{◌+◌, ◌-◌, ◌*◌, ◌<◌, length, ap, subst, sym, arith}
use Rattle.std.proofs.lemmas.Nat.{mul-add-lt}
use Rattle.std.proofs.Math.Nat.{mul_comm}
use Rattle.lie_const.specs.Signs.{SignTable}
use Rattle.lie_const.proofs.signs.Signs.place.Goals as goal

pub returns-clause-within : goal.returns-clause-within
returns-clause-within c =
    let n = 2 * c.self.inside.positive in
    let rank = ap (λ (t : SignTable). t.rank) c.self.view_is in
    let first = c.requires.first in
    let index = c.requires.index in
    let low : c.args.i - 1 < c.self.inside.rank = omega (arith, rank, first, index) in
    subst (λ (t : SignTable). (c.args.i - 1) * n + c.place.result < length t.signs) c.self.view_is
    (subst (λ k. (c.args.i - 1) * n + c.place.result < k) (sym c.self.invariant.0.count) (subst (λ k. (c.args.i - 1) * n + c.place.result < k) (mul_comm n c.self.inside.rank) (mul-add-lt (c.args.i - 1) n c.place.result c.self.inside.rank low c.place.ensures.within)))
