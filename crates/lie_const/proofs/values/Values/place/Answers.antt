use Rattle.std.proofs.Common.{◌+◌, ◌*◌, ◌<◌, subst}
use Rattle.std.proofs.lemmas.Nat.{mul-add-lt}
use Rattle.lie_const.specs.Filling.{PairValues}
use Rattle.lie_const.proofs.values.Values.place.Goals as goal

pub returns-clause-within : goal.returns-clause-within
returns-clause-within c =
    let n = 2 * c.self.inside.positive in
    subst (λ (v : PairValues). c.place.result * n + c.place-2.result < 2 * v.positive * (2 * v.positive)) c.self.view_is
    (mul-add-lt c.place.result n c.place-2.result n c.place.ensures.within c.place-2.ensures.within)
