use Rattle.std.proofs.Common.{◌≡◌, ◌≤◌, unsigned_abs}
use Rattle.lie_ring.specs.Integers.{integers}
use Rattle.lie_ring.specs.Powers.{power}
use Rattle.lie_const.specs.Modules.{dimension}
use Rattle.lie_weight.specs.Factors.{conjugate_power}
use Rattle.lie_weight.proofs.DraftLemmas.{AreFirst}
use Rattle.lie_weight.proofs.completion.conjugated_powers.Given as goal

abbrev pub invariant-loop-k : goal.invariant-loop-k
invariant-loop-k l =
    AreFirst (dimension l.space) (conjugate_power l.factors l.sign l.space l.s) l.k l.list.items
    × (l.power ≡ power integers l.sign l.k)
    × (unsigned_abs l.power ≤ 1)
