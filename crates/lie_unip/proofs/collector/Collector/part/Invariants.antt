use Rattle.std.proofs.Common.{◌≡◌, cond, not, take}
use Rattle.std.specs.List.{All}
use Rattle.lie_ring.specs.Rings.{Fits}
use Rattle.lie_unip.specs.Collection.{elements}
use Rattle.lie_unip.specs.Splitting.{kept_at, chosen}
use Rattle.lie_unip.specs.Placing.{letters_at}
use Rattle.lie_unip.proofs.collector.Collector.part.Given as goal

abbrev pub invariant-loop-k : goal.invariant-loop-k
invariant-loop-k g l =
    let R = g.R.Ring.ring l.self.ring.now in
    record {
      fit : All (Fits R) l.part.items;
      chosen : l.part.items ≡ take l.k (chosen (λ r. cond l.first (kept_at l.self.kept.items r) (not (kept_at l.self.kept.items r))) R.zero 1 (elements R l.self.consts.now.positive (letters_at l.self.roots.items l.entries)));
    }
