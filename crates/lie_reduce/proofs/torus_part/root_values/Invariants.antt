use Rattle.std.proofs.Common.{◌+◌}
use Rattle.lie_reduce.specs.TorusReading.{AreRootValues}
use Rattle.lie_reduce.proofs.torus_part.root_values.Given as goal

abbrev pub invariant-loop-place : goal.invariant-loop-place
invariant-loop-place l = AreRootValues l.field l.datum l.space l.d l.place l.values.items

abbrev pub invariant-loop-place-2 : goal.invariant-loop-place-2
invariant-loop-place-2 l = AreRootValues l.field l.datum l.space l.d (l.positive + l.place) l.values.items
