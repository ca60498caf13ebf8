use Rattle.std.proofs.Common.{take}
use Rattle.lie_datum.specs.Vectors.{combination}
use Rattle.lie_reduce.specs.TorusReading.{IsValueAt}
use Rattle.lie_reduce.proofs.torus_part.line_value.Given as goal

abbrev pub invariant-loop-a : goal.invariant-loop-a
invariant-loop-a l = IsValueAt l.fn.field l.fn.space l.fn.d (combination (take l.a l.fn.c) l.fn.space.weights) l.value
