use Rattle.std.proofs.Common.{arith}
use Rattle.lie_field.specs.Elements.{order_large}
use Rattle.lie_reduce.proofs.torus_part.one_of.Goals as goal

pub unreachable-requires : goal.unreachable-requires
unreachable-requires c = let small = c.in-None.ensures in omega (arith, small, order_large c.args.field.now)
