use Rattle.std.proofs.Common.{arith}
use Rattle.lie_identities.proofs.compare.compare_columns.Goals as goal

pub overflow_add-result : goal.overflow_add-result
overflow_add-result c = let f = c.in-Some.ensures.few in omega (arith, f)
