use Rattle.std.proofs.Common.{◌≡◌}
use Rattle.std.specs.List.{flat_map, range_with_len}
use Rattle.lie_reply.specs.Modules.{row_text}
use Rattle.lie_reply.proofs.modules.matrix_text.Given as goal

abbrev pub invariant-rows : goal.invariant-rows
invariant-rows l = l.out.items ≡ flat_map (row_text l.matrix) (range_with_len 0 l.row)
