use Rattle.std.proofs.Common.{◌≡◌, ◌++◌, map}
use Rattle.std.specs.List.{join_with_byte, range_with_len}
use Rattle.lie_reply.specs.Modules.{entry_text}
use Rattle.lie_reply.proofs.modules.put_row.Given as goal

abbrev pub invariant-cols : goal.invariant-cols
invariant-cols l = l.out.items ≡ l.fn.out.items ++ join_with_byte 32 (map (entry_text l.matrix l.row) (range_with_len 0 l.col))
