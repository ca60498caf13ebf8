use Rattle.std.proofs.Common.{◌≡◌, ◌++◌, take}
use Rattle.lie_letters.specs.Spelled.{root_letters}
use Rattle.lie_unip.specs.Forms.{nonzero_letters}
use Rattle.lie_unip.proofs.form.push_root_letters.Given as goal

abbrev pub invariant-loop-k : goal.invariant-loop-k
invariant-loop-k l = l.word ≡ l.fn.word ++ root_letters (nonzero_letters (take l.k l.entries))
