use Rattle.std.proofs.Common.{take}
use Rattle.lie_unip.specs.Forms.{IsFormOf}
use Rattle.lie_bruhat.proofs.bruhat.form.Given as goal

abbrev pub invariant-loop-k : goal.invariant-loop-k
invariant-loop-k l = IsFormOf l.frame l.form (take l.k l.letters)
