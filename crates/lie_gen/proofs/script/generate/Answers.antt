use Rattle.std.proofs.Common.{◌+◌, arith}
use Rattle.lie_gen.specs.Demonstration.{commands}
use Rattle.lie_gen.proofs.DrawLemmas.{more}
use Rattle.lie_gen.proofs.script.generate.Goals as goal

pub loop-preserved : goal.loop-preserved
loop-preserved c = more (commands c.of-sample.result) c.loop.counter (c.loop.counter + 1) (omega arith) c.loop.invariant c.in_ok-put_commands.ensures
