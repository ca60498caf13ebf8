use Rattle.lie_gen.specs.Draws.{times, Puts}
use Rattle.lie_gen.specs.Demonstration.{commands}
use Rattle.lie_gen.proofs.script.generate.Given as goal

abbrev pub invariant-loop : goal.invariant-loop
invariant-loop l = Puts (times l.counter (commands l.sample)) l.initial.out.items l.initial.draws l.out.items l.draws
