use Rattle.std.proofs.Common.{◌-◌}
use Rattle.lie_gen.specs.Draws.{times, Puts}
use Rattle.lie_gen.specs.Demonstration.{next_element}
use Rattle.lie_gen.proofs.letters.put_torus_letter.Given as goal

abbrev pub invariant-loop : goal.invariant-loop
invariant-loop l = Puts (times (l.counter - 1) next_element) l.initial.out.items l.initial.draws l.out.items l.draws
