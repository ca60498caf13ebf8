use Rattle.std.proofs.Common.{◌≡◌, suc, ◌+◌, ◌-◌, subst, arith}
use Rattle.lie_gen.specs.Draws.{times, Puts}
use Rattle.lie_gen.specs.Demonstration.{letter, next_letter}
use Rattle.lie_gen.proofs.DrawLemmas.{both, more}
use Rattle.lie_gen.proofs.script.drawn_word.Goals as goal

pub loop-preserved : goal.loop-preserved
loop-preserved c =
    let h = c.loop.auto.counter in
    let one : c.loop.counter + 1 - 1 ≡ suc (c.loop.counter - 1) = omega (arith, h) in
    more (next_letter c.args.sample.now) (c.loop.counter - 1) (c.loop.counter + 1 - 1) one c.loop.invariant c.in_ok-put_next_letter.ensures

pub returns : goal.returns
returns c =
    let s = c.args.sample.now in
    let h = c.loop.auto.counter-end in
    let t = c.loop-test.false in
    let e : c.loop.counter - 1 ≡ 39 = omega (arith, h, t) in
    let first = subst (λ a. Puts (letter s) a c.args.draws.now c.put_letter.new.out.items c.put_letter.new.draws) c.new-out.ensures.items c.in_ok-put_letter.ensures in
    let rest = subst (λ k. Puts (times k (next_letter s)) c.put_letter.new.out.items c.put_letter.new.draws c.loop.out.items c.loop.draws) e c.loop.invariant in
    both (letter s) (times 39 (next_letter s)) first rest
