use Rattle.std.proofs.Common.{codes, ◌≡◌, suc, ◌+◌, ◌-◌, arith, subst}
use Rattle.lie_gen.specs.Draws.{fixed, number, times, ◌>>◌, Puts}
use Rattle.lie_gen.specs.Demonstration.{next_element}
use Rattle.lie_gen.proofs.DrawLemmas.{plain, after, more}
use Rattle.lie_gen.proofs.letters.put_torus_letter.Goals as goal

pub loop-preserved : goal.loop-preserved
loop-preserved c = let h = c.loop.auto.counter in let one : c.loop.counter + 1 - 1 ≡ suc (c.loop.counter - 1) = omega (arith, h) in more next_element (c.loop.counter - 1) (c.loop.counter + 1 - 1) one c.loop.invariant c.in_ok-put_next_element.ensures

pub returns : goal.returns
returns c =
    let r = c.put_fixed.result in
    let last = fixed (codes ")") in
    let rest = times (c.args.d - 1) next_element >> last in
    let h = c.loop.auto.counter-end in
    let t = c.loop-test.false in
    let e : c.loop.counter ≡ c.args.d = omega (arith, h, t) in
    let whole = subst (λ k. Puts (times (k - 1) next_element) c.put_number.new.out.items c.put_number.new.draws c.loop.out.items c.loop.draws) e c.loop.invariant in
    after (fixed (codes "h(")) (number 3 >> rest) r _ _ (plain (codes "h(") c.in_ok-extend_from_slice.ensures.items)
    (after (number 3) rest r _ _ c.in_ok-put_number.ensures
    (after (times (c.args.d - 1) next_element) last r _ _ whole c.put_fixed.ensures))
