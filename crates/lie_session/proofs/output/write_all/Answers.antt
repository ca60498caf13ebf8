use Rattle.std.proofs.Common.{arith, ◌≡◌, ◌≤◌, ◌-◌, length, take, drop, sym, ◌∙◌, ap, subst, length-drop}
use Rattle.std.proofs.lemmas.List.{take-append-drop, take_rest}
use Rattle.std.proofs.Math.Seq.{take-add}
use Rattle.lie_kit.specs.Streams.{with_bytes, Rose}
use Rattle.lie_session.proofs.ToldLemmas.{with-with}
use Rattle.lie_session.proofs.output.write_all.Goals as goal

pub loop-at-preserved : goal.loop-at-preserved
loop-at-preserved g c =
    let at = c.loop-at.at in
    let n = c.in-Gave.count in
    let bytes = c.args.bytes.now in
    let rest : take (length bytes - at) (drop at bytes) ≡ drop at bytes = take_rest bytes at in
    let given : take n (take (length bytes - at) (drop at bytes)) ≡ take n (drop at bytes) = ap (take n) rest in
    let fits : n ≤ length (drop at bytes) = rw rest at c.in-Gave.ensures.some.1 in (
      omega (arith, fits, length-drop at bytes, c.loop-at-test.true),
      c.in-Gave.ensures.bytes ∙ ap (with_bytes (g.K.Sink.written c.loop-at.sink)) given
          ∙ ap (λ z. with_bytes z (take n (drop at bytes))) c.loop-at.invariant.1
          ∙ with-with (g.K.Sink.written c.args.sink.now) (take at bytes) (take n (drop at bytes))
          ∙ ap (with_bytes (g.K.Sink.written c.args.sink.now)) (sym (take-add at n bytes)),
      c.in-Gave.ensures.counts ∙ c.loop-at.invariant.2,
    )

pub returns-in-Failed : goal.returns-in-Failed
returns-in-Failed g c =
    let at = c.loop-at.at in
    let bytes = c.args.bytes.now in
    ((take at bytes, drop at bytes, sym (take-append-drop at bytes), c.in-Failed.ensures.bytes ∙ c.loop-at.invariant.1), subst (λ k. Rose k (g.K.Sink.faults c.push.new.self)) c.loop-at.invariant.2 c.in-Failed.ensures.counts)

pub returns-in-NoMemory : goal.returns-in-NoMemory
returns-in-NoMemory g c =
    let at = c.loop-at.at in
    let bytes = c.args.bytes.now in
    ((take at bytes, drop at bytes, sym (take-append-drop at bytes), c.in-NoMemory.ensures.bytes ∙ c.loop-at.invariant.1), c.in-NoMemory.ensures.counts ∙ c.loop-at.invariant.2)
