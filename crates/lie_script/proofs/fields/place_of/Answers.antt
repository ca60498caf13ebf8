use Rattle.std.proofs.Common.{arith, ◌≤◌, sym, length}
use Rattle.std.specs.Prelude.{nat_eq}
use Rattle.std.proofs.lemmas.Bool.{ne_eqb, eq-eqb}
use Rattle.std.proofs.lemmas.List.Sums.{position_or_len_is}
use Rattle.lie_script.proofs.fields.place_of.Goals as goal

pub returns-then-b-c-clause-place : goal.returns-then-b-c-clause-place
returns-then-b-c-clause-place c =
    sym (position_or_len_is (λ b. nat_eq b c.args.c) c.args.bytes.now c.loop-i.i 0 (omega (arith, c.loop-i-test.true)) (λ k lt. ne_eqb _ _ (c.loop-i.invariant k lt)) (λ lt. eq-eqb _ _ c.if-b-c.true))

pub returns-clause-place : goal.returns-clause-place
returns-clause-place c =
    let all : length c.args.bytes.now ≤ c.loop-i.i = omega (arith, c.loop-i-test.false) in
    sym (position_or_len_is (λ b. nat_eq b c.args.c) c.args.bytes.now (length c.args.bytes.now) 0 (omega arith) (λ k lt. ne_eqb _ _ (c.loop-i.invariant k (omega (arith, all, lt)))) (λ lt. let no : ⊥ = omega (arith, lt) in absurd no))
