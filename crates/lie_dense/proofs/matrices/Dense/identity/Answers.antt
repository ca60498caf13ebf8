use Rattle.std.proofs.Common.{◌≡◌, ◌∙◌, ℕ, cond, eqb, sym, ap, subst, arith}
use Rattle.lie_ring.specs.Matrices.{AllElem, table, with_entry}
use Rattle.lie_ring.specs.MatrixElements.{identity-elem}
use Rattle.lie_mat.specs.Parts.{partial_table}
use Rattle.lie_mat.specs.PartLemmas.{partial-all}
use Rattle.lie_field.specs.FieldRing.{field_ring, field_is_ring}
use Rattle.lie_dense.proofs.FlatLemmas.{diagonal-step}
use Rattle.lie_dense.proofs.matrices.Dense.identity.Goals as goal

pub loop-i-preserved : goal.loop-i-preserved
loop-i-preserved c =
    let n = c.args.n in
    let i = c.loop-i.i in
    c.set.ensures ∙ ap (λ M. with_entry 0 M i i c.in_ok-one.one) c.loop-i.invariant ∙ diagonal-step n i c.in_ok-one.one c.loop-i-test.true

pub returns-clause-value : goal.returns-clause-value
returns-clause-value c =
    let n = c.args.n in
    let last : c.loop-i.i ≡ n = omega (arith, c.loop-i-test.false, c.loop-i.auto.i-end) in
    let ones = λ (e k j : ℕ). cond (eqb k j) e 0 in
    c.loop-i.invariant ∙ ap (λ i. partial_table 0 n n (ones c.in_ok-one.one) i 0) last ∙ partial-all 0 n n (ones c.in_ok-one.one)
    ∙ ap (λ e. table n n (ones e)) c.in_ok-one.ensures.value

pub returns-clause-elem : goal.returns-clause-elem
returns-clause-elem c = subst (AllElem (field_ring c.args.field.now)) (sym (returns-clause-value c)) (identity-elem (field_ring c.args.field.now) (field_is_ring c.args.field.now) c.args.n)
