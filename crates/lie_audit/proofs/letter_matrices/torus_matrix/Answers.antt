use Rattle.std.proofs.Common.{◌≡◌, ◌<◌, ◌∙◌, ℕ, ap, ap₂, cond, eqb, arith}
use Rattle.lie_ring.specs.Matrices.{zero_matrix, with_entry}
use Rattle.lie_mat.specs.Parts.{partial_table}
use Rattle.lie_mat.specs.PartLemmas.{partial-none, partial-all}
use Rattle.lie_const.specs.Modules.{dimension}
use Rattle.lie_letters.specs.Entries.{character}
use Rattle.lie_audit.specs.WordMatrix.{torus_element, weight_value}
use Rattle.lie_audit.proofs.WordMatrixLemmas.{diagonal-next}
use Rattle.lie_audit.proofs.letter_matrices.torus_matrix.Goals as goal

pub loop-i-init : goal.loop-i-init
loop-i-init c =
    let n = dimension c.args.space.now in
    c.in_ok-matrix.ensures.value ∙ ap (λ m. zero_matrix 0 m m) c.dim-n.ensures.value ∙ partial-none 0 n n (λ k j. cond (eqb k j) (weight_value c.args.field.now c.args.space.now c.args.t.now k) 0)

pub loop-i-preserved : goal.loop-i-preserved
loop-i-preserved c =
    let v = c.args.space.now in
    let i = c.loop-i.i in
    let within : i < dimension v = let a = c.loop-i-test.true in let b = c.dim-n.ensures.value in omega (arith, a, b) in
    c.set.ensures
    ∙ ap₂ (λ M e. with_entry 0 M i i e) c.loop-i.invariant (c.char_of-value.ensures.value ∙ ap (character c.args.field.now c.args.t.now) c.weight.ensures.value)
    ∙ diagonal-next (dimension v) i (weight_value c.args.field.now v c.args.t.now) within

pub returns : goal.returns
unfolding torus_element
returns c =
    let n = dimension c.args.space.now in
    let g = λ (k j : ℕ). cond (eqb k j) (weight_value c.args.field.now c.args.space.now c.args.t.now k) 0 in
    let last : c.loop-i.i ≡ n = let a = c.loop-i-test.false in let b = c.dim-n.ensures.value in let h = c.loop-i.auto.i-end in omega (arith, a, b, h) in
    c.loop-i.invariant ∙ ap (λ i. partial_table 0 n n g i 0) last ∙ partial-all 0 n n g
