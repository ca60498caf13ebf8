use Rattle.std.proofs.Common.{◌≡◌, ◌∙◌, ap, refl, sym, subst}
use Rattle.lie_audit.specs.WordMatrix.{word_matrix}
use Rattle.lie_reduce.proofs.CoefficientLemmas.{covering_for}
use Rattle.lie_reduce.proofs.FormReadingLemmas.{form-matrix, no-word}
use Rattle.lie_reduce.proofs.WordInverses.{matrix-square}
use Rattle.lie_reduce.proofs.reduction.form_read.Goals as goal

pub same-requires : goal.same-requires
same-requires c =
    let f = c.args.frame.now in
    let v = c.args.audited.now.module in
    let is = subst (λ z. c.in_ok-matrix.matrix ≡ word_matrix z.field c.module.result.now c.args.word.now) c.frame.view_is c.in_ok-matrix.ensures.value
    ∙ ap (λ s. word_matrix f.field s c.args.word.now) c.module.ensures.value in
    record { shape = ap (λ M. M.height) is ∙ ap (λ M. M.height) (matrix-square f.field v c.args.word.now).shape ∙ sym c.requires.dimension }

pub returns-then-same : goal.returns-then-same
returns-then-same c =
    let f = c.args.frame.now in
    let a = c.args.audited.now in
    let w = c.args.word.now in
    let ground = covering_for f a c.lawful.ensures c.module.ensures.audited c.requires.covers in
    let is = subst (λ z. c.in_ok-matrix.matrix ≡ word_matrix z.field c.module.result.now w) c.frame.view_is c.in_ok-matrix.ensures.value
    ∙ ap (λ s. word_matrix f.field s w) c.module.ensures.value in
    form-matrix f a.module ground c.args.m.now w c.in_ok-form.field-0 c.in_ok-form.ensures (sym is ∙ c.if-same.ensures.0 refl)

pub returns : goal.returns
returns c =
    let f = c.args.frame.now in
    let a = c.args.audited.now in
    let w = c.args.word.now in
    let ground = covering_for f a c.lawful.ensures c.module.ensures.audited c.requires.covers in
    let is = subst (λ z. c.in_ok-matrix.matrix ≡ word_matrix z.field c.module.result.now w) c.frame.view_is c.in_ok-matrix.ensures.value
    ∙ ap (λ s. word_matrix f.field s w) c.module.ensures.value in
    no-word f a.module ground c.args.m.now (λ y h. (let never = c.if-same.ensures.1 (is ∙ c.requires.read y h) in cc))
