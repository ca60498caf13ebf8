use Rattle.std.proofs.Common.{◌≡◌, ◌∙◌, IfOk, ap, sym, subst}
use Rattle.lie_ring.specs.Matrices.{product}
use Rattle.lie_field.specs.FieldRing.{field_ring}
use Rattle.lie_audit.specs.WordMatrix.{word_matrix}
use Rattle.lie_reduce.proofs.WordInverses.{matrix-square}
use Rattle.lie_reduce.proofs.form_parts.turned_back.Goals as goal

pub mul-requires-clause-shape : goal.mul-requires-clause-shape
mul-requires-clause-shape c =
    let f = c.args.frame.now in
    let front = subst (λ z. c.in_ok-front.front ≡ word_matrix z.field c.args.space.now c.args.turn.now) c.frame.view_is c.in_ok-front.ensures.value in
    ap (λ M. M.width) c.requires.l.shape ∙ sym (ap (λ M. M.height) front ∙ ap (λ M. M.height) (matrix-square f.field c.args.space.now c.args.turn.now).shape)

pub returns : goal.returns
returns c =
    let f = c.args.frame.now in
    let R = field_ring f.field in
    let front = subst (λ z. c.in_ok-front.front ≡ word_matrix z.field c.args.space.now c.args.turn.now) c.frame.view_is c.in_ok-front.ensures.value in
    let product_is = subst (λ z. c.in_ok-product.product ≡ product (field_ring z.field) c.args.l.now c.in_ok-front.front) c.frame.view_is c.in_ok-product.ensures.value ∙ ap (product R c.args.l.now) front in
    let whole = subst (λ z. IfOk c.mul-2.result (λ v. v ≡ product (field_ring z.field) c.args.inverse.now c.in_ok-product.product)) c.frame.view_is c.mul-2.ensures.value in
    subst (λ L. IfOk c.mul-2.result (λ v. v ≡ product R c.args.inverse.now L)) product_is whole
