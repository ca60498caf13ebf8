use Rattle.std.proofs.Common.{◌≡◌, ◌∙◌, sym, ap, ap₂, subst, IfOk}
use Rattle.lie_ring.specs.Matrices.{product}
use Rattle.lie_field.specs.FieldRing.{field_ring}
use Rattle.lie_const.specs.Modules.{root_element}
use Rattle.lie_audit.proofs.WordMatrixLemmas.{root-square-of, three}
use Rattle.lie_audit.proofs.letter_matrices.conjugated.Goals as goal

pub mul-requires-clause-shape : goal.mul-requires-clause-shape
mul-requires-clause-shape c =
    let outer = root-square-of c.args.field.now c.args.space.now c.in_ok-outer.outer c.args.r c.args.a c.in_ok-outer.ensures in
    let inner = root-square-of c.args.field.now c.args.space.now c.in_ok-inner.inner c.opposite.result c.args.b c.in_ok-inner.ensures in
    inner.width ∙ sym outer.height

pub mul-requires-clause-elem : goal.mul-requires-clause-elem
mul-requires-clause-elem c = (root-square-of c.args.field.now c.args.space.now c.in_ok-inner.inner c.opposite.result c.args.b c.in_ok-inner.ensures).elem

pub mul-requires-clause-b_elem : goal.mul-requires-clause-b_elem
mul-requires-clause-b_elem c = (root-square-of c.args.field.now c.args.space.now c.in_ok-outer.outer c.args.r c.args.a c.in_ok-outer.ensures).elem

pub mul-requires-2-clause-elem : goal.mul-requires-2-clause-elem
mul-requires-2-clause-elem c = (root-square-of c.args.field.now c.args.space.now c.in_ok-outer.outer c.args.r c.args.a c.in_ok-outer.ensures).elem

pub returns : goal.returns
returns c =
    let R = field_ring c.args.field.now in
    let v = c.args.space.now in
    let same : product R c.in_ok-outer.outer c.in_ok-mul.field-0 ≡ three c.args.field.now v c.args.r c.args.a c.args.b =
    ap₂ (product R) c.in_ok-outer.ensures (c.in_ok-mul.ensures.value ∙ ap₂ (product R) (c.in_ok-inner.ensures ∙ ap (λ r. root_element R v r c.args.b) c.opposite.ensures) c.in_ok-outer.ensures) in
    subst (λ M. IfOk c.mul-3.result (λ m. m ≡ M)) same c.mul-3.ensures.value
