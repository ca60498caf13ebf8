use Rattle.std.proofs.Common.{◌≡◌, ap, subst, ◌∙◌}
use Rattle.std.proofs.lemmas.Bool.{lt-ltb}
use Rattle.lie_datum.specs.RootDatum.{vector}
use Rattle.lie_datum.specs.RootList.{root_of}
use Rattle.lie_field.specs.FieldRing.{field_ring, field_is_ring}
use Rattle.lie_field.specs.Quotient.{order, mul}
use Rattle.lie_letters.specs.Entries.{character}
use Rattle.lie_ring.specs.RingLemmas.{mul_zero}
use Rattle.lie_bruhat.proofs.MovingLemmas.{torus_joined}
use Rattle.lie_bruhat.proofs.moving.past_torus.Goals as goal

pub returns-clause-zero : goal.returns-clause-zero
returns-clause-zero c = λ e.
    let F = c.frame.inside.field in
    let factor = c.char_of-factor.result in
    c.mul.ensures.value ∙ ap (mul F.given factor) e ∙ mul_zero (field_ring F) (field_is_ring F).laws factor (lt-ltb factor (order F.given) c.char_of-factor.ensures.unit.1)

pub returns-clause-joined : goal.returns-clause-joined
returns-clause-joined c =
    let t = c.args.t.now in
    let r = c.args.x.r in
    let a = c.args.x.a in
    torus_joined c.args.frame.now c.lawful.ensures t r a c.mul.result c.requires.units c.requires.long c.requires.root c.requires.below
    (subst (λ z. c.mul.result ≡ mul z.field.given (character z.field t (vector z.datum.base (root_of z.datum r))) a) c.frame.view_is
    (c.mul.ensures.value ∙ ap (λ e. mul c.frame.inside.field.given e a) (c.char_of-factor.ensures.value ∙ ap (character c.frame.inside.field t) c.root.ensures)))
