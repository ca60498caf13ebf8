use Rattle.std.proofs.Common.{◌≡◌, ◌∙◌, [], ◌∷◌, ◌++◌, IfOk, ap, ap₂, subst}
use Rattle.lie_ring.specs.Matrices.{product}
use Rattle.lie_field.specs.FieldRing.{field_ring}
use Rattle.lie_field.specs.Quotient.{neg}
use Rattle.lie_letters.specs.declared.letter.Letter.TheVariants.{X}
use Rattle.lie_audit.specs.WordMatrix.{word_matrix}
use Rattle.lie_reduce.proofs.coefficients.taken_off.Goals as goal

pub returns : goal.returns
returns c =
    let f = c.args.frame.now.field in
    let a = subst (λ z. c.neg.result ≡ neg z.field.given c.args.a) c.frame.view_is c.neg.ensures.value in
    let letter = c.in_ok-push.ensures.pushed ∙ ap₂ (λ w a. w ++ X c.args.r a ∷ []) c.new-letter.ensures a in
    let front = subst (λ z. c.in_ok-front.front ≡ word_matrix z.field c.args.space.now c.push.new.self) c.frame.view_is c.in_ok-front.ensures.value ∙ ap (word_matrix f c.args.space.now) letter in
    let whole = subst (λ z. IfOk c.mul.result (λ rest. rest ≡ product (field_ring z.field) c.in_ok-front.front c.args.m.now)) c.frame.view_is c.mul.ensures.value in
    subst (λ L. IfOk c.mul.result (λ rest. rest ≡ product (field_ring f) L c.args.m.now)) front whole
