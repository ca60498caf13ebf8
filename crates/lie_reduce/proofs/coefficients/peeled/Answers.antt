use Rattle.std.proofs.Common.{◌≡◌, ◌∙◌, ◌+◌, ◌<◌, ◌∷◌, [], suc, ap, sym, subst, arith, length}
use Rattle.lie_ring.specs.Matrices.{identity, product}
use Rattle.lie_field.specs.FieldRing.{field_ring, field_is_ring}
use Rattle.lie_datum.specs.Numbers.{number_at}
use Rattle.lie_const.specs.Modules.{dimension}
use Rattle.lie_field.specs.Quotient.{neg}
use Rattle.lie_letters.specs.declared.letter.Letter.TheVariants.{X}
use Rattle.lie_audit.specs.WordMatrix.{word_matrix}
use Rattle.lie_reduce.specs.PeelSteps.{IsCoefficient, ArePeeled}
use Rattle.lie_reduce.proofs.UniqueFactors.{one_left}
use Rattle.lie_reduce.proofs.PeelLemmas.{peeled-start, peeled-step}
use Rattle.lie_reduce.proofs.CoefficientLemmas.{place_number}
use Rattle.lie_reduce.proofs.coefficients.peeled.Goals as goal

pub loop-k-init : goal.loop-k-init
loop-k-init c =
    let f = c.args.frame.now in
    let R = field_ring f.field in
    let v = c.args.space.now in
    let M = c.args.m.now in
    let unit = subst (λ z. c.in_ok-identity.field-0 ≡ identity (field_ring z.field) c.dim.result) c.frame.view_is c.in_ok-identity.ensures.value ∙ ap (identity R) c.dim.ensures.value in
    let rest = subst (λ z. c.in_ok-rest.rest ≡ product (field_ring z.field) c.in_ok-identity.field-0 M) c.frame.view_is c.in_ok-rest.ensures.value in
    let is = rest ∙ ap (λ L. product R L M) unit ∙ one_left R (field_is_ring f.field) (dimension v) M c.requires.square in
    subst (λ u. ArePeeled f v M 0 u c.in_ok-rest.rest) (sym c.new-entries.ensures.items) (subst (ArePeeled f v M 0 []) (sym is) (peeled-start f v c.requires.covering M c.requires.square))

pub loop-k-preserved : goal.loop-k-preserved
loop-k-preserved c =
    let f = c.args.frame.now in
    let v = c.args.space.now in
    let M = c.args.m.now in
    let k = c.loop-k.k in
    let end = subst (λ z. c.m-k-end.result ≡ length z.datum.positive) c.frame.view_is c.m-k-end.ensures.value in
    let test = c.loop-k-test.true in
    let low : k < length f.datum.positive = omega (arith, test, end) in
    let root = subst (λ z. c.root_at-r.result ≡ number_at (length z.datum.positive) k) c.frame.view_is c.root_at-r.ensures.value ∙ place_number (length f.datum.positive) k low in
    let found = subst (λ z. IsCoefficient z.field v c.root_at-r.result c.loop-k.rest c.in_ok-a.a) c.frame.view_is c.in_ok-a.ensures in
    let coefficient = subst (λ r. IsCoefficient f.field v r c.loop-k.rest c.in_ok-a.a) root found in
    let left = subst (λ r. c.in_ok-rest-2.rest ≡ product (field_ring f.field) (word_matrix f.field v (X r (neg f.field.given c.in_ok-a.a) ∷ [])) c.loop-k.rest) root c.in_ok-rest-2.ensures in
    let next : suc k ≡ k + 1 = omega arith in
    subst (λ j. ArePeeled f v M j c.push.new.self.items c.in_ok-rest-2.rest) next
    (subst (λ u. ArePeeled f v M (suc k) u c.in_ok-rest-2.rest) (sym c.in_ok-push.ensures.items)
    (peeled-step f v c.requires.covering M c.loop-k.rest c.in_ok-rest-2.rest k c.in_ok-a.a c.loop-k.entries.items c.loop-k.invariant low coefficient left))
