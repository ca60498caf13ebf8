use Rattle.std.proofs.Common.{◌≡◌, ◌*◌, ◌^◌, negsuc, ◌&&◌, subst, sym, ap, ◌∙◌, arith, rules}
use Rattle.std.proofs.lemmas.Int.{ints}
use mir.Val.{SFits}
use mir.Syntax.{w128}
use Rattle.std.specs.Ordering.{int_eq}
use Rattle.lie_datum.specs.Vectors.{pairing, plus}
use Rattle.lie_datum.specs.RootDatum.{IsWithin, vector}
use Rattle.lie_datum.specs.RootList.{root_of}
use Rattle.lie_const.specs.StructureConstants.{same_vector}
use Rattle.lie_orbit.specs.Weights.{coroot_pairing}
use Rattle.lie_orbit.proofs.WeightLemmas.{covector_within, root_within, within_more, times-one}
use Rattle.lie_weight.proofs.VectorEquality.{same_test}
use Rattle.lie_weight.proofs.steps.is_step.Goals as goal

pub pairing-requires-clause-y : goal.pairing-requires-clause-y
pairing-requires-clause-y c = subst (IsWithin 80000) (sym c.coroot.ensures) (covector_within c.args.datum.now c.loaded.ensures c.args.root c.requires.number)

pub pairing-requires-clause-x : goal.pairing-requires-clause-x
pairing-requires-clause-x c = within_more 1000000 (25 * 10 ^ 31) c.args.from.now (omega arith) c.requires.small

pub less_multiple-requires-clause-weight : goal.less_multiple-requires-clause-weight
less_multiple-requires-clause-weight c = within_more 1000000 (25 * 10 ^ 31) c.args.from.now (omega arith) c.requires.small

pub less_multiple-requires-clause-root : goal.less_multiple-requires-clause-root
less_multiple-requires-clause-root c = subst (IsWithin 80000) (sym c.root.ensures) (root_within c.args.datum.now c.loaded.ensures c.args.root c.requires.number)

pub returns-then-pairing : goal.returns-then-pairing
returns-then-pairing c =
    let d = c.args.datum.now in
    let x = c.args.from.now in
    let y = c.args.to.now in
    let r = vector d.base (root_of d c.args.root) in
    let f : SFits w128 c.pairing.result = search rules in
    let minus_one : c.pairing.result ≡ negsuc 0 = let t = c.if-pairing.true in omega (arith, ints) in
    let down : coroot_pairing d x c.args.root ≡ negsuc 0 = sym (ap (pairing x) c.coroot.ensures) ∙ sym c.pairing.ensures ∙ minus_one in
    let image : c.less_multiple.result ≡ plus x r = c.less_multiple.ensures ∙ ap (plus x) (times-one c.root.result.now) ∙ ap (plus x) c.root.ensures in
    c.eq.ensures ∙ same_test y c.less_multiple.result ∙ ap (same_vector y) image ∙ sym (ap (λ t. int_eq t (negsuc 0) && same_vector y (plus x r)) down)
