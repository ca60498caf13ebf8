use Rattle.std.proofs.Common.{neg_ℤ, subst, sym, ap, ◌∙◌, arith, lit<, ◌≤◌, unsigned_abs}
use Rattle.lie_datum.specs.Vectors.{pairing, plus, times}
use Rattle.lie_datum.specs.RootDatum.{IsWithin, covector}
use Rattle.lie_datum.specs.RootList.{root_of}
use Rattle.lie_datum.proofs.VectorLemmas.{plain}
use Rattle.lie_orbit.proofs.WeightLemmas.{simple_number, root_within, covector_within, reflected_by, minuscule_step}
use Rattle.lie_orbit.proofs.growth.reflected.Goals as goal

pub pairing-requires-clause-y : goal.pairing-requires-clause-y
pairing-requires-clause-y c =
    subst (IsWithin 80000) (sym c.coroot.ensures) (covector_within c.args.datum.now c.loaded.ensures c.simple-r.result c.simple-r.ensures.number)

pub less_multiple-requires-clause-root : goal.less_multiple-requires-clause-root
less_multiple-requires-clause-root c = subst (IsWithin 80000) (sym c.root.ensures) (root_within c.args.datum.now c.loaded.ensures c.simple-r.result c.simple-r.ensures.number)

pub less_multiple-requires-clause-by : goal.less_multiple-requires-clause-by
less_multiple-requires-clause-by c =
    let k = c.simple-r.ensures.value ∙ sym (simple_number c.args.datum.now c.loaded.ensures c.args.i c.requires.index) in
    let h = minuscule_step c.args.datum.now c.loaded.ensures c.args.i c.simple-r.result c.args.weight.now c.requires.index k c.requires.minuscule in
    let e = c.pairing.ensures ∙ ap (pairing c.args.weight.now) c.coroot.ensures in
    grind (arith)

pub returns : goal.returns
returns c =
    let x = c.args.weight.now in
    let d = c.args.datum.now in
    let k = c.simple-r.ensures.value ∙ sym (simple_number d c.loaded.ensures c.args.i c.requires.index) in
    let is = c.pairing.ensures ∙ ap (pairing x) c.coroot.ensures in
    let one : unsigned_abs c.pairing.result ≤ 1 = subst (λ t. unsigned_abs t ≤ 1) (sym is) (minuscule_step d c.loaded.ensures c.args.i c.simple-r.result x c.requires.index k c.requires.minuscule) in
    let p = c.pairing.result in
    let v = c.root.result.now in
    c.less_multiple.ensures ∙ ap (λ t. plus x (times (neg_ℤ t) v)) (plain p 1 one (lit< tt)) ∙ ap (λ t. plus x (times (neg_ℤ t) v)) is ∙ ap (λ w. plus x (times (neg_ℤ (pairing x (covector d.base (root_of d c.simple-r.result)))) w)) c.root.ensures
    ∙ reflected_by d c.loaded.ensures c.args.i c.simple-r.result x c.requires.index k
