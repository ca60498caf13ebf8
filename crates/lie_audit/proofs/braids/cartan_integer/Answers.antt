use Rattle.std.proofs.Common.{◌≤◌, ◌*◌, ◌^◌, unsigned_abs, sym, ap, subst, ◌∙◌, arith, lit<}
use Rattle.lie_datum.specs.Vectors.{pairing}
use Rattle.lie_datum.specs.RootDatum.{IsWithin, vector}
use Rattle.lie_datum.specs.RootList.{root_of}
use Rattle.lie_datum.proofs.VectorLemmas.{plain}
use Rattle.lie_orbit.proofs.WeightLemmas.{root_within, covector_within, within_more}
use Rattle.lie_audit.proofs.BraidLemmas.{cartan_is, cartan_small}
use Rattle.lie_audit.proofs.braids.cartan_integer.Goals as goal

pub pairing-requires-clause-x : goal.pairing-requires-clause-x
pairing-requires-clause-x c =
    within_more 80000 (25 * 10 ^ 31) c.root.result.now (omega arith) (subst (IsWithin 80000) (sym c.root.ensures) (root_within c.args.datum.now c.loaded.ensures c.simple.result c.simple.ensures.number))

pub pairing-requires-clause-y : goal.pairing-requires-clause-y
pairing-requires-clause-y c = subst (IsWithin 80000) (sym c.coroot.ensures) (covector_within c.args.datum.now c.loaded.ensures c.simple-2.result c.simple-2.ensures.number)

pub returns-clause-value : goal.returns-clause-value
returns-clause-value c =
    let d = c.args.datum.now in
    let is =
    c.pairing.ensures ∙ ap (λ v. pairing v c.coroot.result.now) c.root.ensures ∙ ap (pairing (vector d.base (root_of d c.simple.result))) c.coroot.ensures
    ∙ cartan_is d c.loaded.ensures c.args.i c.args.j c.requires.left c.requires.right c.simple.result c.simple-2.result c.simple.ensures.value c.simple-2.ensures.value in
    let small = subst (λ t. unsigned_abs t ≤ 80000) (sym is) (cartan_small d c.loaded.ensures c.args.i c.args.j c.requires.left c.requires.right) in
    plain c.pairing.result 80000 small (lit< tt) ∙ is

pub returns-clause-bound : goal.returns-clause-bound
returns-clause-bound c = subst (λ t. unsigned_abs t ≤ 80000) (sym (returns-clause-value c)) (cartan_small c.args.datum.now c.loaded.ensures c.args.i c.args.j c.requires.left c.requires.right)
