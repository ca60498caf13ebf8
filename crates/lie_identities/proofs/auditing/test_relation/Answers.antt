-- Both sides are narrow where neither is large, and what `compare` finds is what the relation has.
use Rattle.std.proofs.Common.{◌≡◌, ◌≤◌, List, sym, subst, ◌∙◌}
use Rattle.std.specs.List.{All}
use Rattle.lie_mat.specs.Wide.{IsHugeMatrix}
use Rattle.lie_const.specs.Signs.{eta_of}
use Rattle.lie_poly.specs.Polynomials.{Polynomial, laurent}
use Rattle.lie_identities.specs.AuditRelations.{Factor, side_size}
use Rattle.lie_identities.specs.Columns.{IsNarrowSide}
use Rattle.lie_identities.specs.Sides.{HasRoot, factor_weight, factor_depth}
use Rattle.lie_identities.proofs.AuditLemmas.{compared}
use Rattle.lie_identities.proofs.NarrowSides.{left-roots, right-roots, left-narrow, right-narrow}
use Rattle.lie_identities.proofs.auditing.test_relation.Goals as goal

pub test_sizes-requires : goal.test_sizes-requires
test_sizes-requires c =
    let d = c.args.steps.now.datum.now in
    subst (All (HasRoot d)) (sym c.in_ok-left.ensures) (left-roots d c.loaded.ensures c.args.rel c.requires.relation)

pub test_sizes-requires-2 : goal.test_sizes-requires-2
test_sizes-requires-2 c =
    let d = c.args.steps.now.datum.now in
    subst (All (HasRoot d)) (sym c.in_ok-right.ensures) (right-roots d c.loaded.ensures c.args.consts.now (eta_of c.args.signs.now) c.requires.constants c.args.rel c.requires.relation)

pub compare-requires-clause-left : goal.compare-requires-clause-left
compare-requires-clause-left c =
    let d = c.args.steps.now.datum.now in
    let v = c.args.steps.now.module.now in
    let side = c.in_ok-left.left in
    let e = c.in_ok-left.ensures in
    subst (IsNarrowSide d v) (sym (c.deref.ensures.value ∙ e))
    (left-narrow d c.loaded.ensures v c.args.steps.now.few c.args.rel c.requires.relation
    (subst (All (λ (x : Factor Polynomial). factor_weight x ≤ 64)) e side.light)
    (subst (All (λ (x : Factor Polynomial). factor_depth x ≤ 3)) e side.shallow)
    (subst (λ (xs : List (Factor Polynomial)). ¬ IsHugeMatrix (side_size laurent v xs)) e c.in_ok-test_sizes.ensures))

pub compare-requires-clause-right : goal.compare-requires-clause-right
compare-requires-clause-right c =
    let d = c.args.steps.now.datum.now in
    let v = c.args.steps.now.module.now in
    let side = c.in_ok-right.right in
    let e = c.in_ok-right.ensures in
    subst (IsNarrowSide d v) (sym (c.deref-2.ensures.value ∙ e))
    (right-narrow d c.loaded.ensures c.args.consts.now (eta_of c.args.signs.now) c.requires.constants v c.args.steps.now.few c.args.rel c.requires.relation
    (subst (All (λ (x : Factor Polynomial). factor_weight x ≤ 64)) e side.light)
    (subst (All (λ (x : Factor Polynomial). factor_depth x ≤ 3)) e side.shallow)
    (subst (λ (xs : List (Factor Polynomial)). ¬ IsHugeMatrix (side_size laurent v xs)) e c.in_ok-test_sizes-2.ensures))

pub returns : goal.returns
returns c =
    let d = c.args.steps.now.datum.now in
    let v = c.args.steps.now.module.now in
    let small = λ (xs ys : List (Factor Polynomial)) (e : xs ≡ ys) (h : ¬ IsHugeMatrix (side_size laurent v ys)). subst (λ (zs : List (Factor Polynomial)). ¬ IsHugeMatrix (side_size laurent v zs)) (sym e) h in
    compared d c.args.consts.now (eta_of c.args.signs.now) v c.args.rel c.deref.result.now c.deref-2.result.now
    (c.deref.ensures.value ∙ c.in_ok-left.ensures) (c.deref-2.ensures.value ∙ c.in_ok-right.ensures)
    (small c.deref.result.now c.in_ok-left.left.factors.items c.deref.ensures.value c.in_ok-test_sizes.ensures)
    (small c.deref-2.result.now c.in_ok-right.right.factors.items c.deref-2.ensures.value c.in_ok-test_sizes-2.ensures)
    c.compare.result c.compare.ensures
