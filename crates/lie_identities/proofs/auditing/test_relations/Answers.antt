-- The relations before the one that is tested are met.
use Rattle.std.proofs.Common.{◌<◌, ◌≤◌, List, length, get_or, sym, ap, subst, ◌∙◌}
use Rattle.std.specs.List.{All}
use Rattle.std.proofs.lemmas.List.{take_all}
use Rattle.std.proofs.lemmas.List.Elements.{All-get_or}
use Rattle.std.proofs.lemmas.Result.{err_from_is_err_and}
use Rattle.lie_const.specs.Signs.{eta_of}
use Rattle.lie_identities.specs.declared.relations.Rel.{Rel}
use Rattle.lie_identities.specs.AuditRelations.{relations}
use Rattle.lie_identities.specs.Audit.{IsMet}
use Rattle.lie_identities.specs.Sides.{IsRelationOf}
use Rattle.lie_identities.proofs.AuditLemmas.{fault-of}
use Rattle.lie_identities.proofs.OrderLemmas.{met-next, met-before}
use Rattle.lie_identities.proofs.RelationMembers.{relations_all}
use Rattle.lie_identities.proofs.auditing.test_relations.Goals as goal

pub test_relation-requires-clause-relation : goal.test_relation-requires-clause-relation
test_relation-requires-clause-relation c =
    let d = c.args.steps.now.datum.now in
    let k = c.loop-rel.rel-index in
    let q = c.rel-item.result in
    let l = subst (λ (xs : List Rel). k < length xs) (c.deref-rel-items.ensures.value ∙ c.in_ok-rels.ensures) c.loop-rel-test.true in
    let is = c.rel-item.is ∙ ap (λ (xs : List Rel). get_or xs k q) (c.deref-rel-items.ensures.value ∙ c.in_ok-rels.ensures) in
    subst (IsRelationOf d) (sym is) (All-get_or (IsRelationOf d) (relations d) k q l (relations_all d))

pub loop-rel-preserved : goal.loop-rel-preserved
loop-rel-preserved c =
    let d = c.args.steps.now.datum.now in
    let k = c.loop-rel.rel-index in
    let q = c.rel-item.result in
    let l = subst (λ (xs : List Rel). k < length xs) (c.deref-rel-items.ensures.value ∙ c.in_ok-rels.ensures) c.loop-rel-test.true in
    let is = c.rel-item.is ∙ ap (λ (xs : List Rel). get_or xs k q) (c.deref-rel-items.ensures.value ∙ c.in_ok-rels.ensures) in
    met-next d c.args.consts.now (eta_of c.args.signs.now) c.args.steps.now.module.now k q l is c.loop-rel.invariant c.in_ok-test_relation.ensures

pub returns-in_err-test_relation : goal.returns-in_err-test_relation
returns-in_err-test_relation c =
    let d = c.args.steps.now.datum.now in
    let v = c.args.steps.now.module.now in
    let eta = eta_of c.args.signs.now in
    let k = c.loop-rel.rel-index in
    let q = c.rel-item.result in
    let l = subst (λ (xs : List Rel). k < length xs) (c.deref-rel-items.ensures.value ∙ c.in_ok-rels.ensures) c.loop-rel-test.true in
    let is = c.rel-item.is ∙ ap (λ (xs : List Rel). get_or xs k q) (c.deref-rel-items.ensures.value ∙ c.in_ok-rels.ensures) in
    let p = err_from_is_err_and c.from_residual-in_err-test_relation.result c.from_residual-in_err-test_relation.ensures.1 in
    rw (p.1, p.2) (fault-of d c.args.consts.now eta v q c.requires.graded (met-before d c.args.consts.now eta v k q l is c.loop-rel.invariant) c.in_err-test_relation.field-0.0 c.in_err-test_relation.ensures)

pub returns : goal.returns
returns c =
    let d = c.args.steps.now.datum.now in
    let k = c.loop-rel.rel-index in
    let all = take_all k (relations d) (subst (λ (xs : List Rel). length xs ≤ k) (c.deref-rel-items.ensures.value ∙ c.in_ok-rels.ensures) c.loop-rel-test.false) in
    record {
      graded = c.requires.graded;
      relations = subst (All (IsMet d c.args.consts.now (eta_of c.args.signs.now) c.args.steps.now.module.now)) all c.loop-rel.invariant;
    }
