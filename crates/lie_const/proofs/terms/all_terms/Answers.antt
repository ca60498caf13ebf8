use Rattle.std.proofs.Common.{◌*◌, List, [], ◌∷◌, ◌++◌, refl, ap, subst, sym, ◌∙◌, arith}
use Rattle.std.proofs.lemmas.Result.{err_from_is_err_and}
use Rattle.lie_datum.specs.RootList.{IsNumber}
use Rattle.lie_const.specs.declared.term.Term.{Term}
use Rattle.lie_const.specs.ConstantTables.{pair_place}
use Rattle.lie_const.specs.Filling.{table_in}
use Rattle.lie_const.specs.TermFilling.{AreListed}
use Rattle.lie_const.proofs.ListedTerms.{pair_at, listed_more, listed_all, pair_fault}
use Rattle.lie_const.proofs.terms.all_terms.Goals as goal

pub loop-at-init : goal.loop-at-init
loop-at-init c =
    subst (λ (t : List (List Term)). AreListed c.args.datum.now (table_in c.args.values.now) c.args.values.now.positive 0 t) (sym c.in_ok-lists.ensures)
    (record { count = refl; terms = λ r s p l. absurd (omega (arith, l)) })

pub terms_of-requires-clause-r : goal.terms_of-requires-clause-r
terms_of-requires-clause-r c = subst (IsNumber c.args.datum.now) (sym c.at-r.ensures) (pair_at c.args.datum.now (table_in c.args.values.now) c.m-m.result c.m-m.ensures.value c.loop-at.at c.loop-at-test.true).0

pub terms_of-requires-clause-s : goal.terms_of-requires-clause-s
terms_of-requires-clause-s c = subst (IsNumber c.args.datum.now) (sym c.at-s.ensures) (pair_at c.args.datum.now (table_in c.args.values.now) c.m-m.result c.m-m.ensures.value c.loop-at.at c.loop-at-test.true).1

pub returns-in_err-terms-clause-terms : goal.returns-in_err-terms-clause-terms
returns-in_err-terms-clause-terms c =
    let d = c.args.datum.now in
    let n = table_in c.args.values.now in
    let at = pair_at d n c.m-m.result c.m-m.ensures.value c.loop-at.at c.loop-at-test.true in
    let place = ap (λ t. pair_place t c.at-r.result c.at-s.result) (c.requires.count ∙ sym c.m-m.ensures.value) ∙ ap (λ t. pair_place c.m-m.result t c.at-s.result) c.at-r.ensures ∙ ap (pair_place c.m-m.result _) c.at-s.ensures ∙ at.2 in
    let p = err_from_is_err_and c.from_residual-in_err-terms.result c.from_residual-in_err-terms.ensures.1 in
    rw (p.1, p.2) (pair_fault d n c.args.values.now.positive c.requires.count c.loop-at.at c.loop-at.lists c.at-r.result c.at-s.result c.in_err-terms.field-0.0 c.requires.stands c.loop-at.invariant place c.in_err-terms.ensures)

pub loop-at-preserved : goal.loop-at-preserved
loop-at-preserved c =
    let d = c.args.datum.now in
    let n = table_in c.args.values.now in
    let at = pair_at d n c.m-m.result c.m-m.ensures.value c.loop-at.at c.loop-at-test.true in
    let place = ap (λ t. pair_place t c.at-r.result c.at-s.result) (c.requires.count ∙ sym c.m-m.ensures.value) ∙ ap (λ t. pair_place c.m-m.result t c.at-s.result) c.at-r.ensures ∙ ap (pair_place c.m-m.result _) c.at-s.ensures ∙ at.2 in
    listed_more d n c.args.values.now.positive c.requires.count c.loop-at.at c.loop-at.lists c.in_ok-lists-2.lists c.at-r.result c.at-s.result c.in_ok-terms.terms.items c.loop-at.invariant
    (subst (IsNumber d) (sym c.at-r.ensures) at.0) (subst (IsNumber d) (sym c.at-s.ensures) at.1) place (c.in_ok-lists-2.ensures ∙ ap (λ (ts : List Term). c.loop-at.lists ++ ts ∷ []) c.deref.ensures.value) c.in_ok-terms.ensures

pub returns-clause-count : goal.returns-clause-count
returns-clause-count c =
    let n = c.loop-at.invariant.count in
    let l = c.loop-at-test.false in
    let w = c.loop-at.auto.at-end in
    let e = ap (λ t. 2 * t * (2 * t)) (c.m-m.ensures.value ∙ sym c.requires.count) in
    omega (arith, n, l, w, e)

pub returns-clause-terms : goal.returns-clause-terms
returns-clause-terms c =
    let l = c.loop-at-test.false in
    let e = ap (λ t. 2 * t * (2 * t)) (c.m-m.ensures.value ∙ sym c.requires.count) in
    listed_all c.args.datum.now (table_in c.args.values.now) c.args.values.now.positive c.requires.count c.loop-at.at c.loop-at.lists (omega (arith, l, e)) c.loop-at.invariant
