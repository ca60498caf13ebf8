use Rattle.std.proofs.Common.{ℕ, List, [], subst, sym}
use Rattle.std.specs.List.{filter, AllZip}
use Rattle.std.proofs.lemmas.Result.{err_from_is_err_and}
use Rattle.lie_const.specs.declared.term.Term.{Term}
use Rattle.lie_datum.proofs.VectorLemmas.{take_whole}
use Rattle.lie_datum.specs.RootList.{root_of}
use Rattle.lie_datum.proofs.SignedRoots.{root_is}
use Rattle.lie_const.specs.CommutatorTerms.{IsTerm, exponents, term_exponents}
use Rattle.lie_const.specs.Filling.{table_in}
use Rattle.lie_const.proofs.TermLemmas.{has_root, no_terms, terms_more, pair_from_sum, term_fault}
use Rattle.lie_const.proofs.terms.terms_of.Goals as goal

pub returns-in_default : goal.returns-in_default
returns-in_default c pair =
    let d = c.args.datum.now in
    let n = table_in c.args.values.now in
    subst (λ (ts : List Term). AllZip (IsTerm d n c.args.r c.args.s) (term_exponents d c.args.r c.args.s) ts) (sym c.new-terms.ensures.items)
    (subst (λ (es : List (ℕ × ℕ)). AllZip (IsTerm d n c.args.r c.args.s) es []) (sym (no_terms d c.loaded.ensures c.args.r c.args.s pair (λ k h. c.in_default.ensures (root_of d k) (root_is d c.loaded.ensures k h.number) h.is))) tt)

pub loop-i-init : goal.loop-i-init
loop-i-init c =
    let d = c.args.datum.now in
    subst (λ (ts : List Term). AllZip (IsTerm d (table_in c.args.values.now) c.args.r c.args.s) [] ts) (sym c.new-terms.ensures.items) tt

pub loop-i-preserved : goal.loop-i-preserved
loop-i-preserved c = terms_more c.args.datum.now (table_in c.args.values.now) c.args.r c.args.s exponents c.loop-i.i-index c.loop-i.terms.items c.add_term.new.terms.items c.loop-i-test.true c.loop-i.invariant c.in_ok-add_term.ensures

pub returns : goal.returns
returns c pair =
    let d = c.args.datum.now in
    let n = table_in c.args.values.now in
    subst (λ (es : List (ℕ × ℕ)). AllZip (IsTerm d n c.args.r c.args.s) (filter (has_root d n c.args.r c.args.s) es) c.loop-i.terms.items) (take_whole c.loop-i.i-index exponents c.loop-i-test.false) c.loop-i.invariant

pub returns-in_err-add_term : goal.returns-in_err-add_term
returns-in_err-add_term c =
    let d = c.args.datum.now in
    let n = table_in c.args.values.now in
    let p = err_from_is_err_and c.from_residual.result c.from_residual.ensures.1 in
    rw (p.1, p.2) (term_fault d n c.args.r c.args.s c.loop-i.i-index c.loop-i.terms.items c.in_err-add_term.field-0.0 (pair_from_sum d c.loaded.ensures c.args.r c.args.s c.in-Some.sum (record { left = c.requires.r; right = c.requires.s; number = c.in-Some.ensures.0; is = c.in-Some.ensures.1 })) c.loop-i-test.true c.loop-i.invariant c.in_err-add_term.ensures)
