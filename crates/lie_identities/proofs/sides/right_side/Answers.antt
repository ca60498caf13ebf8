-- S2 has the factors of its terms, and the sign of S7 is 1 or -1.
use mir.Syntax.{w128}
use mir.Val.{to_z, of_z}
use Rattle.std.proofs.Common.{◌≡◌, [], ◌∷◌, ◌++◌, ℤ, pos, negsuc, neg_ℤ, List, IfOk, sym, ap, ap₂, subst, ◌∙◌}
use Rattle.std.specs.List.{All}
use Rattle.lie_datum.specs.RootDatum.{IsSimpleIndex}
use Rattle.lie_datum.specs.RootList.{IsNumber}
use Rattle.lie_const.specs.CommutatorTerms.{IsPair}
use Rattle.lie_const.specs.Signs.{eta_of, image}
use Rattle.lie_const.proofs.FoundRoots.{number_of_is}
use Rattle.lie_const.proofs.SpecialLemmas.{abs_number}
use Rattle.lie_poly.specs.Polynomials.{Polynomial, constant, monomial, laurent}
use Rattle.lie_identities.specs.AuditRelations.{Factor, RootElement}
use Rattle.lie_identities.specs.Audit.{laurent_variables, right_factors}
use Rattle.lie_identities.specs.Sides.{IsRelationOf, IsSmallTerm}
use Rattle.lie_identities.proofs.Appended.{appended}
use Rattle.lie_identities.proofs.MonomialLemmas.{read-sign}
use Rattle.lie_identities.proofs.TermBounds.{table_terms_small}
use Rattle.lie_identities.proofs.sides.right_side.Goals as goal

pub c-requires-clause-r : goal.c-requires-clause-r
c-requires-clause-r c =
    let pair : IsPair c.args.datum.now c.in-S2.r c.in-S2.s = subst (IsRelationOf c.args.datum.now) c.in-S2.is c.requires.relation in
    abs_number c.args.datum.now c.args.consts.now.positive c.in-S2.r c.requires.constants.0 pair.left

pub c-requires-clause-s : goal.c-requires-clause-s
c-requires-clause-s c =
    let pair : IsPair c.args.datum.now c.in-S2.r c.in-S2.s = subst (IsRelationOf c.args.datum.now) c.in-S2.is c.requires.relation in
    abs_number c.args.datum.now c.args.consts.now.positive c.in-S2.s c.requires.constants.0 pair.right

pub times_terms-requires : goal.times_terms-requires
times_terms-requires c =
    let pair : IsPair c.args.datum.now c.in-S2.r c.in-S2.s = subst (IsRelationOf c.args.datum.now) c.in-S2.is c.requires.relation in
    subst (All IsSmallTerm) (sym c.c.ensures) (table_terms_small c.args.datum.now c.loaded.ensures c.args.consts.now c.requires.constants c.in-S2.r c.in-S2.s pair)

pub eta-requires-clause-s : goal.eta-requires-clause-s
eta-requires-clause-s c =
    let both : IsSimpleIndex c.args.datum.now.base c.in-S7.i × IsNumber c.args.datum.now c.in-S7.s = subst (IsRelationOf c.args.datum.now) c.in-S7.is c.requires.relation in
    abs_number c.args.datum.now c.args.signs.now.positive c.in-S7.s c.requires.signs.positive both.1

pub returns-in_ok-side-in-S7 : goal.returns-in_ok-side-in-S7
returns-in_ok-side-in-S7 c =
    let d = c.args.datum.now in
    let i = c.in-S7.i in
    let s = c.in-S7.s in
    let weyl = λ (k : ℤ). RootElement k (constant (pos 1)) ∷ (RootElement (neg_ℤ k) (constant (negsuc 0)) ∷ (RootElement k (constant (pos 1)) ∷ [])) in
    let x : Factor Polynomial = RootElement c.reflect-image.result (monomial (to_z w128 (of_z w128 c.eta.result)) (pos 1) (pos 0)) in
    let first = c.in_ok-side-in-S7.ensures ∙ ap (λ l. l ++ x ∷ []) c.one-one.ensures in
    let root : c.reflect-image.result ≡ image d i s = sym (number_of_is d c.loaded.ensures c.reflect-image.result _ c.reflect-image.ensures.number (ap (λ t. t.coeffs) c.reflect-image.ensures.root)) in
    let f = read-sign c.eta.result c.eta.ensures.unit ∙ ap (λ (n : ℤ). laurent.mul (laurent.of_int n) (laurent_variables.t_to (pos 1))) c.eta.ensures.value in
    subst (λ (l : List (Factor Polynomial)). IfOk c.times_weyl.result (λ s. s.factors.items ≡ l))
    (appended [] c.in_ok-side-in-S7.side.factors.items (x ∷ []) (weyl c.simple.result) first
    ∙ ap (λ k. x ∷ weyl k) c.simple.ensures.value
    ∙ ap₂ (λ k g. RootElement k g ∷ weyl (pos i)) root f
    ∙ sym (ap (right_factors d c.args.consts.now (eta_of c.args.signs.now)) c.in-S7.is))
    c.times_weyl.ensures
