use Rattle.std.proofs.Common.{◌≤◌, ◌+◌, length, subst, sym, ◌∙◌, arith, ⊎_elim, unsigned_abs, lit<, MatchOption}
use mir.Val.{to_z, of_z}
use mir.Syntax.{w128}
use Rattle.lie_datum.proofs.VectorLemmas.{plain}
use Rattle.lie_datum.specs.Numbers.{place}
use Rattle.lie_datum.proofs.NumberLemmas.{place_within}
use Rattle.lie_const.specs.Modules.{dimension}
use Rattle.lie_const.specs.Signs.{eta_of}
use Rattle.lie_weight.specs.Conjugation.{absolute_height}
use Rattle.lie_weight.specs.Factors.{AreModuleFactors, HasSmallWork, IsFirstHugePower, conjugate_power}
use Rattle.lie_weight.specs.Completion.{KeepsAll, Extends, IsPartly, AreAllFactors}
use Rattle.lie_weight.proofs.DraftLemmas.{keeps_powers}
use Rattle.lie_weight.proofs.ConjugatePowers.{conjugate_alone}
use Rattle.lie_weight.proofs.CompletionLemmas.{partly_none, partly_new, extends_new, factors_kept, first_huge}
use Rattle.lie_weight.proofs.completion.complete_root.Goals as goal

pub returns-in_default-clause-partly : goal.returns-in_default-clause-partly
returns-in_default-clause-partly c = partly_none c.args.datum.now (eta_of c.args.signs.now) c.args.space.now c.args.r c.requires.number c.in_default.ensures c.requires.partly

pub first_huge_power-requires-clause-number : goal.first_huge_power-requires-clause-number
first_huge_power-requires-clause-number c = let p = (place_within c.args.datum.now c.in-Some.lower.root c.in-Some.ensures.number).1 in let e = c.requires.partly.draft.shape.positive in omega (arith, p, e)

pub eta-sign-requires-clause-s : goal.eta-sign-requires-clause-s
eta-sign-requires-clause-s c = let p = (place_within c.args.datum.now c.in-Some.lower.root c.in-Some.ensures.number).1 in let e = c.requires.signs.positive in omega (arith, p, e)

pub conjugated_powers-requires-clause-number : goal.conjugated_powers-requires-clause-number
conjugated_powers-requires-clause-number c = let p = (place_within c.args.datum.now c.in-Some.lower.root c.in-Some.ensures.number).1 in let e = c.requires.partly.draft.shape.positive in omega (arith, p, e)

pub set_powers-requires-clause-r : goal.set_powers-requires-clause-r
set_powers-requires-clause-r c = let p = (place_within c.args.datum.now c.args.r c.requires.number).1 in let e = c.requires.partly.draft.shape.positive in omega (arith, p, e)

pub set_powers-requires-clause-powers : goal.set_powers-requires-clause-powers
set_powers-requires-clause-powers c =
    let v = c.args.space.now in
    let i = c.in-Some.lower.index in
    let s = c.in-Some.lower.root in
    let f = c.index-factors-lower.result in
    let sign = to_z w128 (of_z w128 c.eta-sign.result) in
    let factors : AreModuleFactors v i f = subst (AreModuleFactors v i) (sym c.index-factors-lower.is) (c.requires.factors.each i f c.in-Some.ensures.index) in
    keeps_powers (dimension v) (conjugate_power f sign v s) c.in-Ok.powers.items c.requires.some (conjugate_alone f sign v s factors.factors c.kept.ensures) c.in-Ok.ensures

pub returns-in-Ok-Some-clause-fault : goal.returns-in-Ok-Some-clause-fault
returns-in-Ok-Some-clause-fault c =
    let d = c.args.datum.now in
    let v = c.args.space.now in
    let i = c.in-Some.lower.index in
    let s = c.in-Some.lower.root in
    let l = c.in-Some.ensures in
    let f = c.index-factors-lower.result in
    let factors : AreModuleFactors v i f = subst (AreModuleFactors v i) (sym c.index-factors-lower.is) (c.requires.factors.each i f l.index) in
    first_huge d c.loaded.ensures (eta_of c.args.signs.now) v c.args.r i s _ f l factors
    (subst (λ o. MatchOption o (HasSmallWork f v s) (IsFirstHugePower f v s)) c.in-Ok-Some.field-0-is c.in-Ok-Some.ensures) c.requires.partly

pub returns-in-Ok-clause-partly : goal.returns-in-Ok-clause-partly
returns-in-Ok-clause-partly c =
    let d = c.args.datum.now in
    let eta = eta_of c.args.signs.now in
    let v = c.args.space.now in
    let i = c.in-Some.lower.index in
    let s = c.in-Some.lower.root in
    let l = c.in-Some.ensures in
    let f = c.index-factors-lower.result in
    let Ms = c.in-Ok.powers.items in
    let factors : AreModuleFactors v i f = subst (AreModuleFactors v i) (sym c.index-factors-lower.is) (c.requires.factors.each i f l.index) in
    let sign = c.eta-sign.result in
    let one : unsigned_abs sign ≤ 1 = ⊎_elim (λ e. subst (λ t. unsigned_abs t ≤ 1) (sym e) (omega arith)) (λ e. subst (λ t. unsigned_abs t ≤ 1) (sym e) (omega arith)) c.eta-sign.ensures.unit in
    let keeps : KeepsAll (dimension v) (conjugate_power f (eta i s) v s) Ms = subst (λ t. KeepsAll (dimension v) (conjugate_power f t v s) Ms) (plain sign 1 one (lit< tt) ∙ c.eta-sign.ensures.value) c.in-Ok.ensures in
    let small = subst (λ o. MatchOption o (HasSmallWork f v s) (IsFirstHugePower f v s)) c.in-Ok-None.field-0-is c.in-Ok-None.ensures in
    subst (IsPartly d eta (absolute_height d c.args.r) (place (length d.positive) c.args.r + 1)) (sym c.set_powers.ensures)
    (partly_new d c.loaded.ensures v c.requires.partly.draft c.args.r c.requires.number c.requires.past Ms eta i s l f factors keeps small c.requires.partly)

pub returns-in-Ok-clause-factors : goal.returns-in-Ok-clause-factors
returns-in-Ok-clause-factors c =
    subst (λ u. AreAllFactors c.args.datum.now u c.args.factors.now) (sym c.set_powers.ensures)
    (factors_kept c.args.datum.now c.loaded.ensures c.args.space.now c.requires.partly.draft c.args.r c.requires.number c.requires.past c.in-Ok.powers.items c.args.factors.now c.requires.factors)

pub returns-in-Ok-clause-extends : goal.returns-in-Ok-clause-extends
returns-in-Ok-clause-extends c =
    let d = c.args.datum.now in
    let eta = eta_of c.args.signs.now in
    let v = c.args.space.now in
    let i = c.in-Some.lower.index in
    let s = c.in-Some.lower.root in
    let l = c.in-Some.ensures in
    let f = c.index-factors-lower.result in
    let Ms = c.in-Ok.powers.items in
    let factors : AreModuleFactors v i f = subst (AreModuleFactors v i) (sym c.index-factors-lower.is) (c.requires.factors.each i f l.index) in
    let sign = c.eta-sign.result in
    let one : unsigned_abs sign ≤ 1 = ⊎_elim (λ e. subst (λ t. unsigned_abs t ≤ 1) (sym e) (omega arith)) (λ e. subst (λ t. unsigned_abs t ≤ 1) (sym e) (omega arith)) c.eta-sign.ensures.unit in
    let keeps : KeepsAll (dimension v) (conjugate_power f (eta i s) v s) Ms = subst (λ t. KeepsAll (dimension v) (conjugate_power f t v s) Ms) (plain sign 1 one (lit< tt) ∙ c.eta-sign.ensures.value) c.in-Ok.ensures in
    let small = subst (λ o. MatchOption o (HasSmallWork f v s) (IsFirstHugePower f v s)) c.in-Ok-None.field-0-is c.in-Ok-None.ensures in
    subst (Extends d v) (sym c.set_powers.ensures) (extends_new d c.loaded.ensures v c.requires.partly.draft c.args.r c.requires.number c.requires.past Ms eta i s l f factors keeps small)
