use Rattle.std.proofs.Common.{◌≡◌, None, Some, subst, sym, ◌∙◌}
use Rattle.lie_datum.specs.Vectors.{plus}
use Rattle.lie_datum.specs.RootList.{NamesRoot}
use Rattle.lie_const.specs.StructureConstants.{coeffs_of}
use Rattle.lie_const.proofs.FoundRoots.{gap_named}
use Rattle.lie_const.proofs.Kept.{norm_kept}
use Rattle.lie_const.proofs.filling.gap.Goals as goal

pub returns-in-Some-clause-value : goal.returns-in-Some-clause-value
returns-in-Some-clause-value c =
    let d = c.args.datum.now in
    let named = subst (λ t. NamesRoot d (λ v. v.coeffs ≡ plus (coeffs_of d c.args.s) (coeffs_of d t)) (Some c.in-Some.t)) c.opposite.ensures c.in-Some.ensures in
    norm_kept c.length2.result c.length2.ensures.positive c.length2.ensures.bound ∙ c.length2.ensures.value ∙ sym (gap_named d c.loaded.ensures c.args.s c.args.r (Some c.in-Some.t) c.requires.r named)

pub returns-in-None-clause-value : goal.returns-in-None-clause-value
returns-in-None-clause-value c =
    let d = c.args.datum.now in
    let named = subst (λ t. NamesRoot d (λ v. v.coeffs ≡ plus (coeffs_of d c.args.s) (coeffs_of d t)) None) c.opposite.ensures (subst (NamesRoot d (λ v. v.coeffs ≡ plus (coeffs_of d c.args.s) (coeffs_of d c.opposite.result))) c.in-None.is c.sum.ensures) in
    sym (gap_named d c.loaded.ensures c.args.s c.args.r None c.requires.r named)
