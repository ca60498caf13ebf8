use Rattle.std.proofs.Common.{◌≡◌, ap, subst, ◌∙◌}
use Rattle.std.specs.Prelude.{MatchOption}
use Rattle.lie_poly.specs.Terms.{Terms}
use Rattle.lie_poly.specs.Polynomials.{Polynomial}
use Rattle.lie_poly.specs.Differences.{IsFirstDifference, coefficients_of}
use Rattle.lie_poly.proofs.DifferenceLemmas.{first-known}
use Rattle.lie_poly.proofs.poly.Poly.first_difference.Goals as goal

pub returns : goal.returns
returns c =
    let p = c.args.self.now in
    let q = c.args.other.now in
    let r = c.first_difference_of.result in
    let xs_is = c.deref.ensures.value ∙ ap (λ (p : Polynomial). p.terms) c.self.view_is in
    let ys_is = c.deref-2.ensures.value ∙ ap (λ (p : Polynomial). p.terms) c.other.view_is in
    let turned = subst (λ (xs : Terms). MatchOption r (xs ≡ c.deref-2.result.now) (λ d. IsFirstDifference (coefficients_of xs) (coefficients_of c.deref-2.result.now) d.0 d.1 d.2 d.3)) xs_is c.first_difference_of.ensures in
    first-known p q r (subst (λ (ys : Terms). MatchOption r (p.terms ≡ ys) (λ d. IsFirstDifference (coefficients_of p.terms) (coefficients_of ys) d.0 d.1 d.2 d.3)) ys_is turned)
