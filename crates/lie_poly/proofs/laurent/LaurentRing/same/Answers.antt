use Rattle.std.proofs.Common.{◌≡◌, sym, ap, ◌∙◌}
use Rattle.lie_poly.specs.Polynomials.{Polynomial, same_polynomial}
use Rattle.lie_poly.proofs.TermLemmas.{same_from_tests, tests_from_same}
use Rattle.lie_poly.proofs.laurent.LaurentRing.same.Goals as goal

pub returns : goal.returns
returns c =
    let p = c.args.a.now in
    let q = c.args.b.now in
    let xs = c.a.inside.terms.items in
    let ys = c.b.inside.terms.items in
    let xs_is : xs ≡ p.terms = ap (λ (p : Polynomial). p.terms) c.a.view_is in
    let ys_is : ys ≡ q.terms = ap (λ (p : Polynomial). p.terms) c.b.view_is in (
      λ t. same_polynomial p q (sym xs_is ∙ same_from_tests xs ys (sym c.eq.ensures ∙ t) ∙ ys_is),
      λ e. c.eq.ensures ∙ tests_from_same xs ys (xs_is ∙ ap (λ (p : Polynomial). p.terms) e ∙ sym ys_is),
    )
