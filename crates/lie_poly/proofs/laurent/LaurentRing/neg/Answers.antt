use Rattle.std.proofs.Common.{map, sym, ap, subst, ◌∙◌, T, refl, arith}
use Rattle.lie_poly.specs.Terms.{is_canonical, size_of}
use Rattle.lie_poly.specs.Polynomials.{Polynomial, negative, same_polynomial}
use Rattle.lie_poly.specs.LaurentLaws.{laurent_ring}
use Rattle.lie_poly.proofs.MergeLemmas.{collect-canonical}
use Rattle.lie_poly.proofs.ProductLemmas.{negative_term, canonical-negatives}
use Rattle.lie_poly.proofs.laurent.LaurentRing.neg.Goals as goal

pub invariant_of-result : goal.invariant_of-result
invariant_of-result c =
    let terms_are = c.in-Ok.ensures ∙ ap (map negative_term) (c.deref.ensures.value ∙ ap (λ (p : Polynomial). p.terms) c.a.view_is) in
    (subst (λ zs. T (is_canonical zs)) (sym terms_are) (canonical-negatives c.args.a.now.terms c.args.a.now.canonical), tt)

pub returns-in-Ok-clause-fits : goal.returns-in-Ok-clause-fits
returns-in-Ok-clause-fits c =
    let p = c.args.a.now in
    let terms_are = c.in-Ok.ensures ∙ ap (map negative_term) (c.deref.ensures.value ∙ ap (λ (p : Polynomial). p.terms) c.a.view_is) ∙ sym (collect-canonical (map negative_term p.terms) (canonical-negatives p.terms p.canonical)) in
    let size = ap size_of terms_are ∙ laurent_ring.sized.size_neg p refl in
    (refl, omega (arith, size, c.requires.1))

pub returns-in-Ok-clause-value : goal.returns-in-Ok-clause-value
returns-in-Ok-clause-value c =
    let p = c.args.a.now in
    same_polynomial _ (negative p)
    (c.in-Ok.ensures ∙ ap (map negative_term) (c.deref.ensures.value ∙ ap (λ (p : Polynomial). p.terms) c.a.view_is) ∙ sym (collect-canonical (map negative_term p.terms) (canonical-negatives p.terms p.canonical)))
