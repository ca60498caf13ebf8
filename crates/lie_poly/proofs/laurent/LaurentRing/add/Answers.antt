use Rattle.std.proofs.Common.{◌++◌, sym, ap, ap₂, subst, ◌∙◌, T, refl, arith}
use Rattle.lie_poly.specs.Terms.{Terms, is_canonical, collect, size_of}
use Rattle.lie_poly.specs.Canonical.{canonical-collect}
use Rattle.lie_poly.specs.Polynomials.{Polynomial, plus, same_polynomial}
use Rattle.lie_poly.specs.LaurentLaws.{size-collect}
use Rattle.lie_poly.proofs.TermLemmas.{size-append}
use Rattle.lie_poly.proofs.laurent.LaurentRing.add.Goals as goal

pub invariant_of-result : goal.invariant_of-result
invariant_of-result c = (subst (λ zs. T (is_canonical zs)) (sym c.in-Ok.ensures) (canonical-collect (c.deref-3.result.now ++ c.deref-4.result.now)), tt)

pub returns-in-Ok-clause-fits : goal.returns-in-Ok-clause-fits
returns-in-Ok-clause-fits c =
    let xs = c.deref-3.result.now in
    let ys = c.deref-4.result.now in
    let xs_size = ap size_of (c.deref-3.ensures.value ∙ sym c.deref.ensures.value) ∙ sym c.size_of.ensures in
    let ys_size = ap size_of (c.deref-4.ensures.value ∙ sym c.deref-2.ensures.value) ∙ sym c.size_of-2.ensures in
    let size = ap size_of c.in-Ok.ensures in
    (refl, omega (arith, size, size-collect (xs ++ ys), size-append xs ys, xs_size, ys_size, c.if-size_of-ge-SIZE_LIMIT.false))

pub returns-in-Ok-clause-value : goal.returns-in-Ok-clause-value
returns-in-Ok-clause-value c =
    let xs_are = c.deref-3.ensures.value ∙ ap (λ (p : Polynomial). p.terms) c.a.view_is in
    let ys_are = c.deref-4.ensures.value ∙ ap (λ (p : Polynomial). p.terms) c.b.view_is in
    same_polynomial _ (plus c.args.a.now c.args.b.now) (c.in-Ok.ensures ∙ ap₂ (λ (v w : Terms). collect (v ++ w)) xs_are ys_are)
