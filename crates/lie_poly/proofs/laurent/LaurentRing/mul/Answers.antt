use Rattle.std.proofs.Common.{◌*◌, ◌<◌, ◌^◌, inl, inr, sym, ap, ap₂, subst, ◌∙◌, T, refl, arith}
use Rattle.std.proofs.lemmas.Bool.{cases_lt, false≢true}
use Rattle.lie_poly.specs.Terms.{Terms, is_canonical, collect, products, size_of}
use Rattle.lie_poly.specs.Canonical.{canonical-collect}
use Rattle.lie_poly.specs.Polynomials.{Polynomial, product, same_polynomial}
use Rattle.lie_poly.specs.LaurentLaws.{size-collect, size-products}
use Rattle.lie_poly.proofs.laurent.LaurentRing.mul.Goals as goal

pub invariant_of-result : goal.invariant_of-result
invariant_of-result c = (subst (λ zs. T (is_canonical zs)) (sym c.in-Ok.ensures) (canonical-collect (products c.deref-3.result.now c.deref-4.result.now)), tt)

pub returns-in-Ok-clause-fits : goal.returns-in-Ok-clause-fits
returns-in-Ok-clause-fits c =
    let xs = c.deref-3.result.now in
    let ys = c.deref-4.result.now in
    let vs = c.deref.result.now in
    let ws = c.deref-2.result.now in
    let sizes = ap₂ (λ (v w : Terms). size_of v * size_of w) (c.deref-3.ensures.value ∙ sym c.deref.ensures.value) (c.deref-4.ensures.value ∙ sym c.deref-2.ensures.value) in
    let small : size_of vs * size_of ws < 2 ^ 126 = elim (cases_lt (size_of vs * size_of ws) (2 ^ 126)) [
      | inl low ↦ low
      | inr high ↦ absurd (false≢true (sym c.if-is_wide_product.false ∙ c.is_wide_product.ensures.1 (inl high)))
    ] in
    let size = ap size_of c.in-Ok.ensures in
    (refl, omega (arith, size, size-collect (products xs ys), size-products xs ys, sizes, small))

pub returns-in-Ok-clause-value : goal.returns-in-Ok-clause-value
returns-in-Ok-clause-value c =
    let xs_are = c.deref-3.ensures.value ∙ ap (λ (p : Polynomial). p.terms) c.a.view_is in
    let ys_are = c.deref-4.ensures.value ∙ ap (λ (p : Polynomial). p.terms) c.b.view_is in
    same_polynomial _ (product c.args.a.now c.args.b.now) (c.in-Ok.ensures ∙ ap₂ (λ (v w : Terms). collect (products v w)) xs_are ys_are)
