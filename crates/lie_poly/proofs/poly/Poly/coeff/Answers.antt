use Rattle.std.proofs.Common.{◌≡◌, ap, ap₂, sym, subst, ◌∙◌, T, rules, SFits, to_z, of_z, w32}
use Rattle.std.specs.Int.{w128}
use Rattle.std.proofs.lemmas.Int.{to_z-of_z}
use Rattle.lie_poly.specs.Terms.{Exponents, is_canonical, coefficient_in}
use Rattle.lie_poly.specs.Polynomials.{Polynomial}
use Rattle.lie_poly.proofs.poly.Poly.coeff.Goals as goal

pub coefficient_of-requires : goal.coefficient_of-requires
coefficient_of-requires c =
    subst (λ zs. T (is_canonical zs)) (sym (c.deref.ensures.value ∙ ap (λ (p : Polynomial). p.terms) c.self.view_is)) c.args.self.now.canonical

pub returns : goal.returns
returns c =
    let small : SFits w128 c.coefficient_of.result = search rules in
    let passed : ◌≡◌ {A = Exponents} (to_z w32 (of_z w32 c.args.et), to_z w32 (of_z w32 c.args.eu)) (c.args.et, c.args.eu) = λ i. (to_z-of_z w32 c.args.et c.ranges.et i, to_z-of_z w32 c.args.eu c.ranges.eu i) in
    to_z-of_z w128 c.coefficient_of.result small ∙ c.coefficient_of.ensures
    ∙ ap₂ coefficient_in (c.deref.ensures.value ∙ ap (λ (p : Polynomial). p.terms) c.self.view_is) passed
