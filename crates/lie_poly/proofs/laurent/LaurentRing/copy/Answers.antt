use Rattle.std.proofs.Common.{ap, ◌∙◌}
use Rattle.std.specs.List.{each_same}
use Rattle.lie_poly.specs.Polynomials.{Polynomial, same_polynomial}
use Rattle.lie_poly.proofs.laurent.LaurentRing.copy.Goals as goal

pub returns-in-Ok-clause-value : goal.returns-in-Ok-clause-value
returns-in-Ok-clause-value c =
    same_polynomial _ c.args.a.now (each_same c.a.inside.terms.items c.in-Ok.terms.items c.in-Ok.ensures.cases.0 ∙ ap (λ (p : Polynomial). p.terms) c.a.view_is)
