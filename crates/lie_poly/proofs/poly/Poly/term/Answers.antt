use Rattle.std.proofs.Common.{◌≡◌, ◌++◌, [], ap, ◌∙◌, to_z, of_z, w32}
use Rattle.std.specs.Int.{w128}
use Rattle.std.proofs.lemmas.Int.{to_z-of_z}
use Rattle.lie_poly.specs.Terms.{Terms, term, keep}
use Rattle.lie_poly.specs.Polynomials.{monomial, same_polynomial}
use Rattle.lie_poly.proofs.poly.Poly.term.Goals as goal

pub returns-in-Ok-clause-value : goal.returns-in-Ok-clause-value
returns-in-Ok-clause-value c =
    let passed = term (to_z w32 (of_z w32 c.args.et), to_z w32 (of_z w32 c.args.eu)) (to_z w128 (of_z w128 c.args.c)) in
    let is : passed ≡ term (c.args.et, c.args.eu) c.args.c = λ i. record {
      exponents = (to_z-of_z w32 c.args.et c.ranges.et i, to_z-of_z w32 c.args.eu c.ranges.eu i);
      coefficient = to_z-of_z w128 c.args.c c.ranges.c i;
    } in
    same_polynomial _ (monomial c.args.c c.args.et c.args.eu) (c.in-Ok.ensures ∙ ap (λ (s : Terms). s ++ keep passed []) c.new-terms.ensures.items ∙ ap (λ x. keep x []) is)
