use mir.Syntax.{w32, w128}
use mir.Val.{to_z, of_z}
use Rattle.std.proofs.Common.{◌≤◌, nat_abs, ap, sym, subst, ◌∙◌, arith}
use Rattle.lie_poly.specs.Polynomials.{Polynomial, size, degree}
use Rattle.lie_identities.proofs.MonomialLemmas.{size-monomial, degree-monomial, small128, small32}
use Rattle.lie_identities.proofs.sides.Side.times_root.Goals as goal

pub times-requires-clause-weight : goal.times-requires-clause-weight
times-requires-clause-weight c =
    c.unsigned_abs.ensures.value ∙ sym (ap size c.in_ok-f.ensures ∙ size-monomial (to_z w128 (of_z w128 c.args.c)) (to_z w32 (of_z w32 c.args.et)) (to_z w32 (of_z w32 c.args.eu)))

pub times-requires-clause-light : goal.times-requires-clause-light
times-requires-clause-light c =
    let e = ap size c.in_ok-f.ensures ∙ size-monomial (to_z w128 (of_z w128 c.args.c)) _ _ ∙ ap nat_abs (small128 c.args.c c.requires.c) in
    subst (λ n. n ≤ 64) (sym e) c.requires.c

pub times-requires-clause-shallow : goal.times-requires-clause-shallow
times-requires-clause-shallow c =
    let i = small32 c.args.et (let l = c.requires.et in omega (arith, l)) in
    let j = small32 c.args.eu (let l = c.requires.eu in omega (arith, l)) in
    subst (λ (f : Polynomial). degree f ≤ 3) (sym c.in_ok-f.ensures)
    (degree-monomial (to_z w128 (of_z w128 c.args.c)) (to_z w32 (of_z w32 c.args.et)) (to_z w32 (of_z w32 c.args.eu)) 3
    (subst (λ z. nat_abs z ≤ 3) (sym i) c.requires.et) (subst (λ z. nat_abs z ≤ 3) (sym j) c.requires.eu))
