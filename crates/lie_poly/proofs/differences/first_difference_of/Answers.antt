use Rattle.std.proofs.Common.{get_or, subst, sym, ap, ap₂, ◌∙◌, rules, SFits, to_z, of_z}
use Rattle.std.specs.Prelude.{pos}
use Rattle.std.specs.Ordering.{ordering_reverse}
use Rattle.std.specs.Int.{w128}
use Rattle.std.proofs.lemmas.Int.{to_z-of_z}
use Rattle.lie_poly.specs.Terms.{Term, term, exponents_cmp}
use Rattle.lie_poly.specs.Canonical.{exponents_total}
use Rattle.lie_poly.specs.Differences.{IsFirstDifference, coefficients_of}
use Rattle.lie_poly.proofs.DifferenceLemmas.{difference-turned, first-less, first-equal, past-end, past-next, answer-first, answer-second}
use Rattle.lie_poly.proofs.differences.first_difference_of.Goals as goal

pub returns-in-None-Some : goal.returns-in-None-Some
returns-in-None-Some c =
    let xs = c.args.xs.now in
    let ys = c.args.ys.now in
    let n = c.common_front-front.result in
    let front = c.common_front-front.ensures in
    let d = term (pos 0, pos 0) (pos 0) in
    let y = c.in-None-Some.y.now in
    let found = c.in-None-Some.ensures'.lookup.3 in
    let small : SFits w128 y.coefficient = search rules in
    let at = get_or ys n d in
    answer-second (coefficients_of xs) (coefficients_of ys) c.difference_at.result y at (pos 0) (to_z w128 (of_z w128 y.coefficient)) c.difference_at.ensures (to_z-of_z w128 y.coefficient small) (found.1 d)
    (difference-turned (coefficients_of ys) (coefficients_of xs) at.exponents.0 at.exponents.1 at.coefficient (pos 0)
    (first-less ys xs n d c.requires.ys c.requires.xs front.ys front.xs (sym front.equal) found.0 (past-end at.exponents n xs c.in-None-Some.ensures.lookup.3)))

pub returns-in-Some-None : goal.returns-in-Some-None
returns-in-Some-None c =
    let xs = c.args.xs.now in
    let ys = c.args.ys.now in
    let n = c.common_front-front.result in
    let front = c.common_front-front.ensures in
    let d = term (pos 0, pos 0) (pos 0) in
    let x = c.in-Some-None.x.now in
    let found = c.in-Some-None.ensures.lookup.3 in
    let small : SFits w128 x.coefficient = search rules in
    let at = get_or xs n d in
    answer-first (coefficients_of xs) (coefficients_of ys) c.difference_at-in-Some-None.result x at (to_z w128 (of_z w128 x.coefficient)) (pos 0) c.difference_at-in-Some-None.ensures (to_z-of_z w128 x.coefficient small) (found.1 d)
    (first-less xs ys n d c.requires.xs c.requires.ys front.xs front.ys front.equal found.0 (past-end at.exponents n ys c.in-Some-None.ensures'.lookup.3))

pub returns-in-Less : goal.returns-in-Less
returns-in-Less c =
    let xs = c.args.xs.now in
    let ys = c.args.ys.now in
    let n = c.common_front-front.result in
    let front = c.common_front-front.ensures in
    let d = term (pos 0, pos 0) (pos 0) in
    let x = c.in-Some-Some.x.now in
    let found = c.in-Some-Some.ensures.lookup.3 in
    let other = c.in-Some-Some.ensures'.lookup.3 in
    let small : SFits w128 x.coefficient = search rules in
    let at = get_or xs n d in
    let less = sym (ap₂ (λ (v w : Term). exponents_cmp v.exponents w.exponents) (found.1 d) (other.1 d)) ∙ sym c.cmp.ensures ∙ c.in-Less.is in
    answer-first (coefficients_of xs) (coefficients_of ys) c.difference_at-in-Less.result x at (to_z w128 (of_z w128 x.coefficient)) (pos 0) c.difference_at-in-Less.ensures (to_z-of_z w128 x.coefficient small) (found.1 d)
    (first-less xs ys n d c.requires.xs c.requires.ys front.xs front.ys front.equal found.0
    (past-next xs ys n d c.requires.xs c.requires.ys front.xs front.ys front.equal at.exponents other.0 less))

pub returns-in-Equal : goal.returns-in-Equal
returns-in-Equal c =
    let xs = c.args.xs.now in
    let ys = c.args.ys.now in
    let n = c.common_front-front.result in
    let front = c.common_front-front.ensures in
    let d = term (pos 0, pos 0) (pos 0) in
    let x = c.in-Some-Some.x.now in
    let y = c.in-Some-Some.y.now in
    let found = c.in-Some-Some.ensures.lookup.3 in
    let other = c.in-Some-Some.ensures'.lookup.3 in
    let x_small : SFits w128 x.coefficient = search rules in
    let y_small : SFits w128 y.coefficient = search rules in
    let at = get_or xs n d in
    let equal = sym (ap₂ (λ (v w : Term). exponents_cmp v.exponents w.exponents) (found.1 d) (other.1 d)) ∙ sym c.cmp.ensures ∙ c.in-Equal.is in
    let second = to_z-of_z w128 y.coefficient y_small ∙ ap (λ (z : Term). z.coefficient) (other.1 d) in
    let fact = first-equal xs ys n d c.requires.xs c.requires.ys front.xs front.ys front.equal found.0 other.0 equal (front.last found.0 other.0 d) in
    answer-first (coefficients_of xs) (coefficients_of ys) c.difference_at-in-Equal.result x at (to_z w128 (of_z w128 x.coefficient)) (to_z w128 (of_z w128 y.coefficient)) c.difference_at-in-Equal.ensures (to_z-of_z w128 x.coefficient x_small) (found.1 d)
    (subst (λ b. IsFirstDifference (coefficients_of xs) (coefficients_of ys) at.exponents.0 at.exponents.1 at.coefficient b) (sym second) fact)

pub returns-in-Greater : goal.returns-in-Greater
returns-in-Greater c =
    let xs = c.args.xs.now in
    let ys = c.args.ys.now in
    let n = c.common_front-front.result in
    let front = c.common_front-front.ensures in
    let d = term (pos 0, pos 0) (pos 0) in
    let y = c.in-Some-Some.y.now in
    let found = c.in-Some-Some.ensures.lookup.3 in
    let other = c.in-Some-Some.ensures'.lookup.3 in
    let small : SFits w128 y.coefficient = search rules in
    let at = get_or ys n d in
    let greater = sym (ap₂ (λ (v w : Term). exponents_cmp v.exponents w.exponents) (found.1 d) (other.1 d)) ∙ sym c.cmp.ensures ∙ c.in-Greater.is in
    let less = exponents_total.antisymm at.exponents (get_or xs n d).exponents ∙ ap ordering_reverse greater in
    answer-second (coefficients_of xs) (coefficients_of ys) c.difference_at-in-Greater.result y at (pos 0) (to_z w128 (of_z w128 y.coefficient)) c.difference_at-in-Greater.ensures (to_z-of_z w128 y.coefficient small) (other.1 d)
    (difference-turned (coefficients_of ys) (coefficients_of xs) at.exponents.0 at.exponents.1 at.coefficient (pos 0)
    (first-less ys xs n d c.requires.ys c.requires.xs front.ys front.xs (sym front.equal) other.0
    (past-next ys xs n d c.requires.ys c.requires.xs front.ys front.xs (sym front.equal) at.exponents found.0 less)))
