use Rattle.std.proofs.Common.{◌≡◌, ◌++◌, [], ◌∷◌, map, take, get_or, ap, ◌∙◌, arith, to_z, of_z}
use Rattle.std.specs.Prelude.{pos, neg_ℤ, ◌-ℤ◌}
use Rattle.std.specs.Int.{w128}
use Rattle.std.proofs.lemmas.Int.{ints}
use Rattle.lie_poly.specs.Terms.{Terms, term}
use Rattle.lie_poly.proofs.TermLemmas.{size-at, map-more}
use Rattle.lie_poly.proofs.ProductLemmas.{negative_term}
use Rattle.lie_poly.proofs.sums.negatives_of.Goals as goal

pub overflow_sub-x : goal.overflow_sub-x
overflow_sub-x c =
    let within = size-at c.args.terms.now c.loop-x.x-index (term (pos 0, pos 0) (pos 0)) c.loop-x-test.true in
    omega (arith, ints, within, c.requires)

pub loop-x-preserved : goal.loop-x-preserved
loop-x-preserved c =
    let xs = c.args.terms.now in
    let k = c.loop-x.x-index in
    let d = term (pos 0, pos 0) (pos 0) in
    let x = get_or xs k d in
    let within = size-at xs k d c.loop-x-test.true in
    let value : to_z w128 (of_z w128 (pos 0 -ℤ to_z w128 (of_z w128 x.coefficient))) ≡ neg_ℤ x.coefficient = omega (arith, ints, within, c.requires) in
    c.in_ok-push.ensures.items
    ∙ ap (λ (out : Terms). out ++ term x.exponents (to_z w128 (of_z w128 (pos 0 -ℤ to_z w128 (of_z w128 x.coefficient)))) ∷ []) c.loop-x.invariant
    ∙ ap (λ n. map negative_term (take k xs) ++ term x.exponents n ∷ []) value
    ∙ map-more negative_term xs k d c.loop-x-test.true
