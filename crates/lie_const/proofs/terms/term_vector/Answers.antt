use Rattle.std.proofs.Common.{◌≡◌, zero, suc, pos, [], ◌∷◌, ap, subst, sym, ◌∙◌, arith}
use Rattle.std.specs.List.{All}
use Rattle.std.proofs.lemmas.Int.{ints}
use mir.Val.{to_z, of_z}
use mir.Syntax.{w128}
use Rattle.lie_const.proofs.ChainLemmas.{plus-comm}
use Rattle.lie_datum.specs.Vectors.{Vector, plus, times}
use Rattle.lie_datum.specs.RootDatum.{IsWithin}
use Rattle.lie_datum.proofs.SignedRoots.{root_is}
use Rattle.lie_const.specs.StructureConstants.{coeffs_of}
use Rattle.lie_const.proofs.terms.term_vector.Goals as goal

both : (x y : Vector) → IsWithin 100 x → IsWithin 100 y → All (IsWithin 100) (x ∷ y ∷ [])
both x y p q zero z l = p
both x y p q (suc zero) z l = q
both x y p q (suc (suc k)) z l = absurd (omega (arith, l))

pub combination-requires-clause-vectors : goal.combination-requires-clause-vectors
combination-requires-clause-vectors c =
    let d = c.args.datum.now in
    let small = c.loaded.ensures.axioms.finite.small in
    both c.coeffs.result.now c.coeffs-2.result.now
    (subst (IsWithin 100) (sym c.coeffs.ensures) (small _ (root_is d c.loaded.ensures c.args.r c.requires.r)).0)
    (subst (IsWithin 100) (sym c.coeffs-2.ensures) (small _ (root_is d c.loaded.ensures c.args.s c.requires.s)).0)

pub returns : goal.returns
returns c =
    let d = c.args.datum.now in
    let x = c.coeffs.result.now in
    let y = c.coeffs-2.result.now in
    let from = c.from.ensures in
    let from-2 = c.from-2.ensures in
    let small = c.requires.i in
    let small-2 = c.requires.j in
    let i : to_z w128 (of_z w128 c.from.result) ≡ pos c.args.i = omega (arith, ints, from, small) in
    let j : to_z w128 (of_z w128 c.from-2.result) ≡ pos c.args.j = omega (arith, ints, from-2, small-2) in
    c.combination.ensures.value ∙ ap (λ a. plus (times a x) (plus (times (to_z w128 (of_z w128 c.from-2.result)) y) [])) i
    ∙ ap (λ a. plus (times (pos c.args.i) x) (plus (times a y) [])) j ∙ ap (plus (times (pos c.args.i) x)) (plus-comm (times (pos c.args.j) y) [])
    ∙ ap (λ v. plus (times (pos c.args.i) v) (times (pos c.args.j) y)) c.coeffs.ensures ∙ ap (λ v. plus (times (pos c.args.i) (coeffs_of d c.args.r)) (times (pos c.args.j) v)) c.coeffs-2.ensures
