use Rattle.std.proofs.Common.{ap, subst, sym, ◌∙◌, arith}
use Rattle.std.proofs.lemmas.Int.{to_z-of_z, fits_signed_from_abs}
use mir.Val.{to_z, of_z}
use mir.Syntax.{w8, w128}
use Rattle.lie_const.specs.Filling.{PairValues, IsFilled, IsUnitSolution, next, put}
use Rattle.lie_const.proofs.FillLemmas.{filled_put}
use Rattle.lie_const.proofs.filling.determine.Goals as goal

pub returns-in-Some : goal.returns-in-Some
returns-in-Some c at f g =
    let d = c.args.datum.now in
    let solves = subst (λ t. IsUnitSolution d c.args.r c.args.s t c.args.e c.in-Some.value) (to_z-of_z w128 c.args.a c.ranges.a)
    (subst (λ t. IsUnitSolution d c.args.r c.args.s (to_z w128 (of_z w128 c.args.a)) t c.in-Some.value) (to_z-of_z w128 c.args.e c.ranges.e) c.in-Some.ensures.value) in
    subst (λ (v : PairValues). IsFilled d v (next at)) (sym (c.put.ensures.values ∙ ap (put c.args.values.now c.args.r c.args.s) (to_z-of_z w8 c.in-Some.value (fits_signed_from_abs w8 c.in-Some.value (let l = c.in-Some.ensures.bound in omega (arith, l))))))
    (filled_put d c.loaded.ensures c.args.values.now at c.args.r c.args.s c.args.a c.args.e c.in-Some.value c.put.ensures.count f g solves)
