use Rattle.std.proofs.Common.{◌≡◌, ◌+◌, pos, ◌+ℤ◌, ◌≤ℤ◌, subst, sym, arith, rules}
use Rattle.std.proofs.lemmas.Int.{ints}
use mir.Val.{to_z, of_z}
use mir.Syntax.{w128}
use Rattle.lie_const.specs.StructureConstants.{IsForced, extra, at_part}
use Rattle.lie_const.specs.Filling.{table_in}
use Rattle.lie_const.proofs.StringLemmas.{string_short}
use Rattle.lie_const.proofs.filling.equation.Goals as goal

pub returns-then-eq-clause-forced : goal.returns-then-eq-clause-forced
returns-then-eq-clause-forced c =
    let d = c.args.datum.now in
    let r = c.args.r in
    let s = c.args.s in
    let k = c.args.k in
    let p = c.string.result.0 in
    let same : r ≡ c.args.r0 = search rules in
    let low = string_short d c.loaded.ensures r s p c.string.result.1 c.requires.special.sum.left c.requires.special.sum.right c.string.ensures in
    let from = c.from.ensures in
    let value : to_z w128 (of_z w128 (to_z w128 (of_z w128 c.from.result) +ℤ pos 1)) ≡ pos (p + 1) = omega (arith, ints, from, low) in
    subst (IsForced d (table_in c.args.values.now) (at_part k r 0) r s (pos 1)) (sym value)
    (extra r s k p c.string.result.1 (record { special = c.requires.special; first = λ x y h. subst (λ t. t ≤ℤ x) (sym same) (c.requires.extraspecial.first x y h) }) c.string.ensures)
