use Rattle.std.proofs.Common.{◌≤◌, sym, ap, subst, ◌∙◌, arith, unsigned_abs, lit<}
use mir.Val.{to_z, of_z}
use mir.Syntax.{w128}
use Rattle.lie_datum.specs.Vectors.{pairing}
use Rattle.lie_datum.proofs.VectorLemmas.{pairing_bound, plain}
use Rattle.lie_datum.proofs.vectors.small_pairing.Goals as goal

pub returns-clause-bound : goal.returns-clause-bound
returns-clause-bound c =
    let k = pairing c.args.x.now c.args.y.now in
    let small : unsigned_abs k ≤ 51200000000 = let h = pairing_bound c.args.x.now c.args.y.now c.requires.x c.requires.y in let n = c.told-x in omega (arith, h, n) in
    subst (λ z. unsigned_abs z ≤ 51200000000) (sym (ap (λ z. to_z w128 (of_z w128 z)) c.pairing.ensures ∙ plain k 51200000000 small (lit< tt))) small
