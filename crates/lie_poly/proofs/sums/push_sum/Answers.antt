use Rattle.std.proofs.Common.{◌≡◌, ◌+◌, ◌++◌, [], subst, arith, to_z, of_z}
use Rattle.std.specs.Prelude.{◌+ℤ◌, OnOk}
use Rattle.std.specs.Int.{w128}
use Rattle.std.proofs.lemmas.Int.{ints}
use Rattle.lie_poly.specs.Terms.{term, keep}
use Rattle.lie_poly.proofs.sums.push_sum.Goals as goal

pub returns : goal.returns
returns c =
    let a = c.args.x.coefficient in
    let b = c.args.y.coefficient in
    let value : to_z w128 (of_z w128 (to_z w128 (of_z w128 a) +ℤ to_z w128 (of_z w128 b))) ≡ a +ℤ b = omega (arith, ints, c.requires.small) in
    let h = c.push_kept.ensures in
    subst (λ z. OnOk c.push_kept.result (c.push_kept.new.terms.items ≡ c.args.sum.now.items ++ keep (term c.args.y.exponents z) [])) value c.push_kept.ensures
