use Rattle.std.proofs.Common.{rules, ◌≡◌, ◌+◌, ◌*◌, ap, ap₂, ◌∙◌, arith, to_z, of_z, w32, SFits}
use Rattle.std.specs.Prelude.{◌+ℤ◌, ◌*ℤ◌}
use Rattle.std.specs.Int.{w128}
use Rattle.std.proofs.lemmas.Int.{ints, to_z-of_z, unsigned_abs-mul}
use Rattle.lie_poly.proofs.sums.product_term.Goals as goal

pub returns : goal.returns
returns c =
    let x = c.args.x in
    let y = c.args.y in
    let a = x.coefficient in
    let b = y.coefficient in
    let fits_a : SFits w128 a = search rules in
    let fits_b : SFits w128 b = search rules in
    let size = unsigned_abs-mul a b in
    let t : to_z w32 (of_z w32 (to_z w32 (of_z w32 x.exponents.0) +ℤ to_z w32 (of_z w32 y.exponents.0))) ≡ x.exponents.0 +ℤ y.exponents.0 = omega (arith, ints, c.requires.degree) in
    let u : to_z w32 (of_z w32 (to_z w32 (of_z w32 x.exponents.1) +ℤ to_z w32 (of_z w32 y.exponents.1))) ≡ x.exponents.1 +ℤ y.exponents.1 = omega (arith, ints, c.requires.degree) in
    let whole : to_z w128 (of_z w128 (a *ℤ b)) ≡ a *ℤ b = omega (arith, ints, size, c.requires.small) in
    let value = ap (λ z. to_z w128 (of_z w128 z)) (ap₂ ◌*ℤ◌ (to_z-of_z w128 a fits_a) (to_z-of_z w128 b fits_b)) ∙ whole in
    λ i. record { exponents = (t i, u i); coefficient = value i }
