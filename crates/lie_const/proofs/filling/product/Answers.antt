use Rattle.std.proofs.Common.{◌≡◌, ◌*◌, ◌^◌, ◌*ℤ◌, ap, subst, sym, ◌∙◌, lit<, arith, ◌≤◌, unsigned_abs}
use Rattle.lie_datum.proofs.VectorLemmas.{abs_mul}
use Rattle.std.specs.Int.RustNames.{FitsSigned}
use Rattle.lie_const.proofs.Kept.{factors_kept, product_fits, product_kept}
use mir.Val.{to_z, of_z}
use mir.Syntax.{w128}
use Rattle.lie_const.proofs.filling.product.Goals as goal
use Rattle.lie_const.proofs.filling.product.Goals.{Start}

-- the first product
first : (c : Start) → unsigned_abs (c.args.x *ℤ c.args.y) ≤ 2160 * 2160
first c = abs_mul c.args.x c.args.y 2160 2160 c.requires.x c.requires.y

first_kept : (c : Start) → to_z w128 (of_z w128 (to_z w128 (of_z w128 c.args.x) *ℤ to_z w128 (of_z w128 c.args.y))) ≡ c.args.x *ℤ c.args.y
first_kept c = product_kept c.args.x c.args.y 2160 2160 c.requires.x c.requires.y (lit< tt) (lit< tt) (lit< tt)

second_kept : (c : Start) → to_z w128 (of_z w128 (to_z w128 (of_z w128 (c.args.x *ℤ c.args.y)) *ℤ to_z w128 (of_z w128 c.args.z))) ≡ c.args.x *ℤ c.args.y *ℤ c.args.z
second_kept c = product_kept (c.args.x *ℤ c.args.y) c.args.z (2160 * 2160) 2160 (first c) c.requires.z (lit< tt) (lit< tt) (lit< tt)

first_bits : (c : Start) → of_z w128 (to_z w128 (of_z w128 c.args.x) *ℤ to_z w128 (of_z w128 c.args.y)) ≡ of_z w128 (c.args.x *ℤ c.args.y)
first_bits c = ap (of_z w128) (factors_kept c.args.x c.args.y 2160 2160 c.requires.x c.requires.y (lit< tt) (lit< tt) (lit< tt))

pub overflow_mul-result-2 : goal.overflow_mul-result-2
overflow_mul-result-2 c =
    subst (λ t. FitsSigned w128 (to_z w128 t *ℤ to_z w128 (of_z w128 c.args.z))) (sym (first_bits c))
    (product_fits (c.args.x *ℤ c.args.y) c.args.z (2160 * 2160) 2160 (first c) c.requires.z (lit< tt) (lit< tt) (lit< tt))

pub returns-clause-value : goal.returns-clause-value
returns-clause-value c = ap (λ t. to_z w128 (of_z w128 (to_z w128 t *ℤ to_z w128 (of_z w128 c.args.z)))) (first_bits c) ∙ second_kept c

pub returns-clause-bound : goal.returns-clause-bound
returns-clause-bound c =
    let e = returns-clause-value c in
    let l = abs_mul (c.args.x *ℤ c.args.y) c.args.z (2160 * 2160) 2160 (first c) c.requires.z in
    subst (λ t. unsigned_abs t ≤ 2 ^ 40) (sym e) (omega (arith, l))
