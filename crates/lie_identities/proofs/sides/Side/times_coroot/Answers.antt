use Rattle.std.proofs.Common.{◌≤◌, refl, arith}
use Rattle.lie_poly.specs.Polynomials.{Polynomial}
use Rattle.lie_identities.specs.AuditRelations.{Factor, CorootElement}
use Rattle.lie_identities.specs.Sides.{factor_weight, factor_depth}
use Rattle.lie_identities.proofs.Appended.{images-pushed, all-pushed}
use Rattle.lie_identities.proofs.sides.Side.times_coroot.Goals as goal

pub invariant_of-result : goal.invariant_of-result
invariant_of-result c =
    let side = c.args.self in
    let xs = side.factors.items in
    let ys = c.push.new.self.items in
    let x : Factor Polynomial = CorootElement c.args.i in
    record {
      sized = images-pushed factor_weight xs ys side.sizes.items c.push-2.new.self.items x 1 c.in_ok-push.ensures.items c.in_ok-push-2.ensures.items refl side.sized;
      light = all-pushed (λ (y : Factor Polynomial). factor_weight y ≤ 64) xs ys x c.in_ok-push.ensures.items side.light (omega arith);
      shallow = all-pushed (λ (y : Factor Polynomial). factor_depth y ≤ 3) xs ys x c.in_ok-push.ensures.items side.shallow (omega arith);
    }
