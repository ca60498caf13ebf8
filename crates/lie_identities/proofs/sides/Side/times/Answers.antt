use Rattle.std.proofs.Common.{◌≤◌}
use Rattle.lie_poly.specs.Polynomials.{Polynomial}
use Rattle.lie_identities.specs.AuditRelations.{Factor, RootElement}
use Rattle.lie_identities.specs.Sides.{factor_weight, factor_depth}
use Rattle.lie_identities.proofs.Appended.{images-pushed, all-pushed}
use Rattle.lie_identities.proofs.sides.Side.times.Goals as goal

pub invariant_of-result : goal.invariant_of-result
invariant_of-result c =
    let side = c.args.self in
    let xs = side.factors.items in
    let ys = c.push.new.self.items in
    let x : Factor Polynomial = RootElement c.args.r c.args.f in
    record {
      sized = images-pushed factor_weight xs ys side.sizes.items c.push-2.new.self.items x c.args.weight c.in_ok-push.ensures.items c.in_ok-push-2.ensures.items c.requires.weight side.sized;
      light = all-pushed (λ (y : Factor Polynomial). factor_weight y ≤ 64) xs ys x c.in_ok-push.ensures.items side.light (c.requires.light);
      shallow = all-pushed (λ (y : Factor Polynomial). factor_depth y ≤ 3) xs ys x c.in_ok-push.ensures.items side.shallow (c.requires.shallow);
    }
