use Rattle.std.proofs.Common.{sym, subst}
use Rattle.lie_poly.specs.Polynomials.{Polynomial, laurent}
use Rattle.lie_identities.specs.AuditRelations.{Factor, factor_size}
use Rattle.lie_identities.specs.Sizes.{HasColumnsWithin}
use Rattle.lie_identities.proofs.BoundLemmas.{unit-columns}
use Rattle.lie_identities.proofs.bounds.factor_bound.Goals as goal

pub returns-in-CorootElement : goal.returns-in-CorootElement
returns-in-CorootElement c =
    let v = c.args.steps.now.module.now in
    subst (λ (x : Factor Polynomial). HasColumnsWithin (factor_size laurent v x) 1) (sym c.in-CorootElement.is) (unit-columns laurent v)
