use Rattle.std.proofs.Common.{◌^◌}
use Rattle.std.proofs.lemmas.Bool.{ltb-true}
use Rattle.lie_poly.specs.Polynomials.{laurent}
use Rattle.lie_identities.proofs.BoundLemmas.{columns-small}
use Rattle.lie_identities.proofs.bounds.is_small.Goals as goal

pub returns-in-Some : goal.returns-in-Some
returns-in-Some c = λ t.
    columns-small laurent c.args.steps.now.module.now c.args.side.now.factors.items c.in-Some.bound c.in-Some.ensures (ltb-true c.in-Some.bound (2 ^ 126) t)
