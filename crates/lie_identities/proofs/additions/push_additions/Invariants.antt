use Rattle.std.proofs.Common.{◌≡◌, ◌++◌, map, take}
use Rattle.lie_poly.specs.Polynomials.{laurent}
use Rattle.lie_identities.specs.Moves.{addition, base_of}
use Rattle.lie_identities.proofs.additions.push_additions.Given as goal

abbrev pub invariant-loop-step : goal.invariant-loop-step
invariant-loop-step l = l.additions.items ≡ l.fn.additions.items ++ map (addition laurent (base_of l.powers) l.entry) (take l.step-index l.steps)
