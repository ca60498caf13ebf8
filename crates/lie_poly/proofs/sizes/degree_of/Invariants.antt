use Rattle.std.proofs.Common.{◌≡◌, ◌≤◌, ◌^◌, max, drop}
use Rattle.lie_poly.specs.Terms.{degree_of}
use Rattle.lie_poly.proofs.sizes.degree_of.Given as goal

abbrev pub invariant-loop-x : goal.invariant-loop-x
invariant-loop-x l = (max l.degree (degree_of (drop l.x-index l.terms)) ≡ degree_of l.terms) × (l.degree ≤ 2 ^ 31)
