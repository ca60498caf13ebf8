use Rattle.std.proofs.Common.{◌≡◌, ◌<◌, drop}
use Rattle.lie_field.specs.Quotient.{order, add}
use Rattle.lie_poly.proofs.EvaluationLemmas.{sum_of_values}
use Rattle.lie_poly.proofs.evaluation.value_of.Given as goal

abbrev pub invariant-loop-x : goal.invariant-loop-x
invariant-loop-x l = record {
  summed : add l.field.given l.value (sum_of_values l.field l.t l.u (drop l.x-index l.terms)) ≡ sum_of_values l.field l.t l.u l.terms;
  below : l.value < order l.field.given;
}
