use Rattle.std.proofs.Common.{◌≡◌, pos, negsuc, sym, ap, ◌∙◌}
use Rattle.std.proofs.lemmas.Int.{to_z-of_z}
use Rattle.std.proofs.lemmas.Result.{IfOk-weaker}
use mir.Syntax.{w128}
use mir.Val.{to_z}
use Rattle.lie_unip.proofs.TermLemmas.{times_one, times_minus_one}
use Rattle.lie_unip.proofs.terms.scaled.Goals as goal

pub returns-then-value-eq1-clause-value : goal.returns-then-value-eq1-clause-value
returns-then-value-eq1-clause-value g c =
    let R = g.R.Ring.ring c.args.ring.now in
    let one : c.args.value ≡ pos 1 = sym (to_z-of_z w128 c.args.value c.ranges.value) ∙ ap (to_z w128) c.if-value-eq1.true in
    times_one R (g.met.R.Ring.is_ring c.args.ring.now) c.args.a c.requires.a.0 ∙ ap (λ n. R.mul (R.of_int n) c.args.a) (sym one)

pub returns-then-value-eqminus1-clause-value : goal.returns-then-value-eqminus1-clause-value
returns-then-value-eqminus1-clause-value g c =
    let R = g.R.Ring.ring c.args.ring.now in
    let a = c.args.a in
    let minus_one : c.args.value ≡ negsuc 0 = sym (to_z-of_z w128 c.args.value c.ranges.value) ∙ ap (to_z w128) c.if-value-eqminus1.true in
    IfOk-weaker c.roomy_neg.result (λ x. x ≡ R.neg a) (λ x. x ≡ R.mul (R.of_int c.args.value) a)
    (λ x e. e ∙ times_minus_one R (g.met.R.Ring.is_ring c.args.ring.now) a c.requires.a.0 ∙ ap (λ n. R.mul (R.of_int n) a) (sym minus_one)) c.roomy_neg.ensures.value
