use Rattle.std.proofs.Common.{◌≡◌, ◌+◌, ◌<◌, suc, length, sym, subst, arith}
use Rattle.std.specs.Prelude.{pos}
use Rattle.std.proofs.lemmas.List.{get_or_read}
use Rattle.lie_datum.specs.Numbers.{number_at}
use Rattle.lie_datum.proofs.NumberLemmas.{some_within}
use Rattle.lie_field.specs.Quotient.{inv}
use Rattle.lie_reduce.specs.TorusReading.{IsRootValue, AreRootValues}
use Rattle.lie_reduce.proofs.CoefficientLemmas.{place_number}
use Rattle.lie_reduce.proofs.TorusSteps.{opposite-value, values-more}
use Rattle.lie_reduce.proofs.TorusLoops.{number-high}
use Rattle.lie_reduce.proofs.torus_part.root_values.Goals as goal

pub loop-place-2-preserved : goal.loop-place-2-preserved
loop-place-2-preserved c =
    let f = c.args.field.now in
    let d = c.args.datum.now in
    let v = c.args.space.now in
    let D = c.args.d.now in
    let m = length d.positive in
    let k = c.loop-place-2.place in
    let values = c.loop-place-2.values.items in
    let many = c.m-positive.ensures.value in
    let test = c.loop-place-2-test.true in
    let low : k < m = omega (arith, test, many) in
    let before = subst (λ n. AreRootValues f d v D (n + k) values) many c.loop-place-2.invariant in
    let count = before.count in
    let a = c.index.result.now in
    let value = get_or_read values k a (omega (arith, count, low)) c.index.ensures 0 in
    let root = subst (λ z. IsRootValue f d v D z a) (place_number m k low) (subst (IsRootValue f d v D (number_at m k)) (sym value) (before.each k (omega (arith, low)))) in
    let back = subst (IsRootValue f d v D (number_at m (m + k))) (sym c.inv.ensures.value) (subst (λ z. IsRootValue f d v D z (inv f.given a)) (sym (number-high m k)) (opposite-value f d v D (pos (suc k)) a (some_within d.positive k low) root)) in
    let next : suc (m + k) ≡ m + (k + 1) = omega arith in
    subst (λ n. AreRootValues f d v D (n + (k + 1)) c.push-in-loop-place-2.new.self.items) (sym many)
    (subst (λ n. AreRootValues f d v D n c.push-in-loop-place-2.new.self.items) next
    (subst (AreRootValues f d v D (suc (m + k))) (sym c.in_ok-push-2.ensures.items) (values-more f d v D (m + k) values c.inv.result before back)))
