use Rattle.std.proofs.Common.{◌≡◌, ◌+◌, ◌∷◌, [], ◌++◌, length, sym, ap, ◌∙◌, arith}
use Rattle.std.specs.List.{range_with_len}
use Rattle.lie_datum.proofs.TableFilling.{range_next}
use Rattle.lie_unip.proofs.DatumLemmas.{table_collectable}
use Rattle.lie_unip.proofs.GroupLemmas.{collector_in_order}
use Rattle.lie_unip.proofs.collector.Collector.in_order.Goals as goal

pub loop-k-preserved : goal.loop-k-preserved
loop-k-preserved g c =
    let k = c.loop-k.k in
    let one : k + 1 ≡ 1 + k = omega arith in
    let zero : k ≡ 0 + k = omega arith in
    record {
      roots = c.in_ok-push.ensures.items ∙ ap (λ l. l ++ (k + 1) ∷ []) c.loop-k.invariant.roots ∙ ap (λ n. range_with_len 1 k ++ n ∷ []) one ∙ sym (range_next 1 k);
      places = c.in_ok-push-2.ensures.items ∙ ap (λ l. l ++ k ∷ []) c.loop-k.invariant.places ∙ ap (λ n. range_with_len 0 k ++ n ∷ []) zero ∙ sym (range_next 0 k);
    }

pub invariant_of-result : goal.invariant_of-result
invariant_of-result g c =
    let t = c.args.consts.now in
    let m = c.m-m.ensures.value in
    let bound = c.m-m.ensures.bound in
    let loads = c.requires.constants.0 in
    let end = c.loop-k-test.false in
    let last = c.loop-k.auto.k-end in
    let all : c.loop-k.k ≡ t.positive = omega (arith, m, loads, end, last) in
    record {
      lawful = collector_in_order (g.R.Ring.ring c.args.ring.now) c.in_ok-zero.zero t c.new.result.items c.loop-k.roots.items c.loop-k.places.items
          c.requires.roomy c.in_ok-zero.ensures.value c.in_ok-zero.ensures.fits (omega (arith, m, loads, bound)) (table_collectable c.args.datum.now c.loaded.ensures t c.requires.constants)
          c.new.ensures.items (c.loop-k.invariant.roots ∙ ap (range_with_len 1) all) (c.loop-k.invariant.places ∙ ap (range_with_len 0) all);
    }

pub returns-clause-roots : goal.returns-clause-roots
returns-clause-roots g c =
    let m = c.m-m.ensures.value in
    let end = c.loop-k-test.false in
    let last = c.loop-k.auto.k-end in
    let all : c.loop-k.k ≡ length c.args.datum.now.positive = omega (arith, m, end, last) in
    c.loop-k.invariant.roots ∙ ap (range_with_len 1) all
