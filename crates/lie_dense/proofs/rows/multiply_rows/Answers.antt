use Rattle.std.proofs.Common.{◌≡◌, ◌<◌, ◌∙◌, ◌+◌, ◌*◌, ◌-◌, ap, subst, length, arith, get_or}
use Rattle.std.proofs.lemmas.List.Edits.{get_or-between, length-between}
use Rattle.lie_ring.specs.Rings.{IsElem, sum_below}
use Rattle.lie_ring.specs.SumLemmas.{sum-same}
use Rattle.lie_field.specs.Quotient.{mul}
use Rattle.lie_field.specs.FieldRing.{field_ring}
use Rattle.lie_dense.proofs.RowLemmas.{start_within, rows-length, rows-written, rows-zero, rows-each}
use Rattle.lie_dense.proofs.rows.multiply_rows.Goals as goal

pub loop-i-preserved : goal.loop-i-preserved
loop-i-preserved c =
    let n = c.args.n in
    let i = c.loop-i.i in
    let f = c.args.field.now in
    let a = c.args.a.now in
    let b = c.args.b.now in
    let old = c.loop-i.answer in
    let part = c.multiply_row.new.answer in
    let low : i < n = c.loop-i-test.true in
    let width : (i * n + n) - i * n ≡ n = omega arith in
    let whole : length old ≡ n * n = c.loop-i.auto.answer ∙ c.requires.answer_length in
    let row : length part ≡ n = c.multiply_row.auto.answer ∙ length-between old (i * n) (i * n + n) (let p = start_within n i low in omega (arith, p, whole)) ∙ width in
    record {
      products = rows-written n i ((i * n + n) - i * n) old part low width whole row
          (λ r j. sum_below (field_ring f) n (λ k. mul f.given (get_or a (r * n + k) 0) (get_or b (k * n + j) 0)))
          c.loop-i.invariant.products
          (λ j p. c.multiply_row.ensures.products j p ∙ sum-same (field_ring f) n _ _ (λ k q. ap (λ x. mul f.given x (get_or b (k * n + j) 0)) (get_or-between a (i * n) (i * n + n) k 0 (omega (arith, q)))));
      zeros = rows-zero n i ((i * n + n) - i * n) old part low width whole row c.loop-i.invariant.zeros;
      elem = λ x p. rows-each n i ((i * n + n) - i * n) old part low width whole row (IsElem (field_ring f)) c.loop-i.invariant.elem c.multiply_row.ensures.answer_elem x (subst (λ m. x < m) (rows-length n i ((i * n + n) - i * n) old part low width whole row) p);
    }
