use Rattle.std.proofs.Common.{◌≡◌, ◌<◌, ◌∙◌, ◌+◌, ◌*◌, ◌-◌, ℕ, subst, length, arith}
use Rattle.std.specs.List.{between}
use Rattle.std.proofs.lemmas.List.Edits.{get_or-between, length-between}
use Rattle.lie_ring.specs.Rings.{IsElem}
use Rattle.lie_field.specs.FieldRing.{field_ring}
use Rattle.lie_dense.specs.Flat.{place}
use Rattle.lie_dense.proofs.RowLemmas.{start_within, rows-length, rows-written, rows-each}
use Rattle.lie_reduce.specs.Elimination.{at, cleared}
use Rattle.lie_reduce.proofs.RowLemmas.{rows-after}
use Rattle.lie_reduce.proofs.Steps.{cleared-same}
use Rattle.lie_reduce.proofs.elimination.clear_rows.Goals as goal

pub loop-i-preserved : goal.loop-i-preserved
loop-i-preserved c =
    let n = c.args.n in
    let k = c.args.k in
    let i = c.loop-i.i in
    let f = c.args.field.now in
    let first = c.args.entries.now in
    let corner = c.args.corner.now in
    let old = c.loop-i.entries in
    let part = c.clear_row.new.row in
    let low : i < n = omega (arith, c.loop-i-test.true, c.requires.low) in
    let width : (i * n + n) - i * n ≡ n = omega arith in
    let whole : length old ≡ n * n = c.loop-i.auto.entries ∙ c.requires.count in
    let within = start_within n i low in
    let row : length part ≡ n = c.clear_row.auto.row ∙ length-between old (i * n) (i * n + n) (omega (arith, within, whole)) ∙ width in
    let before = λ (j : ℕ) (p : j < n).
    get_or-between old (i * n) (i * n + n) j 0 (omega (arith, p)) ∙ c.loop-i.invariant.below i j (omega arith) low p in
    record {
      above = rows-written n i ((i * n + n) - i * n) old part low width whole row
          (λ r j. cleared f.given k c.args.inverse (place n first r) (at corner) j)
          c.loop-i.invariant.above
          (λ j p. c.clear_row.ensures.value j ∙ cleared-same f.given k c.args.inverse (at (between (i * n) (i * n + n) old)) (at corner) (place n first i) j (before j p) (before k c.requires.low));
      below = λ r j later r_low p. rows-after n i ((i * n + n) - i * n) old part low width whole row r j later p ∙ c.loop-i.invariant.below r j (omega (arith, later)) r_low p;
      elem = λ x p. rows-each n i ((i * n + n) - i * n) old part low width whole row (IsElem (field_ring f)) c.loop-i.invariant.elem c.clear_row.ensures.row_elem x (subst (λ m. x < m) (rows-length n i ((i * n + n) - i * n) old part low width whole row) p);
    }
