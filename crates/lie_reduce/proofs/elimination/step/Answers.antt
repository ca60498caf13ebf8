use Rattle.std.proofs.Common.{◌≡◌, ◌<◌, ◌∙◌, ◌+◌, ◌*◌, ◌-◌, ℕ, ap, sym, subst, length, inl, inr, arith, get_or}
use Rattle.std.proofs.lemmas.Bool.{cases_lt}
use Rattle.std.proofs.lemmas.List.{get_or_default}
use Rattle.std.specs.List.{between}
use Rattle.std.proofs.lemmas.List.Edits.{get_or-between, length-between}
use Rattle.lie_ring.specs.Rings.{IsElem}
use Rattle.lie_field.specs.Quotient.{inv}
use Rattle.lie_field.specs.FieldRing.{field_ring}
use Rattle.lie_dense.specs.Flat.{place}
use Rattle.lie_dense.proofs.RowLemmas.{start_within, rows-length, rows-written, rows-each}
use Rattle.lie_dense.proofs.FlatLemmas.{place_below}
use Rattle.lie_reduce.specs.Elimination.{at, stepped}
use Rattle.lie_reduce.proofs.RowLemmas.{rows-after}
use Rattle.lie_reduce.proofs.Steps.{cleared-other, shortened-same, stepped-above, stepped-row_k, stepped-below}
use Rattle.lie_reduce.proofs.elimination.step.Goals as goal

module _ (c : goal.After-entries-2-1) where
  -- the lengths
  width : (c.args.k * c.args.n + c.args.n) - c.args.k * c.args.n ≡ c.args.n
  width = omega arith

  whole : length c.clear_rows.new.entries ≡ c.args.n * c.args.n
  whole = c.clear_rows.auto.entries ∙ c.requires.count

  row : length c.shorten.new.row ≡ c.args.n
  row =
      let within = start_within c.args.n c.args.k c.requires.low in
      c.shorten.auto.row ∙ length-between c.clear_rows.new.entries (c.args.k * c.args.n) (c.args.k * c.args.n + c.args.n) (omega (arith, within, whole)) ∙ width

  -- the inverse of the corner
  inverse_is : c.inv-inverse.result ≡ inv c.args.field.now.given (place c.args.n c.args.entries.now c.args.k c.args.k)
  inverse_is =
      let within = place_below c.args.n c.args.k c.args.k c.requires.low c.requires.low in
      c.inv-inverse.ensures.value
      ∙ ap (inv c.args.field.now.given) (c.index-entries-start.is ∙ get_or_default c.args.entries.now (c.args.k * c.args.n + c.args.k) c.index-entries-start.result 0 (omega (arith, within, c.requires.count)))

  -- the row of the corner
  corner_is : (j : ℕ) → j < c.args.n → at c.copy_row.new.row j ≡ place c.args.n c.args.entries.now c.args.k j
  corner_is j p = ap (λ xs. get_or xs j 0) c.copy_row.ensures ∙ get_or-between c.args.entries.now (c.args.k * c.args.n) (c.args.k * c.args.n + c.args.n) j 0 (omega (arith, p))

pub returns-clause-value : goal.returns-clause-value
returns-clause-value c _ i j p q =
    let n = c.args.n in
    let k = c.args.k in
    let g = c.args.field.now.given in
    let P = place n c.args.entries.now in
    let E = c.clear_rows.new.entries in
    let part = c.shorten.new.row in
    let low = c.requires.low in
    elim (cases_lt k i) [
      | inl later ↦
          rows-after n k ((k * n + n) - k * n) E part low (width c) (whole c) (row c) i j (omega (arith, later)) q
          ∙ c.clear_rows.ensures.below i j (omega (arith, later)) p q
          ∙ sym (stepped-below g k P i j later)
      | inr up ↦ rows-written n k ((k * n + n) - k * n) E part low (width c) (whole c) (row c) (stepped g k P)
          (λ r x r_low x_low. c.clear_rows.ensures.above r x r_low x_low
          ∙ cleared-other g k c.inv-inverse.result (P r) (at c.copy_row.new.row) (inv g (P k k)) (P k) x (inverse_is c) (corner_is c x x_low)
          ∙ sym (stepped-above g k P r x r_low))
          (λ x x_low. c.shorten.ensures.value x
          ∙ shortened-same g k c.inv-inverse.result (at (between (k * n) (k * n + n) E)) (P k) (inv g (P k k)) (P k) x (inverse_is c)
          (get_or-between E (k * n) (k * n + n) x 0 (omega (arith, x_low)) ∙ c.clear_rows.ensures.below k x (omega arith) low x_low)
          ∙ sym (stepped-row_k g k P x))
          i j (omega (arith, up)) q
    ]

pub returns-clause-entries_elem : goal.returns-clause-entries_elem
returns-clause-entries_elem c x p =
    let n = c.args.n in
    let k = c.args.k in
    let E = c.clear_rows.new.entries in
    let part = c.shorten.new.row in
    rows-each n k ((k * n + n) - k * n) E part c.requires.low (width c) (whole c) (row c) (IsElem (field_ring c.args.field.now)) c.clear_rows.ensures.entries_elem c.shorten.ensures.row_elem x
    (subst (λ m. x < m) (rows-length n k ((k * n + n) - k * n) E part c.requires.low (width c) (whole c) (row c)) p)
