use Rattle.std.proofs.Common.{◌%◌, ◌/◌, sym, refl, subst}
use Rattle.std.proofs.lemmas.Nat.{mod_below, div_below}
use Rattle.lie_ring.specs.Rings.{Fits}
use Rattle.lie_ring.specs.Matrices.{entry}
use Rattle.lie_ring.specs.SumLemmas.{factor_positive}
use Rattle.lie_mat.proofs.Products.{absent, present, product-left, product-right}
use Rattle.lie_mat.proofs.sums.KroneckerEntries.entry.Goals as goal

pub returns-in-None-clause-value : goal.returns-in-None-clause-value
returns-in-None-clause-value g c =
    let s = c.args.self.now in
    let R = g.R.Ring.ring s.ring.now in
    let ring = g.met.R.Ring.is_ring s.ring.now in
    let same = g.met.R.Ring.one_zero s.ring.now in
    let z = g.R.Ring.zero in
    let M = s.first.now in
    let N = s.second.now in
    let row = c.args.row in
    let col = c.args.col in
    let tall = factor_positive M.height N.height row c.requires.row in
    let broad = factor_positive M.width N.width col c.requires.col in
    let gone = rw (c.rows-rows.ensures.rows, c.cols-cols.ensures.cols) at (c.in-None.ensures.none.0 refl) in
    let fits = s.second_fit (row % N.height) (col % N.width) (mod_below row N.height tall) (mod_below col N.width broad) in
    product-left R ring z same (entry R.zero M (row / N.height) (col / N.width)) (entry R.zero N (row % N.height) (col % N.width))
    (absent R ring z same M (row / N.height) (col / N.width) gone) fits.0

pub returns-in-None-get-clause-value : goal.returns-in-None-get-clause-value
returns-in-None-get-clause-value g c =
    let s = c.args.self.now in
    let R = g.R.Ring.ring s.ring.now in
    let ring = g.met.R.Ring.is_ring s.ring.now in
    let same = g.met.R.Ring.one_zero s.ring.now in
    let z = g.R.Ring.zero in
    let M = s.first.now in
    let N = s.second.now in
    let row = c.args.row in
    let col = c.args.col in
    let tall = factor_positive M.height N.height row c.requires.row in
    let broad = factor_positive M.width N.width col c.requires.col in
    let gone = rw (c.rows-rows.ensures.rows, c.cols-cols.ensures.cols) at (c.in-None-get.ensures.none.0 refl) in
    let fits = s.first_fit (row / N.height) (col / N.width) (div_below row N.height M.height tall c.requires.row) (div_below col N.width M.width broad c.requires.col) in
    product-right R ring z same (entry R.zero M (row / N.height) (col / N.width)) (entry R.zero N (row % N.height) (col % N.width))
    (absent R ring z same N (row % N.height) (col % N.width) gone) fits.0

pub mul-requires-clause-b : goal.mul-requires-clause-b
mul-requires-clause-b g c =
    let s = c.args.self.now in
    let R = g.R.Ring.ring s.ring.now in
    let ring = g.met.R.Ring.is_ring s.ring.now in
    let same = g.met.R.Ring.one_zero s.ring.now in
    let z = g.R.Ring.zero in
    let M = s.first.now in
    let N = s.second.now in
    let row = c.args.row in
    let col = c.args.col in
    let tall = factor_positive M.height N.height row c.requires.row in
    let broad = factor_positive M.width N.width col c.requires.col in
    let read = rw (c.rows-rows.ensures.rows, c.cols-cols.ensures.cols) at c.in-Some-get.ensures.some in
    let fits = s.second_fit (row % N.height) (col % N.width) (mod_below row N.height tall) (mod_below col N.width broad) in
    subst (Fits R) (sym (present R ring z same N (row % N.height) (col % N.width) c.in-Some-get.y.now read)) fits
