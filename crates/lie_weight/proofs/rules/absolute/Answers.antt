use Rattle.std.proofs.Common.{◌≡◌, pos, nat_abs, ap, ◌∙◌}
use Rattle.lie_ring.specs.Matrices.{table, entry}
use Rattle.lie_datum.proofs.ListingLemmas.{ok_map}
use Rattle.lie_weight.specs.Conjugation.{absolute}
use Rattle.lie_weight.proofs.rules.absolute.Goals as goal

pub returns-clause-value : goal.returns-clause-value
returns-clause-value c =
    ok_map (λ m. m ≡ table c.rows.result c.cols.result (λ i j. pos (nat_abs (entry (pos 0) c.args.matrix.now i j)))) (λ m. m ≡ absolute c.args.matrix.now)
    (λ m e. e ∙ ap (λ h. table h c.cols.result (λ i j. pos (nat_abs (entry (pos 0) c.args.matrix.now i j)))) c.rows.ensures.rows ∙ ap (λ w. table c.args.matrix.now.height w (λ i j. pos (nat_abs (entry (pos 0) c.args.matrix.now i j)))) c.cols.ensures.cols)
    c.built.result c.built.ensures.value
