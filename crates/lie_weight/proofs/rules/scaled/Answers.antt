use Rattle.std.proofs.Common.{◌≡◌, pos, ◌*ℤ◌, ap, ◌∙◌, lit<}
use mir.Val.{to_z, of_z}
use mir.Syntax.{w128}
use Rattle.lie_ring.specs.Integers.{integers}
use Rattle.lie_ring.specs.Matrices.{table, entry, scaled}
use Rattle.lie_datum.proofs.ListingLemmas.{ok_map}
use Rattle.lie_datum.proofs.VectorLemmas.{plain}
use Rattle.lie_weight.proofs.rules.scaled.Goals as goal

pub returns-clause-value : goal.returns-clause-value
returns-clause-value c =
    let M = c.args.matrix.now in
    let sign = to_z w128 (of_z w128 c.args.sign) in
    ok_map (λ m. m ≡ table c.rows.result c.cols.result (λ i j. sign *ℤ entry (pos 0) M i j)) (λ m. m ≡ scaled integers c.args.sign M)
    (λ m e. e ∙ ap (λ h. table h c.cols.result (λ i j. sign *ℤ entry (pos 0) M i j)) c.rows.ensures.rows ∙ ap (λ w. table M.height w (λ i j. sign *ℤ entry (pos 0) M i j)) c.cols.ensures.cols
    ∙ ap (λ t. scaled integers t M) (plain c.args.sign 1 c.requires.unit (lit< tt)))
    c.built.result c.built.ensures.value
