use Rattle.std.proofs.Common.{◌≡◌, ap, ◌∙◌, refl, subst, sym, lit<}
use mir.Val.{to_z, of_z}
use mir.Syntax.{w128}
use Rattle.lie_ring.specs.Integers.{integers}
use Rattle.lie_ring.specs.Matrices.{product, scaled}
use Rattle.lie_mat.specs.Wide.{IsWideProduct}
use Rattle.lie_datum.proofs.ListingLemmas.{ok_map}
use Rattle.lie_datum.proofs.VectorLemmas.{plain}
use Rattle.lie_weight.proofs.FactorLemmas.{left_narrow, whole_narrow}
use Rattle.lie_weight.proofs.factors.conjugate.Goals as goal

pub narrow_product-requires-clause-narrow : goal.narrow_product-requires-clause-narrow
narrow_product-requires-clause-narrow c =
    let M = c.args.matrix.now in
    left_narrow M.height c.args.factors.now c.requires.factors M (record { height = refl; width = c.requires.square }) c.requires.narrow

pub narrow_product-requires-2-clause-narrow : goal.narrow_product-requires-2-clause-narrow
narrow_product-requires-2-clause-narrow c =
    let M = c.args.matrix.now in
    let w = c.args.factors.now in
    subst (λ t. ¬ IsWideProduct integers t w.inverse) (sym c.in_ok-left.ensures.value) (whole_narrow M.height w c.requires.factors M (record { height = refl; width = c.requires.square }) c.requires.narrow)

pub returns-clause-value : goal.returns-clause-value
returns-clause-value c =
    let M = c.args.matrix.now in
    let w = c.args.factors.now in
    let whole = c.in_ok-whole.whole in
    let target = product integers (product integers w.element M) w.inverse in
    let is : whole ≡ target = c.in_ok-whole.ensures.value ∙ ap (λ t. product integers t w.inverse) c.in_ok-left.ensures.value in
    ok_map (λ m. m ≡ scaled integers (to_z w128 (of_z w128 c.args.sign)) whole) (λ m. m ≡ scaled integers c.args.sign target)
    (λ m e. e ∙ ap (λ t. scaled integers t whole) (plain c.args.sign 1 c.requires.sign (lit< tt)) ∙ ap (scaled integers c.args.sign) is)
    c.scaled.result c.scaled.ensures.value
