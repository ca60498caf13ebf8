use Rattle.std.proofs.Common.{◌≡◌, ◌^◌, pos, nat_abs, ap, ◌∙◌, sym, arith, lit<}
use Rattle.lie_ring.specs.Matrices.{entry}
use Rattle.lie_datum.proofs.VectorLemmas.{plain}
use Rattle.lie_weight.specs.TensorParts.{factor}
use Rattle.lie_weight.proofs.TensorLemmas.{factor-sizes}
use Rattle.lie_weight.proofs.tensor_powers.factor_entry.Goals as goal

pub returns-then-sizes-clause-value : goal.returns-then-sizes-clause-value
returns-then-sizes-clause-value c =
    let v = c.args.space.now in
    let e = c.power_entry-e.result in
    let size = c.absolute_value.result in
    let fit = c.power_entry-e.ensures.fit in
    let is : size ≡ pos (nat_abs e) = c.absolute_value.ensures ∙ ap (λ t. pos (nat_abs t)) (plain e (2 ^ 126) (omega (arith, fit)) (lit< tt)) in
    plain size (2 ^ 126) (let b = ap nat_abs is in omega (arith, b, fit)) (lit< tt) ∙ is ∙ ap (λ t. pos (nat_abs t)) c.power_entry-e.ensures.value
    ∙ sym (factor-sizes v c.requires.kept c.args.root c.args.k c.args.row c.args.col c.requires.row c.requires.col)
    ∙ ap (λ s. entry (pos 0) (factor s v c.args.root c.args.k) c.args.row c.args.col) (sym c.if-sizes.true)
