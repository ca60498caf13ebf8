use Rattle.std.proofs.Common.{◌≡◌, suc, ◌+◌, ◌*◌, ap, ap₂, subst, ◌∙◌, arith}
use Rattle.lie_mat.specs.Wide.{IsHugeMatrix}
use Rattle.lie_const.specs.Modules.{dimension, top}
use Rattle.lie_weight.specs.Completion.{IsTrimmed}
use Rattle.lie_weight.specs.Tensors.{tensor_power, tensor_size}
use Rattle.lie_weight.specs.TensorParts.{AreTensorPowers}
use Rattle.lie_weight.proofs.DraftLemmas.{first_push}
use Rattle.lie_weight.proofs.TensorLemmas.{told_ok, trimmed_tensor}
use Rattle.lie_weight.proofs.tensor_powers.product_powers.Goals as goal

pub product_power-requires-clause-small : goal.product_power-requires-clause-small
product_power-requires-clause-small c =
    let one : suc c.loop-k.k ≡ c.loop-k.k + 1 = omega arith in
    subst (λ t. ¬ IsHugeMatrix (tensor_size c.args.first.now c.args.second.now c.args.root t)) one (c.requires.small c.loop-k.k)

pub loop-k-preserved : goal.loop-k-preserved
loop-k-preserved c =
    let v = c.args.first.now in
    let w = c.args.second.now in
    let k = c.loop-k.k in
    let one : k + 1 ≡ suc k = omega arith in
    first_push (dimension v * dimension w) (λ j. tensor_power v w c.args.root (suc j)) k c.loop-k.list.items c.push.new.self.items c.in_ok-product_power.field-0 c.loop-k.invariant
    (c.in_ok-product_power.ensures.value ∙ ap (tensor_power v w c.args.root) one) c.in_ok-product_power.ensures.square c.in_ok-push.ensures.items

pub returns : goal.returns
returns c =
    let v = c.args.first.now in
    let w = c.args.second.now in
    let k = c.loop-k.k in
    let t = c.loop-k-test.false in
    let a = c.loop-k.auto in
    let p = c.top.ensures.value in
    let q = c.top-2.ensures.value in
    let end : top v c.args.root + top w c.args.root ≡ k = omega (arith, t, a, p, q) in
    let size = ap₂ (λ x y. x * y) c.dim.ensures.value c.dim-2.ensures.value in
    told_ok _ (λ l. AreTensorPowers v w c.args.root l.items) c.kept-3.result c.kept-3.ensures (λ l h. trimmed_tensor v w c.kept.ensures c.kept-2.ensures c.args.root c.loop-k.list.items l.items k end c.loop-k.invariant
    (subst (λ n. IsTrimmed n c.loop-k.list.items l.items) size h))
