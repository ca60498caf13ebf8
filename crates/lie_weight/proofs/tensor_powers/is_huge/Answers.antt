use Rattle.std.proofs.Common.{IfOk, IsTrue, ◌↔◌, Bool, refl, ap, sym, subst, Err}
use Rattle.lie_mat.specs.Wide.{IsHugeMatrix}
use Rattle.lie_weight.specs.Tensors.{tensor_size}
use Rattle.lie_weight.proofs.TensorLemmas.{size_fits}
use Rattle.lie_weight.proofs.tensor_powers.is_huge.Goals as goal
use Rattle.lie_weight.proofs.tensor_powers.is_huge.Goals.{in-Ok, in-Err-Wide, in-Err-NoMemory}

pub returns : goal.returns
returns c =
    let v = c.args.first.now in
    let w = c.args.second.now in
    let P = λ (huge : Bool). IsTrue huge ↔ IsHugeMatrix (tensor_size v w c.args.root c.args.power) in
    elim c.match-made.branch [
      | in-Ok u ↦ subst (λ t. IfOk t P) (sym u.result-is) ((λ e. cc), (λ h. absurd (size_fits v w c.args.root c.args.power u.in-Ok.field-0 u.in-Ok.ensures.value u.in-Ok.ensures.fit h)))
      | in-Err-Wide u ↦ subst (λ t. IfOk t P) (sym u.result-is) ((λ e. u.in-Err-Wide.ensures.wide (ap Err u.in-Err-Wide.field-0-is)), (λ h. refl))
      | in-Err-NoMemory u ↦ subst (λ t. IfOk t P) (sym u.result-is) tt
    ]
