use Rattle.std.proofs.Common.{sym, subst}
use Rattle.std.proofs.lemmas.Result.{err_from_is_err_and}
use Rattle.lie_group.specs.Loading.{IsFrameOf}
use Rattle.lie_group.proofs.LoadingLemmas.{has_adjoint, frame_made, braid_failed}
use Rattle.lie_group.proofs.loading.make_frame.Goals as goal

pub returns-in_err-braid : goal.returns-in_err-braid
returns-in_err-braid c =
    let d = c.args.datum in
    let v = c.in_ok-adjoint.adjoint in
    let made = has_adjoint d c.in_ok-constants.constants v c.in_ok-constants.ensures c.in_ok-adjoint.ensures in
    let p = err_from_is_err_and c.from_residual-in_err-braid.result c.from_residual-in_err-braid.ensures.1 in
    rw (p.1, p.2) (braid_failed d c.loaded.ensures v c.in_ok-signs.signs c.in_err-braid.field-0.0 made c.in_ok-signs.ensures.ok c.in_err-braid.ensures)

pub returns : goal.returns
returns c =
    let d = c.args.datum in
    let v = c.in_ok-adjoint.adjoint in
    let made = has_adjoint d c.in_ok-constants.constants v c.in_ok-constants.ensures c.in_ok-adjoint.ensures in
    subst (IsFrameOf c.args.field d) (sym c.new.ensures)
    (frame_made d v c.in_ok-signs.signs c.in_ok-signs.ensures.ok c.args.field c.in_ok-constants.constants c.loaded.ensures c.in_ok-constants.ensures made c.in_ok-signs.ensures.count c.in_ok-braid.ensures)
