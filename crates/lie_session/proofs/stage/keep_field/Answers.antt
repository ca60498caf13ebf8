use Rattle.std.proofs.Common.{rules, ◌≡◌, Err, refl, subst, map, nat_abs}
use Rattle.std.proofs.lemmas.Result.{err_from_is_err_and}
use Rattle.lie_field.specs.Faults.{IsFault}
use Rattle.lie_field.specs.Quotient.{field_data}
use Rattle.lie_session.proofs.stage.keep_field.Goals as goal

pub returns-in_err-field : goal.returns-in_err-field
returns-in_err-field c =
    let why = c.in_err-field.field-0.0 in
    let given = map nat_abs c.args.coeffs.now in
    let same : c.deref.result.now ≡ given = search rules in
    let fault : IsFault (field_data c.args.p given c.args.g) why = subst (λ cs. IsFault (field_data c.args.p cs c.args.g) why) same c.in_err-field.ensures in
    let p = err_from_is_err_and c.from_residual-in_err-field.result c.from_residual-in_err-field.ensures.1 in
    rw (p.1, p.2) (λ named. (Err why, fault, refl))
