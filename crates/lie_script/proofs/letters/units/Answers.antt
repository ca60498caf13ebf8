use Rattle.std.proofs.Common.{◌∙◌, sym, refl}
use Rattle.std.proofs.lemmas.Result.{err_from_is_err_and}
use Rattle.lie_field.specs.Quotient.{order}
use Rattle.lie_script.specs.Letters.{unit, units}
use Rattle.lie_script.proofs.Loops.{goes-on, stops, ends, begins-plain, none-plain}
use Rattle.lie_script.proofs.Elements.{units-ok}
use Rattle.lie_script.proofs.letters.units.Goals as goal

pub returns-in_err-unit-clause-read : goal.returns-in_err-unit-clause-read
unfolding units
returns-in_err-unit-clause-read c =
    let begins = begins-plain (unit (order c.args.field.now.given) c.args.column) c.args.numbers.now c.units.a-index _ c.units-test.true in
    let p = err_from_is_err_and c.from_residual.result c.from_residual.ensures.1 in
    rw (p.1, p.2) (stops _ _ _ _ _ _ begins (sym c.unit.ensures ∙ c.in_err-unit.was) c.units.invariant)

pub units-preserved : goal.units-preserved
unfolding units
units-preserved c =
    let begins = begins-plain (unit (order c.args.field.now.given) c.args.column) c.args.numbers.now c.units.a-index _ c.units-test.true in
    rw c.in_ok-push.ensures.items (goes-on _ _ _ _ _ _ begins (sym c.unit.ensures ∙ c.in_ok-unit.was) c.units.invariant)

pub returns-clause-read : goal.returns-clause-read
unfolding units
returns-clause-read c = ends _ _ _ (none-plain (unit (order c.args.field.now.given) c.args.column) c.args.numbers.now c.units.a-index c.units-test.false) c.units.invariant

pub returns-clause-count : goal.returns-clause-count
unfolding units
returns-clause-count c =
    (units-ok c.args.field.now (order c.args.field.now.given) c.args.column c.args.numbers.now c.units.list.items refl (ends _ _ _ (none-plain (unit (order c.args.field.now.given) c.args.column) c.args.numbers.now c.units.a-index c.units-test.false) c.units.invariant)).0

pub returns-clause-units : goal.returns-clause-units
unfolding units
returns-clause-units c =
    (units-ok c.args.field.now (order c.args.field.now.given) c.args.column c.args.numbers.now c.units.list.items refl (ends _ _ _ (none-plain (unit (order c.args.field.now.given) c.args.column) c.args.numbers.now c.units.a-index c.units-test.false) c.units.invariant)).1
