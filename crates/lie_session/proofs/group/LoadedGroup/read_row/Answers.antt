use Rattle.std.proofs.Common.{◌≡◌, Some, true, sym, ap, ◌∙◌, subst}
use Rattle.std.specs.List.{All}
use Rattle.lie_field.specs.Quotient.{order}
use Rattle.lie_script.specs.Numbers.{is_element}
use Rattle.lie_session.specs.Held.{LoadedGroup}
use Rattle.lie_session.specs.State.{block_dim}
use Rattle.lie_session.proofs.BlockLemmas.{grown_from}
use Rattle.lie_session.proofs.group.LoadedGroup.read_row.Goals as goal

pub go_on-requires-clause-grown : goal.go_on-requires-clause-grown
go_on-requires-clause-grown c =
    let row = c.args.row.now in
    grown_from c.self.inside.group.frame c.self.inside.modules.entries c.self.inside.block c.in-Some-Rows.rows c.push.new.self row (sym c.take.ensures.value ∙ c.in-Some-Rows.is ∙ ap Some c.in-Some-Rows.field-0-is) c.self.invariant.block
    c.in_ok-push.ensures.pushed (c.requires.long ∙ ap (λ (g : LoadedGroup). block_dim g.modules g.block) (sym c.self.view_is))
    (subst (λ (g : LoadedGroup). All (λ a. is_element (order g.frame.field.given) a ≡ true) row) (sym c.self.view_is) c.requires.elements)
