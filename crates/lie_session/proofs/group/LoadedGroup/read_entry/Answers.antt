use Rattle.std.proofs.Common.{◌≡◌, Some, None, sym, ap, ◌∙◌, subst}
use Rattle.lie_session.specs.Blocks.{TableLines, with_entry}
use Rattle.lie_session.specs.Held.{LoadedGroup, AreTableLines, without_block}
use Rattle.lie_session.specs.Named.{named_of}
use Rattle.lie_session.specs.Outcomes.{ReadsTable, ReadsEntry}
use Rattle.lie_session.specs.State.{block_wants, block_dim}
use Rattle.lie_script.specs.declared.sizes.Wants.TheVariants as wants
use Rattle.lie_weight.specs.Tables.{IsEntry}
use Rattle.lie_session.proofs.BlockLemmas.{answered_without}
use Rattle.lie_session.proofs.TableLemmas.{entry_held, entry_leads}
use Rattle.lie_session.proofs.group.LoadedGroup.read_entry.Goals as goal

pub go_on_table-requires-clause-lines : goal.go_on_table-requires-clause-lines
go_on_table-requires-clause-lines c =
    let f = c.self.inside.group.frame in
    let modules = named_of c.self.inside.modules.entries in
    let at = sym c.take.ensures.value ∙ c.in-Some-Table.is ∙ ap Some c.in-Some-Table.field-0-is in
    subst (AreTableLines f modules) (sym c.in_ok-table.ensures)
    (entry_held f modules c.self.inside.block c.in-Some-Table.table at c.self.invariant.block c.args.entry
    (subst (λ (g : LoadedGroup). block_wants g.block ≡ wants.Entry) (sym c.self.view_is) c.requires.awaited)
    (subst (λ (g : LoadedGroup). IsEntry g.frame.datum (block_dim g.modules g.block) c.args.entry) (sym c.self.view_is) c.requires.entry))

pub returns : goal.returns
returns c =
    let g = c.args.self.now in
    let t = c.in-Some-Table.table in
    let at = sym (ap (λ (h : LoadedGroup). h.block) c.self.view_is) ∙ sym c.take.ensures.value ∙ c.in-Some-Table.is ∙ ap Some c.in-Some-Table.field-0-is in
    let left : LoadedGroup = record { frame = c.self.inside.group.frame; carrier = c.self.inside.group.carrier.module; modules = named_of c.self.inside.modules.entries; block = None } in
    answered_without (ReadsTable left c.in_ok-table.table) (ReadsEntry g c.args.entry) g left c.go_on_table.result c.go_on_table.new.self
    (λ r h.
    entry_leads g t c.args.entry r at
    (subst (λ (k : LoadedGroup). ReadsTable (without_block k) (with_entry t c.args.entry) r) c.self.view_is (subst (λ (u : TableLines). ReadsTable left u r) c.in_ok-table.ensures h)))
    (ap without_block c.self.view_is) c.go_on_table.ensures
