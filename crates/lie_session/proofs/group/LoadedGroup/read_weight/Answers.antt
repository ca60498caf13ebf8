use Rattle.std.proofs.Common.{rules, ◌≡◌, Some, None, sym, ap, ◌∙◌, subst}
use Rattle.lie_session.specs.Blocks.{TableLines, with_weight}
use Rattle.lie_session.specs.Held.{LoadedGroup, without_block}
use Rattle.lie_session.specs.Named.{named_of}
use Rattle.lie_session.specs.Outcomes.{ReadsTable, ReadsWeight}
use Rattle.lie_session.proofs.BlockLemmas.{answered_without}
use Rattle.lie_session.proofs.TableLemmas.{weight_leads}
use Rattle.lie_session.proofs.group.LoadedGroup.read_weight.Goals as goal

pub returns : goal.returns
returns c =
    let g = c.args.self.now in
    let t = c.in-Some-Table.table in
    let at = sym (ap (λ (h : LoadedGroup). h.block) c.self.view_is) ∙ sym c.take.ensures.value ∙ c.in-Some-Table.is ∙ ap Some c.in-Some-Table.field-0-is in
    let same : c.list.result.now ≡ c.args.v.now = search rules in
    let grown = c.in_ok-table.ensures ∙ ap (with_weight t) same in
    let left : LoadedGroup = record { frame = c.self.inside.group.frame; carrier = c.self.inside.group.carrier.module; modules = named_of c.self.inside.modules.entries; block = None } in
    answered_without (ReadsTable left c.in_ok-table.table) (ReadsWeight g c.args.v.now) g left c.go_on_table.result c.go_on_table.new.self
    (λ r h.
    weight_leads g t c.args.v.now r at
    (subst (λ (k : LoadedGroup). ReadsTable (without_block k) (with_weight t c.args.v.now) r) c.self.view_is (subst (λ (u : TableLines). ReadsTable left u r) grown h)))
    (ap without_block c.self.view_is) c.go_on_table.ensures
