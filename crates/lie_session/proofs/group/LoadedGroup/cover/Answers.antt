use Rattle.std.proofs.Common.{◌≡◌, Some, Result, Ok, Err, ap, ◌∙◌, subst}
use Rattle.std.specs.Prelude.{⊤}
use Rattle.lie_identities.specs.declared.cover_lines.CoverSum.{CoverSum}
use Rattle.lie_session.specs.Held.{LoadedGroup, without_block}
use Rattle.lie_session.specs.Named.{Named, named_of}
use Rattle.lie_session.specs.Obeyed.{AddsTo}
use Rattle.lie_session.proofs.CoverLemmas.{line_fits, still_kept, cover_kept, cover_refused, cover_nameless}
use Rattle.lie_session.proofs.StageLemmas.{audited_held}
use Rattle.lie_session.proofs.group.LoadedGroup.cover.Goals.{in-Ok, in-Err}
use Rattle.lie_session.proofs.group.LoadedGroup.cover.Goals as goal

pub add_cover-requires-clause-fits : goal.add_cover-requires-clause-fits
add_cover-requires-clause-fits c =
    let entries = c.self.inside.modules.entries in
    line_fits c.args.self.now entries (ap (λ (g : LoadedGroup). g.modules) c.self.view_is) c.args.name.now c.args.axis c.args.c.now c.in_ok-line.line.items c.in_ok-line.ensures
    (λ a is. (audited_held c.self.inside.group.frame entries c.args.name.now a c.self.invariant.audited is).datum ∙ ap (λ (g : LoadedGroup). g.frame.datum) c.self.view_is)
    c.requires.known c.requires.axis.1

pub invariant_of-self : goal.invariant_of-self
invariant_of-self c =
    still_kept c.self.inside.group.frame c.self.inside.modules.entries c.args.name.now c.args.axis c.in_ok-line.line.items c.add_cover.result c.add_cover.new.self.entries c.self.inside.block c.self.invariant
    (ap (λ (g : LoadedGroup). g.block) c.self.view_is ∙ c.requires.outside) c.add_cover.ensures

pub invariant_of-self-2 : goal.invariant_of-self-2
invariant_of-self-2 c =
    still_kept c.self.inside.group.frame c.self.inside.modules.entries c.args.name.now c.args.axis c.in_ok-line.line.items c.add_cover.result c.add_cover.new.self.entries c.self.inside.block c.self.invariant
    (ap (λ (g : LoadedGroup). g.block) c.self.view_is ∙ c.requires.outside) c.add_cover.ensures

pub returns-in_default : goal.returns-in_default
returns-in_default c =
    let entries = c.self.inside.modules.entries in
    let new = c.add_cover.new.self.entries in
    let adds = subst (λ sum. AddsTo entries c.args.name.now c.args.axis sum c.add_cover.result new) c.in_ok-line.ensures c.add_cover.ensures in
    cover_nameless c.args.self.now entries (ap (λ (g : LoadedGroup). g.modules) c.self.view_is) c.args.name.now c.args.axis c.args.c.now new _
    (subst (λ o. AddsTo entries c.args.name.now c.args.axis c.args.c.now o new) c.in_default.is adds) (ap (λ (g : LoadedGroup). record g { modules = named_of new }) c.self.view_is)

pub returns : goal.returns
returns c =
    let g = c.args.self.now in
    let entries = c.self.inside.modules.entries in
    let are = ap (λ (g : LoadedGroup). g.modules) c.self.view_is in
    let name = c.args.name.now in
    let j = c.args.axis in
    let sum = c.args.c.now in
    let new = c.add_cover.new.self.entries in
    let told : AddsTo entries name j sum c.add_cover.result new = subst (λ z. AddsTo entries name j z c.add_cover.result new) c.in_ok-line.ensures c.add_cover.ensures in
    let adds : (x : Result ⊤ CoverSum) → c.add_cover.result ≡ Some x → AddsTo entries name j sum (Some x) new = λ x is. subst (λ o. AddsTo entries name j sum o new) is told in
    elim c.match-added.branch [
      | in-Ok w ↦
          rw w.result-is
          (cover_kept g entries are name j sum new _ c.in_ok-text.text (adds (Ok tt) (c.in-Some.is ∙ ap Some w.in-Ok.is)) (ap (λ (k : LoadedGroup). record k { modules = named_of new }) c.self.view_is)
          c.in_ok-text.ensures)
      | in-Err w ↦
          let p = cover_refused g entries are name j sum new w.in-Err.sum (adds (Err w.in-Err.sum) (c.in-Some.is ∙ ap Some w.in-Err.is)) in
          rw w.result-is (λ named. (
            p.0,
            ap (λ (k : LoadedGroup). without_block (record k { modules = named_of new })) c.self.view_is ∙ ap (λ (m : Named). without_block (record g { modules = m })) p.1,
          ))
    ]
