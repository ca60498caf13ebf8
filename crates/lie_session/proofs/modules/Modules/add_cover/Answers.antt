use Rattle.std.proofs.Common.{◌≡◌, ◌≤◌, Some, None, length, sym, ap, ◌∙◌, subst}
use Rattle.std.specs.Map.{set_value}
use Rattle.std.specs.Option.{IfSome, option_copied_mut}
use Rattle.std.specs.Prelude.{bytes_eq}
use Rattle.lie_const.specs.Modules.{dimension}
use Rattle.lie_session.specs.Named.{NamedModules, audits_of, audited_of}
use Rattle.lie_session.proofs.CoverLemmas.{adds_by, adds_none}
use Rattle.lie_session.proofs.NamedLemmas.{audited_found, audits_set, distinct_named}
use Rattle.lie_session.proofs.modules.Modules.add_cover.Goals.{in-Some, in-None}
use Rattle.lie_session.proofs.modules.Modules.add_cover.Goals as goal

pub add_cover-requires-clause-axis : goal.add_cover-requires-clause-axis
add_cover-requires-clause-axis c =
    let name = c.args.name.now in
    let found : audited_of c.args.self.now.entries name ≡ Some c.in-Some.audited.now =
    sym (ap (λ (m : NamedModules). audited_of m.entries name) c.self.view_is) ∙ audited_found c.self.inside.table.entries name ∙ sym c.get_mut.ensures.value ∙ ap option_copied_mut c.in-Some.is in
    (c.requires.first, (subst (λ o. IfSome o (λ a. (c.args.axis ≤ a.datum.base.dim) × (length c.args.c.items ≡ dimension a.module))) found c.requires.fits).0)

pub add_cover-requires-clause-count : goal.add_cover-requires-clause-count
add_cover-requires-clause-count c =
    let name = c.args.name.now in
    let found : audited_of c.args.self.now.entries name ≡ Some c.in-Some.audited.now =
    sym (ap (λ (m : NamedModules). audited_of m.entries name) c.self.view_is) ∙ audited_found c.self.inside.table.entries name ∙ sym c.get_mut.ensures.value ∙ ap option_copied_mut c.in-Some.is in
    (subst (λ o. IfSome o (λ a. (c.args.axis ≤ a.datum.base.dim) × (length c.args.c.items ≡ dimension a.module))) found c.requires.fits).1

pub invariant_of-self-inside : goal.invariant_of-self-inside
invariant_of-self-inside c = (distinct_named (c.get_mut.follows.lender c.add_cover.new.self).entries (c.get_mut.follows.holds c.add_cover.new.self).4, tt)

pub returns : goal.returns
returns c =
    let name = c.args.name.now in
    let table = c.self.inside.table in
    let before = ap (λ (m : NamedModules). m.entries) c.self.view_is in
    elim c.match-get_mut.branch [
      | in-Some w ↦
          let found : audited_of c.args.self.now.entries name ≡ Some w.in-Some.audited.now =
          ap (λ es. audited_of es name) (sym before) ∙ audited_found table.entries name ∙ sym c.get_mut.ensures.value ∙ ap option_copied_mut w.in-Some.is in
          let entries = (c.get_mut.follows.holds w.add_cover.new.self).0 in
          let told = w.add_cover.ensures in
          rw (w.self-inside-is, w.result-is)
          (adds_by c.args.self.now.entries name w.in-Some.audited.now w.add_cover.new.self c.args.axis c.args.c.items w.add_cover.result _ found told.space told.datum told.constants told.signs told.adds
          (ap audits_of entries ∙ audits_set table.entries name w.add_cover.new.self ∙ ap (λ es. set_value (λ other. bytes_eq other name) es w.add_cover.new.self) before))
      | in-None w ↦
          let none : audited_of c.args.self.now.entries name ≡ None =
          ap (λ es. audited_of es name) (sym before) ∙ audited_found table.entries name ∙ sym c.get_mut.ensures.value ∙ ap option_copied_mut w.in-None.is in
          rw (w.self-inside-is, w.result-is) (adds_none c.args.self.now.entries name c.args.axis c.args.c.items _ none (ap audits_of (ap (λ m. m.entries) c.get_mut.follows.holds-at-none) ∙ before))
    ]
