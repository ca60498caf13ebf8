use Rattle.std.proofs.Common.{Some, sym, ap, ◌∙◌, subst}
use Rattle.std.specs.Option.{option_copied}
use Rattle.lie_const.specs.Modules.{Module, IsModule}
use Rattle.lie_datum.specs.RootList.{RootDatum}
use Rattle.lie_session.specs.Held.{LoadedGroup}
use Rattle.lie_session.proofs.BlockLemmas.{found_in, none_in}
use Rattle.lie_session.proofs.StageLemmas.{audited_held}
use Rattle.lie_session.proofs.group.LoadedGroup.space.Goals as goal

pub returns-in-Some-clause-named : goal.returns-in-Some-clause-named
returns-in-Some-clause-named c =
    ap Some c.module.ensures.value
    ∙ sym (found_in c.args.self.now c.self.inside.modules.entries (ap (λ (g : LoadedGroup). g.modules) c.self.view_is) c.args.name.now c.in-Some.audited.now (sym c.find.ensures ∙ ap option_copied c.in-Some.is))

pub returns-in-Some-clause-shape : goal.returns-in-Some-clause-shape
returns-in-Some-clause-shape c =
    let a = c.in-Some.audited.now in
    let held = audited_held c.self.inside.group.frame c.self.inside.modules.entries c.args.name.now a c.self.invariant.audited (sym c.find.ensures ∙ ap option_copied c.in-Some.is) in
    subst (λ (v : Module). IsModule c.args.self.now.frame.datum v) (sym c.module.ensures.value)
    (subst (λ (D : RootDatum). IsModule D a.module) (held.datum ∙ ap (λ (g : LoadedGroup). g.frame.datum) c.self.view_is) c.module.ensures.audited.shape)

pub returns-in-None-clause-named : goal.returns-in-None-clause-named
returns-in-None-clause-named c =
    sym (none_in c.args.self.now c.self.inside.modules.entries (ap (λ (g : LoadedGroup). g.modules) c.self.view_is) c.args.name.now (sym c.find.ensures ∙ ap option_copied c.in-None.is))
