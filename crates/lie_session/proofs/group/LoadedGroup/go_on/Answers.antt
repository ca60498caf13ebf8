use Rattle.std.proofs.Common.{Some, refl, sym, ap, ◌∙◌, subst}
use Rattle.std.specs.Option.{option_copied}
use Rattle.std.specs.List.{AllByRecursion}
use Rattle.lie_const.specs.Modules.{Module, dimension}
use Rattle.lie_identities.specs.Covers.{IsCovering}
use Rattle.lie_letters.specs.SignedFrames.{SignedFrame}
use Rattle.lie_session.specs.Held.{LoadedGroup, IsRow}
use Rattle.lie_session.specs.declared.block.Block.TheVariants as block
use Rattle.lie_session.proofs.BlockLemmas.{grown_found, grown_covers, grown_are_rows, grown_kept, joined_kept, joined_text, joined_none}
use Rattle.lie_session.proofs.StageLemmas.{audited_held}
use Rattle.lie_session.proofs.group.LoadedGroup.go_on.Goals as goal

pub unreachable-requires : goal.unreachable-requires
unreachable-requires c =
    absurd (grown_found c.args.self.now c.self.inside.modules.entries (ap (λ (g : LoadedGroup). g.modules) c.self.view_is) c.args.rows c.name.result.now c.name.ensures c.requires.grown
    (sym c.find.ensures ∙ ap option_copied c.in_default.is))

pub invariant_of-self : goal.invariant_of-self
invariant_of-self c =
    let a = c.in-Some.space.now in
    record {
      audited = c.self.invariant.audited;
      block = grown_kept c.args.self.now c.self.inside.modules.entries (ap (λ (g : LoadedGroup). g.modules) c.self.view_is) c.args.rows c.name.result.now c.name.ensures c.requires.grown a
          (sym c.find.ensures ∙ ap option_copied c.in-Some.is) c.self.inside.group.frame c.count.result c.dim.result (ap (λ (g : LoadedGroup). g.frame) c.self.view_is) c.count.ensures
          (c.dim.ensures.value ∙ ap (λ (v : Module). dimension v) c.module.ensures.value) c.if-count-dim.true;
    }

pub returns-then-count-dim : goal.returns-then-count-dim
returns-then-count-dim c =
    let a = c.in-Some.space.now in
    joined_kept c.args.self.now c.self.inside.modules.entries (ap (λ (g : LoadedGroup). g.modules) c.self.view_is) c.args.rows c.name.result.now c.name.ensures c.requires.grown a
    (sym c.find.ensures ∙ ap option_copied c.in-Some.is) c.count.result c.dim.result _ c.count.ensures (c.dim.ensures.value ∙ ap (λ (v : Module). dimension v) c.module.ensures.value) c.if-count-dim.true
    (ap (λ (g : LoadedGroup). record g { block = Some (block.Rows c.args.rows) }) c.self.view_is)

pub reduced-requires-clause-audited : goal.reduced-requires-clause-audited
reduced-requires-clause-audited c =
    audited_held c.self.inside.group.frame c.self.inside.modules.entries c.name.result.now c.in-Some.space.now c.self.invariant.audited (sym c.find.ensures ∙ ap option_copied c.in-Some.is)

pub reduced-requires-clause-covering : goal.reduced-requires-clause-covering
reduced-requires-clause-covering c =
    let a = c.in-Some.space.now in
    subst (λ (f : SignedFrame). IsCovering f.field f.datum a.module a.lines) (sym (ap (λ (g : LoadedGroup). g.frame) c.self.view_is))
    (grown_covers c.args.self.now c.self.inside.modules.entries (ap (λ (g : LoadedGroup). g.modules) c.self.view_is) c.args.rows c.name.result.now c.name.ensures c.requires.grown a
    (sym c.find.ensures ∙ ap option_copied c.in-Some.is))

pub reduced-requires-clause-rows : goal.reduced-requires-clause-rows
reduced-requires-clause-rows c =
    let a = c.in-Some.space.now in
    subst (λ (f : SignedFrame). AllByRecursion (IsRow f.field (dimension a.module)) c.args.rows.rows) (sym (ap (λ (g : LoadedGroup). g.frame) c.self.view_is))
    (grown_are_rows c.args.self.now c.self.inside.modules.entries (ap (λ (g : LoadedGroup). g.modules) c.self.view_is) c.args.rows c.name.result.now c.name.ensures c.requires.grown a
    (sym c.find.ensures ∙ ap option_copied c.in-Some.is))

pub returns-in-Some-2 : goal.returns-in-Some-2
returns-in-Some-2 c =
    let a = c.in-Some.space.now in
    joined_text c.args.self.now c.self.inside.modules.entries (ap (λ (g : LoadedGroup). g.modules) c.self.view_is) c.args.rows c.name.result.now c.name.ensures c.requires.grown a
    (sym c.find.ensures ∙ ap option_copied c.in-Some.is) c.self.inside.group.frame c.count.result c.dim.result c.in_ok-text.field-0 c.in-Some-2.text _ (ap (λ (g : LoadedGroup). g.frame) c.self.view_is)
    c.count.ensures (c.dim.ensures.value ∙ ap (λ (v : Module). dimension v) c.module.ensures.value) c.if-count-dim.false c.in_ok-text.ensures c.in-Some-2.is refl c.requires.outside

pub returns : goal.returns
returns c = λ named. (
  joined_none c.args.self.now c.self.inside.modules.entries (ap (λ (g : LoadedGroup). g.modules) c.self.view_is) c.args.rows c.name.result.now c.name.ensures c.requires.grown c.in-Some.space.now
      (sym c.find.ensures ∙ ap option_copied c.in-Some.is) c.self.inside.group.frame c.count.result c.dim.result c.in_ok-text.field-0 (ap (λ (g : LoadedGroup). g.frame) c.self.view_is)
      c.count.ensures (c.dim.ensures.value ∙ ap (λ (v : Module). dimension v) c.module.ensures.value) c.if-count-dim.false c.in_ok-text.ensures c.in-None.is,
  refl,
)
