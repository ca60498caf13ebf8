use Rattle.std.proofs.Common.{◌∷◌, [], ◌++◌, map, sym, ap, ap₂, subst, ◌∙◌}
use Rattle.std.specs.List.{All}
use Rattle.std.proofs.lemmas.List.{take_more, take_all, map-append}
use Rattle.std.proofs.lemmas.List.Elements.{All-push}
use Rattle.lie_identities.specs.Columns.{IsNarrowSide}
use Rattle.lie_identities.specs.Actions.{factor_of, HasPowersFor}
use Rattle.lie_identities.proofs.ActionLemmas.{narrow-at}
use Rattle.lie_identities.proofs.actions.actions.Goals as goal

pub action-requires : goal.action-requires
action-requires c =
    narrow-at c.args.steps.now.datum.now c.args.steps.now.module.now c.args.factors.now c.loop-factor.factor-index c.factor-item.result c.args.steps.now.is_module c.requires c.loop-factor-test.true c.factor-item.is

pub loop-factor-preserved : goal.loop-factor-preserved
loop-factor-preserved c =
    let v = c.args.steps.now.module.now in
    let k = c.loop-factor.factor-index in
    let x = c.in_ok-action.field-0 in
    record {
      same =
          ap (map factor_of) c.in_ok-push.ensures.items
          ∙ map-append factor_of c.loop-factor.actions.items (c.in_ok-action.field-0 ∷ [])
          ∙ ap₂ (λ ys y. ys ++ y ∷ []) c.loop-factor.invariant.same (c.in_ok-action.ensures.value ∙ c.factor-item.is)
          ∙ sym (take_more c.args.factors.now k c.factor-item.result c.loop-factor-test.true);
      powers = subst (All (HasPowersFor v)) (sym c.in_ok-push.ensures.items) (All-push (HasPowersFor v) c.loop-factor.actions.items c.in_ok-action.field-0 c.loop-factor.invariant.powers c.in_ok-action.ensures.powers);
    }

pub returns-clause-same : goal.returns-clause-same
returns-clause-same c = c.loop-factor.invariant.same ∙ take_all c.loop-factor.factor-index c.args.factors.now c.loop-factor-test.false

pub returns-clause-actions : goal.returns-clause-actions
returns-clause-actions c = record {
  narrow = subst (IsNarrowSide c.args.steps.now.datum.now c.args.steps.now.module.now) (sym (c.loop-factor.invariant.same ∙ take_all c.loop-factor.factor-index c.args.factors.now c.loop-factor-test.false)) c.requires;
  powers = c.loop-factor.invariant.powers;
}
