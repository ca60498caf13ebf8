use Rattle.std.proofs.Common.{◌≡◌, ◌+◌, pos, neg_ℤ, subst, sym, ap, ◌∙◌}
use Rattle.lie_weight.specs.Factors.{HasSmallPowers, AreElements}
use Rattle.lie_weight.proofs.StepLemmas.{place_index, small_up, small_down}
use Rattle.lie_weight.proofs.simple_factors.simple_factors.Goals as goal
use Rattle.lie_weight.proofs.simple_factors.simple_factors.Goals.{After-simple-simple, After-opposite}

pub simple-simple-requires : goal.simple-simple-requires
simple-simple-requires c = place_index c.args.datum.now c.loaded.ensures c.args.i c.requires.index

up_is : (c : After-simple-simple) → HasSmallPowers c.args.space.now (pos (c.args.i + 1))
up_is c = small_up c.args.datum.now c.loaded.ensures c.args.space.now c.requires.draft (c.args.i + 1) (place_index c.args.datum.now c.loaded.ensures c.args.i c.requires.index)

down_is : (c : After-simple-simple) → HasSmallPowers c.args.space.now (neg_ℤ (pos (c.args.i + 1)))
down_is c = small_down c.args.datum.now c.loaded.ensures c.args.space.now c.requires.draft (c.args.i + 1) (place_index c.args.datum.now c.loaded.ensures c.args.i c.requires.index)

opposite_is : (c : After-opposite) → c.opposite.result ≡ neg_ℤ (pos (c.args.i + 1))
opposite_is c = c.opposite.ensures ∙ ap neg_ℤ c.simple-simple.ensures.value

pub elements_of-requires : goal.elements_of-requires
elements_of-requires c = subst (HasSmallPowers c.args.space.now) (sym c.simple-simple.ensures.value) (up_is (goal.at.elements_of-requires c).After-simple-simple)

pub elements_of-requires-2 : goal.elements_of-requires-2
elements_of-requires-2 c = subst (HasSmallPowers c.args.space.now) (sym (opposite_is (goal.at.elements_of-requires-2 c).After-opposite)) (down_is (goal.at.elements_of-requires-2 c).After-simple-simple)

pub factors_of-requires-clause-up_powers : goal.factors_of-requires-clause-up_powers
factors_of-requires-clause-up_powers c = up_is (goal.at.factors_of-requires-clause-up_powers c).After-simple-simple

pub factors_of-requires-clause-down_powers : goal.factors_of-requires-clause-down_powers
factors_of-requires-clause-down_powers c = down_is (goal.at.factors_of-requires-clause-down_powers c).After-simple-simple

pub factors_of-requires-clause-up : goal.factors_of-requires-clause-up
factors_of-requires-clause-up c = subst (λ r. AreElements c.args.space.now r c.in_ok-up.up) c.simple-simple.ensures.value c.in_ok-up.ensures

pub factors_of-requires-clause-down : goal.factors_of-requires-clause-down
factors_of-requires-clause-down c = subst (λ r. AreElements c.args.space.now r c.in_ok-down.down) (opposite_is (goal.at.factors_of-requires-clause-down c).After-opposite) c.in_ok-down.ensures
