use Rattle.std.proofs.Common.{◌≤◌, pos, neg_ℤ, subst}
use Rattle.lie_const.specs.Modules.{dimension}
use Rattle.lie_weight.proofs.ElementLemmas.{elements_sizes, across, first_inner, first_outer, second_inner, second_outer, third_inner, third_outer, made_factors}
use Rattle.lie_weight.proofs.simple_factors.factors_of.Goals as goal
use Rattle.lie_weight.proofs.simple_factors.factors_of.Goals.{After-dim}

few_is : (c : After-dim) → dimension c.args.space.now ≤ 1024
few_is c = subst (λ n. n ≤ 1024) c.dim.ensures.value c.dim.ensures.few

pub sandwich-requires-clause-shape : goal.sandwich-requires-clause-shape
sandwich-requires-clause-shape c = across (dimension c.args.space.now) c.args.up.now.plus c.args.down.now.minus (elements_sizes c.args.space.now (pos c.args.index) c.args.up.now c.requires.up).plus (elements_sizes c.args.space.now (neg_ℤ (pos c.args.index)) c.args.down.now c.requires.down).minus

pub sandwich-requires-clause-inner_shape : goal.sandwich-requires-clause-inner_shape
sandwich-requires-clause-inner_shape c = across (dimension c.args.space.now) c.args.down.now.minus c.args.up.now.plus (elements_sizes c.args.space.now (neg_ℤ (pos c.args.index)) c.args.down.now c.requires.down).minus (elements_sizes c.args.space.now (pos c.args.index) c.args.up.now c.requires.up).plus

pub sandwich-requires-clause-inner : goal.sandwich-requires-clause-inner
sandwich-requires-clause-inner c = first_inner c.args.space.now c.args.index (few_is (goal.at.sandwich-requires-clause-inner c).After-dim) c.requires.up_powers c.requires.down_powers c.args.up.now c.args.down.now c.requires.up c.requires.down

pub sandwich-requires-clause-outer : goal.sandwich-requires-clause-outer
sandwich-requires-clause-outer c = first_outer c.args.space.now c.args.index (few_is (goal.at.sandwich-requires-clause-outer c).After-dim) c.requires.up_powers c.requires.down_powers c.args.up.now c.args.down.now c.requires.up c.requires.down

pub sandwich-requires-2-clause-shape : goal.sandwich-requires-2-clause-shape
sandwich-requires-2-clause-shape c = across (dimension c.args.space.now) c.args.up.now.minus c.args.down.now.plus (elements_sizes c.args.space.now (pos c.args.index) c.args.up.now c.requires.up).minus (elements_sizes c.args.space.now (neg_ℤ (pos c.args.index)) c.args.down.now c.requires.down).plus

pub sandwich-requires-2-clause-inner_shape : goal.sandwich-requires-2-clause-inner_shape
sandwich-requires-2-clause-inner_shape c = across (dimension c.args.space.now) c.args.down.now.plus c.args.up.now.minus (elements_sizes c.args.space.now (neg_ℤ (pos c.args.index)) c.args.down.now c.requires.down).plus (elements_sizes c.args.space.now (pos c.args.index) c.args.up.now c.requires.up).minus

pub sandwich-requires-2-clause-inner : goal.sandwich-requires-2-clause-inner
sandwich-requires-2-clause-inner c = second_inner c.args.space.now c.args.index (few_is (goal.at.sandwich-requires-2-clause-inner c).After-dim) c.requires.up_powers c.requires.down_powers c.args.up.now c.args.down.now c.requires.up c.requires.down

pub sandwich-requires-2-clause-outer : goal.sandwich-requires-2-clause-outer
sandwich-requires-2-clause-outer c = second_outer c.args.space.now c.args.index (few_is (goal.at.sandwich-requires-2-clause-outer c).After-dim) c.requires.up_powers c.requires.down_powers c.args.up.now c.args.down.now c.requires.up c.requires.down

pub sandwich-requires-3-clause-shape : goal.sandwich-requires-3-clause-shape
sandwich-requires-3-clause-shape c = across (dimension c.args.space.now) c.args.up.now.absolute c.args.down.now.absolute (elements_sizes c.args.space.now (pos c.args.index) c.args.up.now c.requires.up).absolute (elements_sizes c.args.space.now (neg_ℤ (pos c.args.index)) c.args.down.now c.requires.down).absolute

pub sandwich-requires-3-clause-inner_shape : goal.sandwich-requires-3-clause-inner_shape
sandwich-requires-3-clause-inner_shape c = across (dimension c.args.space.now) c.args.down.now.absolute c.args.up.now.absolute (elements_sizes c.args.space.now (neg_ℤ (pos c.args.index)) c.args.down.now c.requires.down).absolute (elements_sizes c.args.space.now (pos c.args.index) c.args.up.now c.requires.up).absolute

pub sandwich-requires-3-clause-inner : goal.sandwich-requires-3-clause-inner
sandwich-requires-3-clause-inner c = third_inner c.args.space.now c.args.index (few_is (goal.at.sandwich-requires-3-clause-inner c).After-dim) c.requires.up_powers c.requires.down_powers c.args.up.now c.args.down.now c.requires.up c.requires.down

pub sandwich-requires-3-clause-outer : goal.sandwich-requires-3-clause-outer
sandwich-requires-3-clause-outer c = third_outer c.args.space.now c.args.index (few_is (goal.at.sandwich-requires-3-clause-outer c).After-dim) c.requires.up_powers c.requires.down_powers c.args.up.now c.args.down.now c.requires.up c.requires.down

pub returns : goal.returns
returns c = made_factors c.args.space.now c.args.index (few_is (goal.at.returns c).After-dim) c.requires.up_powers c.requires.down_powers c.args.up.now c.args.down.now c.requires.up c.requires.down
    (record { element = c.in_ok-element.element; inverse = c.in_ok-inverse.inverse; absolute = c.in_ok-absolute.absolute })
    c.in_ok-element.ensures.value c.in_ok-inverse.ensures.value c.in_ok-absolute.ensures.value c.in_ok-element.ensures.fit c.in_ok-inverse.ensures.fit c.in_ok-absolute.ensures.fit
