use Rattle.std.proofs.Common.{length, List, subst, arith}
use Rattle.lie_datum.specs.Vectors.{Vector}
use Rattle.lie_datum.proofs.NumberLemmas.{place_within}
use Rattle.lie_const.specs.Modules.{dimension}
use Rattle.lie_weight.specs.Completion.{KeepsAll, source_powers}
use Rattle.lie_weight.proofs.DraftLemmas.{keeps_powers}
use Rattle.lie_weight.proofs.OneWeight.{source_alone}
use Rattle.lie_weight.proofs.filled.write_root.Goals as goal
use Rattle.lie_weight.proofs.filled.write_root.Goals.{In_ok-powers}

keeps : (c : In_ok-powers) → KeepsAll (dimension c.args.space.now) (source_powers c.args.datum.now c.args.space.now.weights c.args.source.now c.args.root) c.in_ok-powers.powers.items
keeps c = subst (λ (ws : List Vector). KeepsAll (length ws) (source_powers c.args.datum.now ws c.args.source.now c.args.root) c.in_ok-powers.powers.items) c.weights.ensures c.in_ok-powers.ensures

pub set_powers-requires-clause-r : goal.set_powers-requires-clause-r
set_powers-requires-clause-r c = let p = (place_within c.args.datum.now c.args.root c.requires.number).1 in let e = c.requires.draft.shape.positive in omega (arith, p, e)

pub set_powers-requires-clause-powers : goal.set_powers-requires-clause-powers
set_powers-requires-clause-powers c =
    let d = c.args.datum.now in
    let v = c.args.space.now in
    keeps_powers (dimension v) (source_powers d v.weights c.args.source.now c.args.root) c.in_ok-powers.powers.items c.requires.weights.some
    (λ one. source_alone d c.loaded.ensures v.weights one c.args.source.now c.requires.source c.args.root c.requires.number)
    (keeps (goal.at.set_powers-requires-clause-powers c).In_ok-powers)

pub returns : goal.returns
returns c = (c.in_ok-powers.powers.items, keeps (goal.at.returns c).In_ok-powers, c.set_powers.ensures)
