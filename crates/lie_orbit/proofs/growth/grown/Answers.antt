use Rattle.std.proofs.Common.{◌≤◌, length, subst, sym, ap, ◌∙◌, arith}
use Rattle.std.specs.Ordering.{int_eq}
use lib.Pointwise.{pointwise}
use Rattle.lie_orbit.specs.Growth.{IsGrowing, first_weight}
use Rattle.lie_orbit.proofs.GrowthLemmas.{first_inserted, grown_start, StartsWith-first}
use Rattle.lie_orbit.proofs.growth.grown.Goals as goal

pub close-requires : goal.close-requires
close-requires c =
    let only = c.in_ok-insert.ensures.keys ∙ first_inserted (pointwise int_eq) c.new-orbit.result.keys c.args.weight.now c.new-orbit.ensures.len in
    record { growing = subst (IsGrowing c.args.datum.now) (sym only) (grown_start c.args.datum.now c.args.weight.now c.requires.minuscule c.requires.small) }

pub returns-clause-first : goal.returns-clause-first
returns-clause-first c =
    let only = c.in_ok-insert.ensures.keys ∙ first_inserted (pointwise int_eq) c.new-orbit.result.keys c.args.weight.now c.new-orbit.ensures.len in
    let some : 1 ≤ length c.insert.new.self.keys = let e = ap length only in omega (arith, e) in
    StartsWith-first c.insert.new.self.keys c.close.new.orbit.keys some c.in_ok-close.ensures.kept ∙ ap first_weight only
