use Rattle.std.proofs.Common.{◌≡◌, ◌*◌, [], length, ap, sym, subst, ◌∙◌, arith}
use Rattle.std.proofs.lemmas.List.{length-replicate}
use Rattle.std.specs.List.{All}
use Rattle.lie_weight.specs.Kept.{ArePowers}
use Rattle.lie_weight.proofs.DraftLemmas.{all_empty}
use Rattle.lie_weight.proofs.modules.Module.bare.Goals as goal

pub invariant_of-result : goal.invariant_of-result
invariant_of-result c =
    let n = length c.args.weights.items in
    let e = c.loop.invariant in
    let t = c.loop-test.false in
    let a = c.loop.auto in
    let count : c.loop.counter ≡ 2 * c.args.positive = omega (arith, t, a) in
    record {
      small = c.requires.positive;
      narrow = let f = c.requires.few in omega (arith, f);
      light = c.requires.light;
      roots = ap length e ∙ length-replicate c.loop.counter [] ∙ count;
      powers = subst (λ (l : _). All (ArePowers n) l) (sym e) (all_empty n c.loop.counter);
    }
