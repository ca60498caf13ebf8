use Rattle.std.proofs.Common.{ℤ, length, ap, sym, subst, ◌∙◌, List}
use Rattle.std.proofs.lemmas.List.{map-set, length-set}
use Rattle.std.proofs.lemmas.List.Elements.{All-set}
use Rattle.std.specs.List.{All}
use Rattle.lie_ring.specs.Matrices.{Matrix}
use Rattle.lie_const.specs.Modules.{Module, dimension}
use Rattle.lie_datum.specs.Numbers.{place}
use Rattle.lie_weight.specs.Kept.{ArePowers, kept_module}
use Rattle.lie_weight.proofs.DraftLemmas.{written}
use Rattle.lie_weight.proofs.modules.Module.set_powers.Goals as goal

pub invariant_of-self : goal.invariant_of-self
invariant_of-self c =
    let a = c.self.inside in
    let old = (kept_module a).powers in
    let new = map-set (λ (v : _). v.items) a.powers.items c.place-place.result c.args.powers in
    record {
      small = c.self.invariant.small;
      narrow = c.self.invariant.narrow;
      light = c.self.invariant.light;
      roots = ap length new ∙ length-set old c.place-place.result c.args.powers.items ∙ c.self.invariant.roots;
      powers = subst (All (ArePowers (length a.weights.items))) (sym new)
          (All-set (ArePowers (length a.weights.items)) old c.place-place.result c.args.powers.items (subst (λ (m : Module). ArePowers (dimension m) c.args.powers.items) (sym c.self.view_is) c.requires.powers) c.self.invariant.powers);
    }

pub returns : goal.returns
returns c =
    let a = c.self.inside in
    let new = map-set (λ (v : _). v.items) a.powers.items c.place-place.result c.args.powers in
    ap (λ (l : List (List (Matrix ℤ))). record { positive = a.positive; weights = a.weights.items; powers = l }) new
    ∙ written (kept_module a) c.args.self.now c.place-place.result c.args.r c.args.powers.items c.self.view_is (c.place-place.ensures.value ∙ ap (λ (m : Module). place m.positive c.args.r) c.self.view_is)
