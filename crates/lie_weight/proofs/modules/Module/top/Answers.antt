-- A root has at most sixteen matrices for each basis vector.
use Rattle.std.proofs.Common.{◌*◌, ◌≤◌, ◌<◌, length, sym, ap, subst, ◌∙◌, arith}
use Rattle.std.proofs.Math.ListN.{get_or-map}
use Rattle.std.proofs.lemmas.List.Elements.{All-get_or}
use Rattle.lie_const.specs.Modules.{dimension}
use Rattle.lie_weight.specs.Kept.{ArePowers, kept_module}
use Rattle.lie_weight.proofs.modules.Module.top.Goals as goal

few : (c : goal.After-len) → c.len.result ≤ 16 * dimension (kept_module c.self.inside)
few c =
    let n = dimension (kept_module c.self.inside) in
    let v = c.index.result.now in
    let within : c.place.result < length (kept_module c.self.inside).powers = let w = c.place.ensures.within in let r = c.self.invariant.roots in omega (arith, w, r) in
    let at = get_or-map (λ v. v.items) c.self.inside.powers.items c.place.result v ∙ ap (λ v. v.items) (sym c.index.ensures) in
    let all = All-get_or (ArePowers n) (kept_module c.self.inside).powers c.place.result v.items within c.self.invariant.powers in
    let bound = (subst (ArePowers n) at all).few in
    let len = c.len.ensures in
    omega (arith, bound, len)

pub overflow_cast-result : goal.overflow_cast-result
overflow_cast-result c = let l = few c in let m = c.self.invariant.narrow in omega (arith, l, m)

pub returns-clause-bound : goal.returns-clause-bound
returns-clause-bound c = subst (λ v. c.len.result ≤ 16 * dimension v) c.self.view_is (few c)
