use Rattle.std.proofs.Common.{◌≡◌, ◌-◌, [], get_or, sym, ap, subst, ◌∙◌, arith, rules}
use Rattle.std.proofs.lemmas.Int.{ints, to_z-of_z}
use mir.Val.{SFits}
use mir.Syntax.{w32}
use Rattle.lie_datum.specs.RootDatum.{vector, IsWithin}
use Rattle.lie_datum.specs.RootList.{root_of, IsNumber}
use Rattle.lie_orbit.proofs.WeightLemmas.{root_within}
use Rattle.lie_weight.proofs.OneWeight.{entry_number}
use Rattle.lie_weight.proofs.TableLemmas.{graded_test}
use Rattle.lie_weight.proofs.table.is_graded.Goals as goal

pub returns-in_default : goal.returns-in_default
returns-in_default c =
    let d = c.args.datum.now in
    let r = c.args.entry.now.simple in
    let f : SFits w32 r = search rules in
    absurd (c.in_default.ensures (subst (IsNumber d) (sym (to_z-of_z w32 r f)) (entry_number d c.loaded.ensures r c.requires.entry.simple)))

pub less_multiple-raised-requires-clause-root : goal.less_multiple-raised-requires-clause-root
less_multiple-raised-requires-clause-root c = subst (IsWithin 80000) (sym c.root.ensures) (root_within c.args.datum.now c.loaded.ensures c.in-Some.root (subst (IsNumber c.args.datum.now) (sym c.in-Some.ensures.1) c.in-Some.ensures.0))

pub returns : goal.returns
returns c =
    let d = c.args.datum.now in
    let ws = c.args.weights.now in
    let e = c.args.entry.now in
    let f : SFits w32 e.simple = search rules in
    let root : c.in-Some.root ≡ e.simple = c.in-Some.ensures.1 ∙ to_z-of_z w32 e.simple f in
    let from = c.from.ensures in
    let power = c.requires.entry.power in
    graded_test c.eq.result (get_or ws (e.row - 1) []) (get_or ws (e.col - 1) []) c.less_multiple-raised.result c.root.result.now (vector d.base (root_of d e.simple)) _ e.power
    c.eq.ensures c.less_multiple-raised.ensures (c.root.ensures ∙ ap (λ r. vector d.base (root_of d r)) root) (omega (arith, ints, from, power))
