use Rattle.std.proofs.Common.{◌-◌, suc, [], List, length, get_or, take, drop, ap, sym, ◌∙◌, arith}
use Rattle.lie_const.specs.declared.term.Term.{Term}
use Rattle.lie_const.proofs.PartLemmas.{part_at, ladder_at, place_behind, first_read, second_read}
use Rattle.lie_const.proofs.term_lists.TermLists.list.Goals as goal

pub index-requires : goal.index-requires
index-requires c = let l = place_behind c.self.inside.terms.items c.self.inside.starts.items c.args.self.now c.args.at c.self.invariant c.self.view_is c.requires in omega (arith, l)

pub overflow_add-at : goal.overflow_add-at
overflow_add-at c =
    let l = place_behind c.self.inside.terms.items c.self.inside.starts.items c.args.self.now c.args.at c.self.invariant c.self.view_is c.requires in
    omega (arith, l, c.self.inside.starts.ok.0)

pub index-requires-2 : goal.index-requires-2
index-requires-2 c = let l = place_behind c.self.inside.terms.items c.self.inside.starts.items c.args.self.now c.args.at c.self.invariant c.self.view_is c.requires in omega (arith, l)

pub between-requires-clause-rising : goal.between-requires-clause-rising
between-requires-clause-rising c =
    let xs = c.self.inside.starts.items in
    let l = place_behind c.self.inside.terms.items xs c.args.self.now c.args.at c.self.invariant c.self.view_is c.requires in
    let r = ladder_at (length c.self.inside.terms.items) xs c.args.at c.self.invariant l in
    let a = first_read xs c.args.at c.index.result.now l c.index.ensures in
    let b = second_read xs c.args.at c.index-2.result.now l c.index-2.ensures in
    omega (arith, r, a, b)

pub between-requires-clause-end : goal.between-requires-clause-end
between-requires-clause-end c =
    let xs = c.self.inside.starts.items in
    let l = place_behind c.self.inside.terms.items xs c.args.self.now c.args.at c.self.invariant c.self.view_is c.requires in
    let r = ladder_at (length c.self.inside.terms.items) xs c.args.at c.self.invariant l in
    let b = second_read xs c.args.at c.index-2.result.now l c.index-2.ensures in
    let e = ap length c.deref.ensures.value in
    omega (arith, r, b, e)

pub returns : goal.returns
returns c =
    let ts = c.self.inside.terms.items in
    let xs = c.self.inside.starts.items in
    let at = c.args.at in
    let l = place_behind ts xs c.args.self.now at c.self.invariant c.self.view_is c.requires in
    let first = get_or xs at 0 in
    let last = get_or xs (suc at) 0 in
    c.between.ensures ∙ ap (λ t. take (c.index-2.result.now - t) (drop t c.deref.result.now)) (first_read xs at c.index.result.now l c.index.ensures)
    ∙ ap (λ t. take (t - first) (drop first c.deref.result.now)) (second_read xs at c.index-2.result.now l c.index-2.ensures) ∙ ap (λ (t : List Term). take (last - first) (drop first t)) c.deref.ensures.value
    ∙ sym (part_at ts xs at l) ∙ ap (λ t. get_or t at []) c.self.view_is
