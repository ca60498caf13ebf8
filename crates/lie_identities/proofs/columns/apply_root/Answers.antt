use Rattle.std.proofs.Common.{◌+◌, ◌<◌, ◌^◌, sym, ap, subst, ◌∙◌, arith}
use Rattle.std.proofs.lemmas.Int.{ints}
use Rattle.lie_ring.specs.Matrices.{entry}
use Rattle.lie_const.specs.Modules.{dimension}
use Rattle.lie_poly.specs.Polynomials.{laurent, size, plus}
use Rattle.lie_identities.specs.Additions.{size_in, added_in}
use Rattle.lie_identities.specs.Columns.{IsColumn}
use Rattle.lie_identities.specs.Moves.{base_of}
use Rattle.lie_identities.proofs.RowLemmas.{rows-product}
use Rattle.lie_identities.proofs.columns.apply_root.Goals as goal

pub add_all-requires-clause-small : goal.add_all-requires-clause-small
add_all-requires-clause-small c = λ a l.
    let V = c.args.column.now in
    let h = c.requires.ready.column.height in
    let p = let g : a < dimension c.args.steps.now.module.now = omega (arith, l, h) in g in
    let s = c.in_ok-additions.ensures.small a p in
    let room = c.requires.ready.room a p in
    subst (λ xs. size (entry laurent.zero V a 0) + size_in laurent a xs < 2 ^ 126) (sym c.deref.ensures.value)
    (let g : size (entry laurent.zero V a 0) + size_in laurent a c.in_ok-additions.additions.items < 2 ^ 126 = omega (arith, ints, s, room) in g)

pub returns : goal.returns
returns c =
    let v = c.args.steps.now.module.now in
    let V = c.args.column.now in
    let N = c.add_all.new.column in
    let h = c.requires.ready.column.height in
    rows-product v c.args.r (base_of c.args.powers.now) V c.requires.ready.column c.in_ok-additions.additions.items N c.in_ok-additions.ensures
    (subst (λ n. IsColumn n N) h c.in_ok-add_all.ensures.column)
    (λ a p. c.in_ok-add_all.ensures.value a (omega (arith, p, h)) ∙ ap (λ xs. plus (entry laurent.zero V a 0) (added_in laurent a xs)) c.deref.ensures.value)
