use Rattle.std.proofs.Common.{◌≡◌, ◌+◌, ◌++◌, ℕ, map, ap, ◌∙◌, arith}
use Rattle.std.specs.List.{range_with_len}
use Rattle.lie_datum.specs.RootDatum.{rank}
use Rattle.lie_identities.specs.declared.relations.Rel.TheVariants.{S6}
use Rattle.lie_identities.proofs.ListedRelations.{images-more, range-self}
use Rattle.lie_identities.proofs.listing.push_s6.Goals as goal

pub loop-i-preserved : goal.loop-i-preserved
loop-i-preserved c =
    let k = c.loop-i.i in
    c.in_ok-push.ensures.items
    ∙ images-more S6 (λ (n : ℕ). n) c.args.list.now.items c.loop-i.list.items 1 k (k + 1) (omega arith) c.loop-i.invariant

pub returns : goal.returns
returns c =
    let old = c.args.list.now.items in
    let all : c.loop-i.i ≡ rank c.args.datum.now.base = (let t = c.loop-i-test.false in let e = c.l-i-end.ensures in let l = c.loop-i.auto in omega (arith, t, e, l)) in
    c.loop-i.invariant
    ∙ ap (λ l. old ++ map S6 l) (range-self (range_with_len 1 c.loop-i.i))
    ∙ ap (λ (n : ℕ). old ++ map S6 (range_with_len 1 n)) all
